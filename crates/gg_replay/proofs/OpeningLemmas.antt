-- The log before the first cycle.
use Rattle.std.proofs.Common.{◌≡◌, ℕ, suc, ◌<◌, ◌≤◌, List, [], ◌∷◌, Option, None, Some, length, refl, sym, ap, ◌∙◌, ⊎_elim, arith}
use Rattle.std.specs.Prelude.{take}
use Rattle.std.proofs.lemmas.Bool.{cases_lt}
use Rattle.std.proofs.lemmas.List.{get_or-map, get_or_past, length-map}
use Rattle.gg_flat.specs.Line.{value_at}
use Rattle.gg_flat.specs.Streams.{Flow}
use Rattle.gg_node.specs.Machine.{Machine, no_machine, machine_at, flag_at}
use Rattle.gg_net.specs.declared.shape.Wire.{Wire}
use Rattle.gg_net.specs.Network.{Network, wire_at, and_one, puts, entered_by, opening_queue}
use Rattle.gg_net.specs.Kept.{Kept, list_at}
use Rattle.gg_net.specs.inside.Net.{IsOpening}
use Rattle.gg_net.specs.Net.{opening_net}
use Rattle.gg_net.proofs.MarkingsLemmas.OpeningLemmas.{none-put}
use Rattle.gg_replay.specs.inside.Log.{AreFronts, opening_log}

-- the first value of a list
front-one : (list : List ℕ) → 0 < length list → value_at list 0 ∷ [] ≡ take 1 list
front-one [] some = absurd (omega (arith, some))
front-one (x ∷ list) some = refl

abbrev no_wire : Wire
no_wire = record { producer = 0; out = 0; consumer = 0; place = 0; capacity = 0; first = None }

module _ (flow : Flow) (machines : List Machine) (wires : List Wire) (end : ℕ) (starts : flow.begin ≡ 0) (kept : Kept flow (opening_net machines wires end))
    (opening : (m : ℕ) → m < length machines → IsOpening flow m (machine_at machines m)) where
  abbrev net : Network
  net = opening_net machines wires end

  none-put-yet : (c : ℕ) → puts net c ≡ 0
  none-put-yet c =
      let m = (wire_at wires c).producer in
      ⊎_elim
      (λ (there : m < length machines). none-put flow machines wires end opening c there ∙ starts)
      (λ (past : length machines ≤ m). ap (λ (x : Machine). and_one x.cycle (flag_at x.flags (wire_at wires c).out)) (get_or_past machines m no_machine past))
      (cases_lt m (length machines))

  -- the token with which a channel opens is the first of its list
  opens-so : (c : ℕ) → c < length wires → (first : Option ℕ) → (wire_at wires c).first ≡ first → opening_queue first ≡ take (entered_by first 0) (list_at flow.lists c)
  opens-so c lt None is = refl
  opens-so c lt (Some token) is =
      let long = kept.sound.solves.long c lt in
      let count : length (list_at flow.lists c) ≡ suc end = long ∙ ap (λ first. entered_by first end) is in
      ap (λ x. x ∷ []) (kept.sound.solves.opens c token lt is ∙ ap (value_at (list_at flow.lists c)) starts) ∙ front-one (list_at flow.lists c) (omega (arith, count))

  pub first-fronts : AreFronts flow net (opening_log wires)
  first-fronts =
      record {
        count = length-map wires (λ (wire : Wire). opening_queue wire.first);
        each =
            λ c lt.
            get_or-map (λ (wire : Wire). opening_queue wire.first) wires c no_wire [] lt
            ∙ opens-so c lt (wire_at wires c).first refl
            ∙ ap (λ n. take (entered_by (wire_at wires c).first n) (list_at flow.lists c)) (sym (none-put-yet c));
      }
