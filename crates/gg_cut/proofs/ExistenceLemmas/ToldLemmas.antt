-- Each channel of a plan has its needs: a list for each.
use Rattle.std.proofs.Common.{◌≡◌, ℕ, ◌<◌, List, [], length, map, get_or, refl, sym, ◌∙◌, ap, subst, arith}
use Rattle.std.specs.Prelude.{AllPairs}
use Rattle.std.specs.List.{range_with_len}
use Rattle.std.proofs.lemmas.List.{get_or_default}
use Rattle.std.proofs.lemmas.List.Elements.{Contains-get_or}
use Rattle.std.proofs.lemmas.List.FromFn.{get_or-map-range_with_len}
use Rattle.gg_flat.specs.Line.{value_at}
use Rattle.gg_flat.proofs.ListLemmas.{once-apart, some-item}
use Rattle.gg_order.specs.needs.Needs.{AreNeedsOfOuts}
use Rattle.gg_part.specs.declared.part.Part.{Part}
use Rattle.gg_cut_plan.specs.declared.plan.Body.{Body}
use Rattle.gg_cut_plan.specs.declared.plan.Body.TheVariants.{Cut, Memory, Source, Tray, Bridge}
use Rattle.gg_cut_plan.specs.declared.plan.Machine.{Machine}
use Rattle.gg_cut_plan.specs.declared.wires.Wire.{Wire}
use Rattle.gg_cut_plan.specs.Plan.{NeedsIn, channels_from, channels_to, wire_at}
use Rattle.gg_cut.specs.inside.Made.{AreGiven, ArePartNeeds, ArePut, AreTold, IsFit, IsServed, IsServedBody}
use Rattle.gg_cut_parts.proofs.MachineLemmas.{from-below}
use Rattle.gg_cut.proofs.NeedLemmas.{given-cut, given-memory, given-once, part-told}
use Rattle.gg_cut.proofs.ExistenceLemmas.FilledLemmas.{IsFilled, Something, filled, place_in, placed}
use Rattle.gg_cut.proofs.ExistenceLemmas.NeedLemmas.{HasNeeds, needs-there}

-- the needs of the channel that a part gives by a signal, and of one that a machine gives
record HasPartNeeds (part : Part) (taken : List ℕ) (s : ℕ) : Type 0 where
  told : List ℕ
  are : ArePartNeeds part taken s told

pub record HasGiven (machine : Machine) (w : Wire) : Type 0 where
  pub told : List ℕ
  pub are : AreGiven machine w told

none-told : AllPairs (λ a b. a < b) []
none-told i j d less lt = absurd (omega (arith, lt))

module _ (wires : List Wire) (m : ℕ) (taken given : List ℕ) (to : taken ≡ channels_to wires m) (from : given ≡ channels_from wires m) (c : ℕ) (known : c < length wires) (gives : (wire_at wires c).producer ≡ m) where
  module _ (part : Part) (served : IsServed wires part taken given) (lists : List (List ℕ)) (all : AreNeedsOfOuts part.piece lists) where
    abbrev listed : ℕ → List ℕ
    listed k = map (value_at taken) (get_or lists (place_in given k) [])

    abbrev table : List (List ℕ)
    table = map listed (range_with_len 0 (length wires))

    put : ArePut taken given lists table (length given) table
    put =
        record {
          count = refl;
          put = λ i lt.
              let low = from-below wires m given from i 0 lt in
              let at = placed given (value_at given i) (Contains-get_or given i 0 lt) in
              get_or-map-range_with_len listed 0 (length wires) (value_at given i) (value_at given i) [] low (omega arith)
              ∙ ap (λ k. map (value_at taken) (get_or lists k [])) (once-apart given 0 (given-once wires m given from) (place_in given (value_at given i)) i at.within lt at.found);
          others = λ k none. refl;
        }

    part-needs : ArePartNeeds part taken (wire_at wires c).given (get_or table c [])
    part-needs = part-told wires part taken given m lists table table served to from all put c known gives

  part-told-by : (part : Part) → IsServed wires part taken given → HasNeeds part.piece → HasPartNeeds part taken (wire_at wires c).given
  part-told-by part served has = record { told = get_or (table part served has.lists has.are) c []; are = part-needs part served has.lists has.are }

module _ (wires : List Wire) (m c : ℕ) (known : c < length wires) (gives : (wire_at wires c).producer ≡ m) (machine : Machine) (to : machine.ins ≡ channels_to wires m) (from : machine.outs ≡ channels_from wires m) where
  abbrev w : Wire
  w = wire_at wires c

  part-has : (part : Part) → IsServed wires part machine.ins machine.outs → HasPartNeeds part machine.ins (wire_at wires c).given
  part-has part served = part-told-by wires m machine.ins machine.outs to from c known gives part served (needs-there part.piece served.ordered)

  given-by-body : (body : Body) → machine.body ≡ body → IsServedBody wires body machine.ins machine.outs → HasGiven machine w
  given-by-body (Cut part) is served = let needs = part-has part served in record { told = needs.told; are = given-cut machine w part machine.ins needs.told is refl needs.are }
  given-by-body (Memory part) is served = let needs = part-has part served in record { told = needs.told; are = given-memory machine w part machine.ins needs.told is refl needs.are }
  given-by-body (Source place) is served = record { told = []; are = record { ascending = none-told; needs = subst (λ (b : Body). NeedsIn b machine.ins w.given []) (sym is) refl } }
  given-by-body Tray is served = record { told = []; are = record { ascending = none-told; needs = subst (λ (b : Body). NeedsIn b machine.ins w.given []) (sym is) refl } }
  given-by-body (Bridge bridge) is served = record { told = []; are = record { ascending = none-told; needs = subst (λ (b : Body). NeedsIn b machine.ins w.given []) (sym is) refl } }

-- a list of needs for each channel between machines that fit
pub record HasTable (wires : List Wire) (machines : List Machine) : Type 0 where
  pub table : List (List ℕ)
  pub are : AreTold wires machines table

module _ (wires : List Wire) (machines : List Machine) (fit : (m : ℕ) (any : Machine) → m < length machines → IsFit wires m (get_or machines m any)) (given : (c : ℕ) → c < length wires → (wire_at wires c).producer < length machines) where
  abbrev ToldFor : ℕ → List ℕ → Type 0
  ToldFor c told = (any : Machine) → AreGiven (get_or machines (wire_at wires c).producer any) (wire_at wires c) told

  told-there : (c : ℕ) → c < length wires → Something ToldFor c
  told-there c lt =
      let m = (wire_at wires c).producer in
      let low = given c lt in
      let some = some-item machines m low in
      let machine = get_or machines m some in
      let is = fit m some low in
      let has = given-by-body wires m c lt refl machine is.ins is.outs machine.body refl is.body in
      record { it = has.told; is = λ any. subst (λ (x : Machine). AreGiven x (wire_at wires c) has.told) (get_or_default machines m some any low) has.are }

  table-by : IsFilled ToldFor (length wires) → HasTable wires machines
  table-by table = record { table = table.items; are = record { count = table.many; each = λ c any lt. table.each c [] lt any } }

  pub table-there : HasTable wires machines
  table-there = table-by (filled ToldFor (length wires) told-there)
