-- The table of steps for a network that is wired: an event may be done exactly if its conditions hold of the machine at
-- hand, and each refusal is told by what the machine waits for.
use Rattle.std.proofs.Common.{◌≡◌, ℕ, suc, ◌<◌, ◌≤◌, List, [], ◌∷◌, Option, None, Some, Bool, true, false, cond, length, map, refl, sym, ap, subst, ◌∙◌, ⊎_elim, arith}
use Rattle.std.specs.Prelude.{All, Contains, IsSome, is_some, not, ◌==◌, slice_get, slice_index_or}
use Rattle.std.proofs.lemmas.Bool.{cases_lt, lt-ltb, le-ltb, ltb-true, not-false, eq-eqb, eqb-true, true≢false}
use Rattle.std.proofs.lemmas.List.{get_or_past, get_or_default}
use Rattle.std.proofs.lemmas.Option.{same_Some, none-some, slice_get_within, get_or_from_slice_get}
use Rattle.gg_node.specs.Machine.{Port, Machine, no_machine, machine_at, latch_at, flag_at, needs_at, first_empty, empty_or, missing}
use Rattle.gg_node.specs.inside.Machine.{port_number, due}
use Rattle.gg_node.specs.Step.{fields_of, AllFired}
use Rattle.gg_node.specs.inside.Step.{AllLatched}
use Rattle.gg_net.specs.declared.event.Event.{Event}
use Rattle.gg_net.specs.declared.event.Event.TheVariants.{Latch, Fire, Serve, Finish}
use Rattle.gg_net.specs.declared.event.StepRefusal.{StepRefusal}
use Rattle.gg_net.specs.declared.shape.Wire.{Wire}
use Rattle.gg_net.specs.Network.{Network, wire_at, producer_of, IsAtIn, IsAtOut, Kind, kind_of, kind_at, frame_of}
use Rattle.gg_net.specs.Refusal.{Turn, first_without, ins_of_machine, outs_of_machine}
use Rattle.gg_net.specs.Step.{latch_of, flag_of, channel_into, channels_at, turn_of, turn_if, facts_of, Ready, Refused}
use Rattle.gg_net.specs.inside.Readings.{fields_at, due_fields, due_channels}
use Rattle.gg_net.proofs.Can.{IsBelow, missing_field, CanLatch, CanFire, CanServe, CanFinish, IsUnfired, IsUnlatched}
use Rattle.gg_net.specs.Kept.{IsWired}
use Rattle.gg_net.proofs.FrameLemmas.{machine-known, machine-there, kind-is}
use Rattle.gg_net.proofs.WireLemmas.{one-in, channel-is}
use Rattle.gg_net.proofs.FindLemmas.{find-none, find-some, chosen-fail, some-none}
use Rattle.gg_net.proofs.RowLemmas.{LatchGoes, latch-goes, goes-latch, FireGoes, fire-goes, goes-fire, ServeGoes, serve-goes, goes-serve, FinishGoes, finish-goes, goes-finish}

-- ---- over plain variables

pub empty-is : (latch : Option ℕ) → is_some latch ≡ false → latch ≡ None
empty-is None is = refl
empty-is (Some value) is = absurd (true≢false is)

-- one more channel d, at in i
none-more : (latch : Option ℕ) (i d : ℕ) (rest later : Option ℕ) (mark : Bool) → mark ≡ is_some latch → empty_or latch i rest ≡ None → (rest ≡ None → later ≡ None) → cond (not mark) (Some d) later ≡ None
none-more None i d rest later mark is none go = absurd (none-some i (sym none))
none-more (Some value) i d rest later mark is none go = ap (λ b. cond (not b) (Some d) later) is ∙ go none

more-none : (latch : Option ℕ) (i d : ℕ) (rest later : Option ℕ) (mark : Bool) → mark ≡ is_some latch → cond (not mark) (Some d) later ≡ None → (later ≡ None → rest ≡ None) → empty_or latch i rest ≡ None
more-none None i d rest later mark is none go = absurd (none-some d (sym none ∙ ap (λ b. cond (not b) (Some d) later) is))
more-none (Some value) i d rest later mark is none go = go (sym (ap (λ b. cond (not b) (Some d) later) is) ∙ none)

some-more : (latch : Option ℕ) (i j d e : ℕ) (rest later : Option ℕ) (mark : Bool) → mark ≡ is_some latch → empty_or latch i rest ≡ Some j → (i ≡ j → d ≡ e) → (rest ≡ Some j → later ≡ Some e) → cond (not mark) (Some d) later ≡ Some e
some-more None i j d e rest later mark is found same go = ap (λ b. cond (not b) (Some d) later) is ∙ ap Some (same (same_Some i j found))
some-more (Some value) i j d e rest later mark is found same go = ap (λ b. cond (not b) (Some d) later) is ∙ go found

-- An event that may be done isn't refused.
pub never : (net : Network) (event : Event) (cause : StepRefusal) → Ready net event → Refused net event cause → ⊥
never net event cause ready refused = some-none cause (sym refused ∙ ready)

module _ (net : Network) where
  -- ---- cycles

  pub below-is : (m : ℕ) → IsBelow net m → (facts_of net).below m ≡ true
  below-is m below = lt-ltb (machine_at net.machines m).cycle net.end below

  pub is-below : (m : ℕ) → (facts_of net).below m ≡ true → IsBelow net m
  is-below m is = ltb-true (machine_at net.machines m).cycle net.end is

  pub over-is : (m : ℕ) → net.end ≤ (machine_at net.machines m).cycle → (facts_of net).below m ≡ false
  over-is m over = le-ltb (machine_at net.machines m).cycle net.end over

  -- a machine that has a port is one of the network's
  pub port-there : (m p : ℕ) → p < (machine_at net.machines m).port_count → m < length net.machines
  port-there m p port =
      ⊎_elim
      (λ (there : m < length net.machines). there)
      (λ (past : length net.machines ≤ m). absurd (omega (arith, port, ap (λ (x : Machine). x.port_count) (get_or_past net.machines m no_machine past))))
      (cases_lt m (length net.machines))

  -- ---- `Latch`

  pub latch-can : (c : ℕ) → Ready net (Latch c) → CanLatch net c
  latch-can c ready =
      let goes : LatchGoes (facts_of net) c = latch-goes (facts_of net) c ready in
      record { can = (goes.known, is-below (wire_at net.wires c).consumer goes.below); empty = empty-is (latch_of net c) goes.empty; held = goes.held }

  pub can-latch : (c : ℕ) → CanLatch net c → Ready net (Latch c)
  can-latch c can = goes-latch (facts_of net) c (record { known = can.can.0; below = below-is (wire_at net.wires c).consumer can.can.1; empty = ap is_some can.empty; held = can.held })

  module _ (wired : IsWired (frame_of net)) where
    module _ (m : ℕ) (there : m < length net.machines) where
      abbrev x : Machine
      x = machine_at net.machines m

      known : m < length (map kind_of net.machines)
      known = machine-known net m there

      -- ---- the channels that the machine gives

      given-is : (c : ℕ) → (wire_at net.wires c).producer ≡ m → flag_of net c ≡ flag_at x.flags (wire_at net.wires c).out
      given-is c is = ap (λ k. flag_at (machine_at net.machines k).flags (wire_at net.wires c).out) is

      out-within : (c : ℕ) → c < length net.wires → (wire_at net.wires c).producer ≡ m → (wire_at net.wires c).out < length x.flags
      out-within c lt is =
          subst (λ (k : Kind). (wire_at net.wires c).out < k.outs) (kind-is net m)
          (subst (λ k. (wire_at net.wires c).out < (kind_at (frame_of net).kinds k).outs) is (wired.out c lt))

      pub none-unfired : AllFired x → first_without (facts_of net).given (outs_of_machine (facts_of net) m) ≡ None
      none-unfired all =
          find-none (λ c. not (flag_of net c)) (λ c. (wire_at net.wires c).producer == m) 0 (length net.wires) (λ c le lt chosen.
          let is : (wire_at net.wires c).producer ≡ m = eqb-true (wire_at net.wires c).producer m chosen in
          ap not (given-is c is ∙ all (wire_at net.wires c).out false (out-within c (omega (arith, lt)) is)))

      pub all-fired : first_without (facts_of net).given (outs_of_machine (facts_of net) m) ≡ None → AllFired x
      all-fired none o any lt =
          let at : (c : ℕ) × IsAtOut net.wires m o c = wired.from m o known (omega (arith, lt, ap (λ (k : Kind). k.outs) (kind-is net m))) in
          let fails : not (flag_of net at.0) ≡ false =
          chosen-fail (λ c. not (flag_of net c)) (λ c. (wire_at net.wires c).producer == m) 0 (length net.wires) none at.0 (omega arith) (omega (arith, at.1.known)) (eq-eqb (wire_at net.wires at.0).producer m at.1.machine) in
          get_or_default x.flags o any false lt ∙ ap (flag_at x.flags) (sym at.1.out) ∙ sym (given-is at.0 at.1.machine) ∙ not-false (flag_of net at.0) fails

      pub first-unfired : (d : ℕ) → IsUnfired net m d → first_without (facts_of net).given (outs_of_machine (facts_of net) m) ≡ Some d
      first-unfired d unfired =
          let d_known : d < length net.wires = unfired.at.known in
          find-some (λ c. not (flag_of net c)) (λ c. (wire_at net.wires c).producer == m) 0 (length net.wires) d (omega arith) (omega (arith, d_known)) (eq-eqb (wire_at net.wires d).producer m unfired.at.machine)
          (ap not (given-is d unfired.at.machine ∙ ap (flag_at x.flags) unfired.at.out ∙ unfired.first.clear))
          (λ c le lt chosen.
          let is : (wire_at net.wires c).producer ≡ m = eqb-true (wire_at net.wires c).producer m chosen in
          let out_before : (wire_at net.wires c).out < (wire_at net.wires d).out = wired.order.outs c d lt d_known (is ∙ sym unfired.at.machine) in
          ap not (given-is c is ∙ unfired.first.before (wire_at net.wires c).out (omega (arith, out_before, unfired.at.out))))

      -- ---- the channels that the machine takes

      taken-is : (c : ℕ) → (wire_at net.wires c).consumer ≡ m → is_some (latch_of net c) ≡ is_some (latch_at x.latches (wire_at net.wires c).place)
      taken-is c is = ap (λ k. is_some (latch_at (machine_at net.machines k).latches (wire_at net.wires c).place)) is

      place-within : (c : ℕ) → c < length net.wires → (wire_at net.wires c).consumer ≡ m → (wire_at net.wires c).place < length x.latches
      place-within c lt is =
          subst (λ (k : Kind). (wire_at net.wires c).place < k.ins) (kind-is net m)
          (subst (λ k. (wire_at net.wires c).place < (kind_at (frame_of net).kinds k).ins) is (wired.place c lt))

      pub none-unlatched : AllLatched x → first_without (facts_of net).taken (ins_of_machine (facts_of net) m) ≡ None
      none-unlatched all =
          find-none (λ c. not (is_some (latch_of net c))) (λ c. (wire_at net.wires c).consumer == m) 0 (length net.wires) (λ c le lt chosen.
          let is : (wire_at net.wires c).consumer ≡ m = eqb-true (wire_at net.wires c).consumer m chosen in
          let some : IsSome (latch_at x.latches (wire_at net.wires c).place) = all (wire_at net.wires c).place None (place-within c (omega (arith, lt)) is) in
          ap not (taken-is c is ∙ some))

      pub all-latched : first_without (facts_of net).taken (ins_of_machine (facts_of net) m) ≡ None → AllLatched x
      all-latched none i any lt =
          let at : (c : ℕ) × IsAtIn net.wires m i c = wired.into m i known (omega (arith, lt, ap (λ (k : Kind). k.ins) (kind-is net m))) in
          let fails : not (is_some (latch_of net at.0)) ≡ false =
          chosen-fail (λ c. not (is_some (latch_of net c))) (λ c. (wire_at net.wires c).consumer == m) 0 (length net.wires) none at.0 (omega arith) (omega (arith, at.1.known)) (eq-eqb (wire_at net.wires at.0).consumer m at.1.machine) in
          ap is_some (get_or_default x.latches i any None lt ∙ ap (latch_at x.latches) (sym at.1.place)) ∙ sym (taken-is at.0 at.1.machine) ∙ not-false (is_some (latch_of net at.0)) fails

      pub first-unlatched : (d : ℕ) → IsUnlatched net m d → first_without (facts_of net).taken (ins_of_machine (facts_of net) m) ≡ Some d
      first-unlatched d unlatched =
          let d_known : d < length net.wires = unlatched.at.known in
          find-some (λ c. not (is_some (latch_of net c))) (λ c. (wire_at net.wires c).consumer == m) 0 (length net.wires) d (omega arith) (omega (arith, d_known)) (eq-eqb (wire_at net.wires d).consumer m unlatched.at.machine)
          (ap not (taken-is d unlatched.at.machine ∙ ap (λ i. is_some (latch_at x.latches i)) unlatched.at.place ∙ ap is_some unlatched.first.empty))
          (λ c le lt chosen.
          let is : (wire_at net.wires c).consumer ≡ m = eqb-true (wire_at net.wires c).consumer m chosen in
          let place_before : (wire_at net.wires c).place < (wire_at net.wires d).place = wired.order.ins c d lt d_known (is ∙ sym unlatched.at.machine) in
          let some : IsSome (latch_at x.latches (wire_at net.wires c).place) = unlatched.first.before (wire_at net.wires c).place (omega (arith, place_before, unlatched.at.place)) in
          ap not (taken-is c is ∙ some))

      -- ---- the channels at some ins

      abbrev AreIns : List ℕ → Type 0
      AreIns ins = All (λ i. i < length x.latches) ins

      rest-ins : (i : ℕ) (ins : List ℕ) → AreIns (i ∷ ins) → AreIns ins
      rest-ins i ins within k any lt = within (suc k) any (omega (arith, lt))

      at-in : (i : ℕ) → i < length x.latches → IsAtIn net.wires m i (channel_into net.wires m i)
      at-in i lt = channel-is (frame_of net) wired m i known (omega (arith, lt, ap (λ (k : Kind). k.ins) (kind-is net m)))

      mark-is : (i : ℕ) → i < length x.latches → is_some (latch_of net (channel_into net.wires m i)) ≡ is_some (latch_at x.latches i)
      mark-is i lt = taken-is (channel_into net.wires m i) (at-in i lt).machine ∙ ap (λ j. is_some (latch_at x.latches j)) (at-in i lt).place

      pub none-missing : (ins : List ℕ) → AreIns ins → first_empty x.latches ins ≡ None → first_without (facts_of net).taken (channels_at net.wires m ins) ≡ None
      none-missing [] within none = refl
      none-missing (i ∷ ins) within none =
          none-more (latch_at x.latches i) i (channel_into net.wires m i) (first_empty x.latches ins) (first_without (facts_of net).taken (channels_at net.wires m ins)) (is_some (latch_of net (channel_into net.wires m i)))
          (mark-is i (within 0 0 (omega arith)))
          none
          (λ rest. none-missing ins (rest-ins i ins within) rest)

      pub missing-none : (ins : List ℕ) → AreIns ins → first_without (facts_of net).taken (channels_at net.wires m ins) ≡ None → first_empty x.latches ins ≡ None
      missing-none [] within none = refl
      missing-none (i ∷ ins) within none =
          more-none (latch_at x.latches i) i (channel_into net.wires m i) (first_empty x.latches ins) (first_without (facts_of net).taken (channels_at net.wires m ins)) (is_some (latch_of net (channel_into net.wires m i)))
          (mark-is i (within 0 0 (omega arith)))
          none
          (λ rest. missing-none ins (rest-ins i ins within) rest)

      pub first-missing : (ins : List ℕ) (j e : ℕ) → AreIns ins → first_empty x.latches ins ≡ Some j → IsAtIn net.wires m j e → first_without (facts_of net).taken (channels_at net.wires m ins) ≡ Some e
      first-missing [] j e within found at = absurd (none-some j found)
      first-missing (i ∷ ins) j e within found at =
          let own : IsAtIn net.wires m i (channel_into net.wires m i) = at-in i (within 0 0 (omega arith)) in
          some-more (latch_at x.latches i) i j (channel_into net.wires m i) e (first_empty x.latches ins) (first_without (facts_of net).taken (channels_at net.wires m ins)) (is_some (latch_of net (channel_into net.wires m i)))
          (mark-is i (within 0 0 (omega arith)))
          found
          (λ same. one-in (frame_of net) wired (channel_into net.wires m i) e own.known at.known (own.machine ∙ sym at.machine) (own.place ∙ same ∙ sym at.place))
          (λ rest. first-missing ins j e (rest-ins i ins within) rest at)

      -- the ins that an out needs, and those that a port uses, exist
      pub needs-within : (o : ℕ) → AreIns (needs_at x.needs o)
      needs-within o k any lt =
          subst (λ (kind : Kind). slice_index_or (needs_at x.needs o) k any < kind.ins) (kind-is net m)
          (wired.needs m o (slice_index_or (needs_at x.needs o) k any) known
          (subst (λ (kind : Kind). Contains (needs_at kind.needs o) (slice_index_or (needs_at x.needs o) k any)) (sym (kind-is net m)) (k, lt, get_or_default (needs_at x.needs o) k (slice_index_or (needs_at x.needs o) k any) any lt)))

      pub fields-within : (port : Port) → slice_get x.ports x.served ≡ Some port → AreIns (fields_of port.access)
      fields-within port is =
          let all : All (λ (q : Port). AreIns (fields_of q.access)) x.ports = subst (λ (kind : Kind). All (λ (q : Port). All (λ i. i < kind.ins) (fields_of q.access)) kind.ports) (kind-is net m) (wired.fields m known) in
          subst (λ (q : Port). AreIns (fields_of q.access)) (get_or_from_slice_get x.ports x.served port port is) (all x.served port (slice_get_within x.ports x.served port is))

    -- ---- `Fire`

    pub producer-there : (c : ℕ) → c < length net.wires → (wire_at net.wires c).producer < length net.machines
    producer-there c lt = machine-there net (wire_at net.wires c).producer (wired.producer c lt)

    pub fire-can : (c : ℕ) → Ready net (Fire c) → CanFire net c
    fire-can c ready =
        let p : ℕ = (wire_at net.wires c).producer in
        let o : ℕ = (wire_at net.wires c).out in
        let goes : FireGoes (facts_of net) c = fire-goes (facts_of net) c ready in
        let there : p < length net.machines = producer-there c goes.known in
        record {
          can = (goes.known, is-below p goes.below);
          clear = goes.clear;
          needed = missing-none p there (needs_at (producer_of net c).needs o) (needs-within p there o) goes.needed;
          room = goes.room;
        }

    pub can-fire : (c : ℕ) → CanFire net c → Ready net (Fire c)
    can-fire c can =
        let p : ℕ = (wire_at net.wires c).producer in
        let o : ℕ = (wire_at net.wires c).out in
        let there : p < length net.machines = producer-there c can.can.0 in
        goes-fire (facts_of net) c (record {
          known = can.can.0;
          below = below-is p can.can.1;
          clear = can.clear;
          needed = none-missing p there (needs_at (producer_of net c).needs o) (needs-within p there o) can.needed;
          room = can.room;
        })

    -- what a channel needs, and what the port that is due uses
    module _ (c : ℕ) (known : c < length net.wires) (w : Wire) (is : w ≡ wire_at net.wires c) where
      needed-is : {o : Option ℕ} → missing (machine_at net.machines w.producer) w.out ≡ o → first_empty (producer_of net c).latches (needs_at (producer_of net c).needs (wire_at net.wires c).out) ≡ o
      needed-is found = ap (λ (v : Wire). missing (machine_at net.machines v.producer) v.out) (sym is) ∙ found

      pub needs-none : missing (machine_at net.machines w.producer) w.out ≡ None → first_without (facts_of net).taken ((facts_of net).needs c) ≡ None
      needs-none none =
          let p : ℕ = (wire_at net.wires c).producer in
          let there : p < length net.machines = producer-there c known in
          none-missing p there (needs_at (producer_of net c).needs (wire_at net.wires c).out) (needs-within p there (wire_at net.wires c).out) (needed-is none)

      pub needs-first : (j e : ℕ) → missing (machine_at net.machines w.producer) w.out ≡ Some j → IsAtIn net.wires w.producer j e → first_without (facts_of net).taken ((facts_of net).needs c) ≡ Some e
      needs-first j e found at =
          let p : ℕ = (wire_at net.wires c).producer in
          let there : p < length net.machines = producer-there c known in
          first-missing p there (needs_at (producer_of net c).needs (wire_at net.wires c).out) j e (needs-within p there (wire_at net.wires c).out) (needed-is found) (subst (λ (v : Wire). IsAtIn net.wires v.producer j e) is at)

    module _ (m : ℕ) (there : m < length net.machines) where
      due-within : AreIns m there (due_fields (machine_at net.machines m))
      due-within = by (slice_get (machine_at net.machines m).ports (machine_at net.machines m).served) refl
        where
          by : (o : Option Port) → slice_get (machine_at net.machines m).ports (machine_at net.machines m).served ≡ o → AreIns m there (fields_at o)
          by None is = λ k any lt. absurd (omega (arith, lt))
          by (Some port) is = fields-within m there port is

      pub fields-none : first_empty (machine_at net.machines m).latches (due_fields (machine_at net.machines m)) ≡ None → first_without (facts_of net).taken (due_channels net m) ≡ None
      fields-none none = none-missing m there (due_fields (machine_at net.machines m)) due-within none

      pub fields-first : (j e : ℕ) → first_empty (machine_at net.machines m).latches (due_fields (machine_at net.machines m)) ≡ Some j → IsAtIn net.wires m j e → first_without (facts_of net).taken (due_channels net m) ≡ Some e
      fields-first j e found at = first-missing m there (due_fields (machine_at net.machines m)) j e due-within found at

    -- ---- `Serve`

    due-by : (m p : ℕ) (o : Option Port) (turn : Turn) → turn_if net.wires m o ≡ Some turn → turn.number ≡ p → (port : Port) × (o ≡ Some port) × (port.number ≡ p) × (turn ≡ turn_of net.wires m port)
    due-by m p None turn is number = absurd (none-some turn is)
    due-by m p (Some port) turn is number =
        let same : turn_of net.wires m port ≡ turn = same_Some (turn_of net.wires m port) turn is in
        (port, refl, ap (λ (t : Turn). t.number) same ∙ number, sym same)

    pub serve-can : (m p : ℕ) → Ready net (Serve m p) → CanServe net m p
    serve-can m p ready =
        let x : Machine = machine_at net.machines m in
        let goes : ServeGoes (facts_of net) m p = serve-goes (facts_of net) m p ready in
        let there : m < length net.machines = port-there m p goes.port in
        let at : (port : Port) × (slice_get x.ports x.served ≡ Some port) × (port.number ≡ p) × (goes.due.turn ≡ turn_of net.wires m port) = due-by m p (slice_get x.ports x.served) goes.due.turn goes.due.is goes.due.number in
        let port : Port = at.0 in
        record {
          there = (there, goes.port);
          below = is-below m goes.below;
          fired = all-fired m there goes.fired;
          due = ap port_number at.1 ∙ ap Some at.2;
          fields =
              ap (λ o. first_empty x.latches (fields_at o)) at.1
              ∙ missing-none m there (fields_of port.access) (fields-within m there port at.1) (ap (λ (t : Turn). first_without (facts_of net).taken t.fields) (sym at.3) ∙ goes.due.fields);
        }

    pub can-serve : (m p : ℕ) → CanServe net m p → Ready net (Serve m p)
    can-serve m p can = by (slice_get (machine_at net.machines m).ports (machine_at net.machines m).served) refl can.due can.fields
      where
        by : (o : Option Port) → slice_get (machine_at net.machines m).ports (machine_at net.machines m).served ≡ o → due (machine_at net.machines m) ≡ Some p → missing_field net m ≡ None → Ready net (Serve m p)
        by None at is fields = absurd (none-some p (sym (ap port_number at) ∙ is))
        by (Some port) at is fields =
            goes-serve (facts_of net) m p (record {
              port = can.there.1;
              below = below-is m can.below;
              fired = none-unfired m can.there.0 can.fired;
              due = record {
                turn = turn_of net.wires m port;
                is = ap (turn_if net.wires m) at;
                number = same_Some port.number p (sym (ap port_number at) ∙ is);
                fields = none-missing m can.there.0 (fields_of port.access) (fields-within m can.there.0 port at) (sym (ap (λ o. first_empty (machine_at net.machines m).latches (fields_at o)) at) ∙ fields);
              };
            })

    -- ---- `Finish`

    none-due : (m : ℕ) (o : Option Port) → turn_if net.wires m o ≡ None → port_number o ≡ None
    none-due m None is = refl
    none-due m (Some port) is = absurd (none-some (turn_of net.wires m port) (sym is))

    due-none : (m : ℕ) (o : Option Port) → port_number o ≡ None → turn_if net.wires m o ≡ None
    due-none m None is = refl
    due-none m (Some port) is = absurd (none-some port.number (sym is))

    pub finish-can : (m : ℕ) → Ready net (Finish m) → CanFinish net m
    finish-can m ready =
        let x : Machine = machine_at net.machines m in
        let goes : FinishGoes (facts_of net) m = finish-goes (facts_of net) m ready in
        record {
          there = goes.there;
          below = is-below m goes.below;
          fired = all-fired m goes.there goes.fired;
          served = none-due m (slice_get x.ports x.served) goes.served;
          latched = all-latched m goes.there goes.latched;
        }

    pub can-finish : (m : ℕ) → CanFinish net m → Ready net (Finish m)
    can-finish m can =
        let x : Machine = machine_at net.machines m in
        goes-finish (facts_of net) m (record {
          there = can.there;
          below = below-is m can.below;
          fired = none-unfired m can.there can.fired;
          served = due-none m (slice_get x.ports x.served) can.served;
          latched = none-unlatched m can.there can.latched;
        })
