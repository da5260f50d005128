-- The tables of a cut.
use Rattle.std.proofs.Common.{◌≡◌, ◌≢◌, ℕ, ◌<◌, List, ◌++◌, length, map, get_or, Bool, true, false, not, Option, Some, refl, sym, ◌∙◌, ap, subst, inl, inr, ◌⊎◌, eq-eqb}
use Rattle.std.specs.Prelude.{◌↔◌, ◌&&◌, ◌||◌, ◌==◌, Contains, All, AllPairs, filter, flat_map}
use Rattle.std.specs.List.{list_any, range_with_len}
use Rattle.std.proofs.lemmas.Bool.{and_from, eqb-true}
use Rattle.std.proofs.lemmas.List.{get_or_default}
use Rattle.std.proofs.lemmas.List.Elements.{All-contains, Contains-get_or, Contains-append_right, Contains-append_cases}
use Rattle.gg_flat.specs.Circuit.{FlatCircuit, driver_at}
use Rattle.gg_flat_tree.specs.Tree.{InstanceTree, memory_at, instance_at}
use Rattle.gg_flat_tree.specs.Scoped.{memory_fields, stop_signals, output_signals}
use Rattle.gg_flat.proofs.ListLemmas.{filter-cases, range-below}
use Rattle.gg_order.specs.Marks.{is_marked}
use Rattle.gg_partfile.specs.declared.request.BridgeEntry.{BridgeEntry}
use Rattle.gg_cut_plan.specs.Ports.{ports_of}
use Rattle.gg_cut_plan.specs.inside.Machines.{Counts}
use Rattle.gg_cut_plan.specs.inside.Ports.{counts_of}
use Rattle.gg_cut_plan.specs.declared.listed.Listed.{Listed}
use Rattle.gg_cut_plan.specs.declared.wires.Wire.{Wire}
use Rattle.gg_cut_plan.specs.inside.Listed.{AreMarks}
use Rattle.gg_cut_plan.specs.Listed.{memory_owner}
use Rattle.gg_cut_plan.specs.Channels.{wires_of}
use Rattle.gg_cut_plan.specs.Plan.{channels_to, channels_from, signals_of, givens_of, HasMemory}
use Rattle.gg_cut_routes.specs.declared.sides.Side.{Side}
use Rattle.gg_cut_routes.specs.declared.sides.Side.TheVariants.{Other, Own, Out, In}
use Rattle.gg_cut_plan.specs.Direct.{Hub, hub_of, hub_fields, made, named_by, copied, driver_names, routes, is_gone}
use Rattle.gg_cut_routes.specs.inside.Tables.{side_at, entry_at, AreSides, is_in, is_makers, IsSeen, AreOrigins, direct_by, AreEntries, AreGone, routed_by}
use Rattle.gg_cut_routes.specs.inside.Routable.{CanRoute, IsRouting}
use Rattle.gg_cut_routes.proofs.NameLemmas.{flat-in}
use Rattle.gg_cut_routes.proofs.NamedLemmas.{names-chosen}
use Rattle.gg_cut_plan.proofs.OriginLemmas.{copied-is, clash, finds-any}
use Rattle.gg_cut_routes.proofs.RouteLemmas.{IsBase}
use Rattle.gg_cut_routes.proofs.ChoiceLemmas.{wire-taken}
use Rattle.gg_cut_routes.proofs.CutChoice.{field-held}
use Rattle.gg_cut_plan.proofs.SameLemmas.{copy-wide}
use Rattle.gg_cut_routes.proofs.CutLemmas.{base-of}
use Rattle.gg_cut_routes.proofs.ListTables.{flat-out, any-same}
use Rattle.gg_cut_routes.proofs.HubTables.{side-taken, side-own, side-giver, made-same}
use Rattle.gg_cut_routes.proofs.GoneTables.{names_by, names-same, append-same, gone-is, routes-are}

module _ (circuit : FlatCircuit) (tree : InstanceTree) (order : List ℕ) (listed : Listed) (entries : List BridgeEntry) (wires : List Wire) (globals memories : List ℕ) (can : CanRoute circuit tree order listed entries wires globals memories) where
  abbrev counts : Counts
  counts = counts_of listed (ports_of circuit tree listed entries)

  abbrev taken : List ℕ
  taken = signals_of (wires_of circuit tree listed entries) (channels_to (wires_of circuit tree listed entries) 0)

  globals-low : (s : ℕ) → Contains globals s → s < length circuit.signals
  globals-low s h = All-contains (λ t. t < length circuit.signals) globals s can.choice.within h

  pub globals-known : All (λ s. s < length circuit.signals) globals
  globals-known = can.choice.within

  pub memories-known : All (λ m. m < length circuit.memories) memories
  memories-known = can.choice.memory_within

  pub fields-known : (m t : ℕ) → Contains memories m → Contains (memory_fields circuit m) t → t < length circuit.signals
  fields-known m t h field = globals-low t (can.choice.fields m t h field)

  stops-known : (t : ℕ) → Contains (stop_signals tree) t → t < length circuit.signals
  stops-known t h =
      let at = subst (λ (l : List ℕ). Contains l t) can.scoped.outs (Contains-append_right (output_signals (instance_at tree 0).ports) (stop_signals tree) t h) in
      subst (λ s. s < length circuit.signals) (get_or_default circuit.outs at.0 0 t at.1 ∙ at.2) (can.formed.outs at.0 at.1)

  module _ (piped : ℕ → Bool) (direct : Bool) where
    abbrev hub : Hub
    hub = hub_of circuit tree listed piped entries direct

    pub base : IsBase (hub_of circuit tree listed piped entries direct)
    base = base-of circuit tree listed piped entries direct can.formed can.fitting can.scoped can.apart can.once can.ends

    pub known-wires : All (λ (w : Wire). w.signal < length circuit.signals) wires
    known-wires = subst (All (λ (w : Wire). w.signal < length circuit.signals)) (sym can.base) base.known

    pub once-wires : AllPairs (λ (v w : Wire). v.signal ≢ w.signal) wires
    once-wires = subst (AllPairs (λ (v w : Wire). v.signal ≢ w.signal)) (sym can.base) base.once

    -- the fields of the hub's memories
    held : (t : ℕ) → Contains (flat_map (memory_fields circuit) memories) t ↔ Contains (hub_fields circuit tree listed) t
    held t = (
      λ h. let m = flat-out (memory_fields circuit) memories t h in field-held circuit tree listed piped entries direct base m.item t ((can.banks m.item).0 m.among) m.has,
      λ h.
          let m = flat-out (λ j. memory_fields circuit (memory_at tree j).memory) (filter (λ j. memory_owner tree listed j == 0) (range_with_len 0 (length tree.memories))) t h in
          let k = filter-cases (λ j. memory_owner tree listed j == 0) (range_with_len 0 (length tree.memories)) m.item m.among in
          let has : HasMemory tree listed 0 (memory_at tree m.item).memory = record { place = m.item; known = range-below (length tree.memories) m.item k.among; is = refl; owner = eqb-true (memory_owner tree listed m.item) 0 k.passes } in
          flat-in (memory_fields circuit) memories (memory_at tree m.item).memory t ((can.banks (memory_at tree m.item).memory).1 has) m.has,
    )

    copied-known : (s t : ℕ) → s < length circuit.signals → copied circuit s ≡ Some t → t < length circuit.signals
    copied-known s t lt e = (copy-wide circuit can.formed s t lt (copied-is circuit s t e)).known

    module _ (sides : List Side) (are : AreSides wires globals sides) where
      sides-are : AreSides (wires_of circuit tree listed entries) globals sides
      sides-are = subst (λ (l : List Wire). AreSides l globals sides) can.base are

      abbrev mine : List ℕ
      mine = filter (λ s. is_makers (side_at sides s)) globals

      pub mine-known : All (λ s. s < length circuit.signals) (filter (λ s. is_makers (side_at sides s)) globals)
      mine-known i d lt = globals-low (get_or mine i d) (filter-cases (λ s. is_makers (side_at sides s)) globals (get_or mine i d) (Contains-get_or mine i d lt)).among

      makers-out : (side : Side) → is_makers side ≡ true → is_in side ≡ true → ⊥
      makers-out Other e f = clash false e refl
      makers-out Own e f = clash false f refl
      makers-out Out e f = clash false f refl
      makers-out (In producer) e f = clash false e refl

      pub mine-named : (s t : ℕ) → Contains (filter (λ s. is_makers (side_at sides s)) globals) s → Contains (driver_names circuit (driver_at circuit s)) t → t < length circuit.signals
      mine-named s t h named =
          let k = filter-cases (λ s. is_makers (side_at sides s)) globals s h in
          globals-low t (names-chosen circuit globals taken (givens_of (wires_of circuit tree listed entries) (channels_from (wires_of circuit tree listed entries) 0)) memories can.choice s t k.among (λ e. free k.passes e) named)
        where
          free : is_makers (side_at sides s) ≡ true → Contains taken s → ⊥
          free passes e =
              let w = wire-taken hub base 0 s e in
              makers-out (side_at sides s) passes
              (sym (side-taken hub base globals sides sides-are s) ∙ finds-any (λ (v : Wire). (v.consumer == 0) && (v.signal == s)) hub.base w.wire w.among (and_from (w.wire.consumer == 0) (w.wire.signal == s) (eq-eqb w.wire.consumer 0 w.consumer) (eq-eqb w.wire.signal s w.is)))

      pub seen : (marks : List Bool) → ((s : ℕ) → piped s ≡ is_marked marks s) → IsSeen (hub_of circuit tree listed piped entries direct) circuit sides marks
      seen marks same = record { is = refl; taken = side-taken hub base globals sides sides-are; own = side-own hub base globals sides sides-are can.choice.within can.signals; barred = same }

      mine-same : (s : ℕ) → Contains mine s ↔ Contains (made hub) s
      mine-same = made-same hub base globals sides sides-are can.choice.within can.signals

      names-low : (t : ℕ) → Contains (names_by circuit memories mine) t → t < length circuit.signals
      names-low t h = by (Contains-append_cases (flat_map (λ s. driver_names circuit (driver_at circuit s)) mine) (flat_map (memory_fields circuit) memories) t h)
        where
          by : Contains (flat_map (λ s. driver_names circuit (driver_at circuit s)) mine) t ⊎ Contains (flat_map (memory_fields circuit) memories) t → t < length circuit.signals
          by (inl a) = let m = flat-out (λ s. driver_names circuit (driver_at circuit s)) mine t a in mine-named m.item t m.among m.has
          by (inr b) = let m = flat-out (memory_fields circuit) memories t b in fields-known m.item t m.among m.has

      pub names-known : All (λ t. t < length circuit.signals) (names_by circuit memories (filter (λ s. is_makers (side_at sides s)) globals) ++ stop_signals tree)
      names-known i d lt = by (Contains-append_cases (names_by circuit memories mine) (stop_signals tree) t h)
        where
          t : ℕ
          t = get_or (names_by circuit memories mine ++ stop_signals tree) i d

          h : Contains (names_by circuit memories mine ++ stop_signals tree) t
          h = Contains-get_or (names_by circuit memories mine ++ stop_signals tree) i d lt

          by : Contains (names_by circuit memories mine) t ⊎ Contains (stop_signals tree) t → t < length circuit.signals
          by (inl a) = names-low t a
          by (inr b) = stops-known t b

      barred-is : (named : List Bool) → AreMarks (names_by circuit memories mine ++ stop_signals tree) named → (s : ℕ) → is_marked named s ≡ list_any (λ t. s == t) (named_by hub (made hub) ++ hub.stops)
      barred-is named marks s =
          marks s
          ∙ any-same (λ t. s == t) (names_by circuit memories mine ++ stop_signals tree) (named_by hub (made hub) ++ hub.stops)
          (append-same (names_by circuit memories mine) (named_by hub (made hub)) (stop_signals tree) (names-same hub memories held mine (made hub) mine-same))

      module _ (origins straight : List (Option ℕ)) (named gone : List Bool) (long : length origins ≡ length circuit.signals) (found : AreOrigins (hub_of circuit tree listed piped entries direct) origins) (marks : AreMarks (names_by circuit memories (filter (λ s. is_makers (side_at sides s)) globals) ++ stop_signals tree) named)
          (entered : AreEntries (direct_by circuit (counts_of listed (ports_of circuit tree listed entries)) sides origins named direct) wires straight) (left : AreGone circuit sides (filter (λ s. is_makers (side_at sides s)) globals) memories origins straight gone) where
        entered-base : AreEntries (direct_by circuit (counts_of listed (ports_of circuit tree listed entries)) sides origins named direct) (wires_of circuit tree listed entries) straight
        entered-base = subst (λ (l : List Wire). AreEntries (direct_by circuit (counts_of listed (ports_of circuit tree listed entries)) sides origins named direct) l straight) can.base entered

        made-low : (t : ℕ) → Contains (named_by hub (made hub)) t → t < length circuit.signals
        made-low t h = names-low t ((names-same hub memories held mine (made hub) mine-same t).1 h)

        pub gone-are : (s : ℕ) → s < length circuit.signals → is_marked gone s ≡ is_gone (hub_of circuit tree listed piped entries direct) s
        gone-are =
            gone-is hub base counts sides origins named (λ m. refl) (side-taken hub base globals sides sides-are) (side-giver hub base globals sides sides-are) found.each copied-known (barred-is named marks) straight entered-base
            (side-own hub base globals sides sides-are can.choice.within can.signals) mine mine-same memories held made-low gone left long

        pub routed-are : map (λ w. routed_by sides w (entry_at straight w.signal)) (filter (λ w. not (is_marked gone w.signal)) wires) ≡ routes (hub_of circuit tree listed piped entries direct)
        routed-are =
            ap (λ (l : List Wire). map (λ w. routed_by sides w (entry_at straight w.signal)) (filter (λ w. not (is_marked gone w.signal)) l)) can.base
            ∙ routes-are hub base counts sides origins named (λ m. refl) (side-taken hub base globals sides sides-are) (side-giver hub base globals sides sides-are) found.each copied-known (barred-is named marks) straight entered-base
            (side-own hub base globals sides sides-are can.choice.within can.signals) mine mine-same memories held made-low gone left long

        pub routing-is : (routed : List Wire) → routed ≡ map (λ w. routed_by sides w (entry_at straight w.signal)) (filter (λ w. not (is_marked gone w.signal)) wires) → IsRouting (hub_of circuit tree listed piped entries direct) routed gone
        routing-is routed is = record { channels = is ∙ routed-are; leaves = gone-are }
