-- From the lists to what each machine has.
use Rattle.std.proofs.Common.{◌≡◌, ◌≢◌, ℕ, ◌+◌, ◌<◌, List, length, get_or, true, sym, ◌∙◌, ap, subst, Some, None, inl, inr, ◌⊎◌, eq-eqb, true-eqb, arith}
use Rattle.std.specs.Prelude.{Option, ◌==◌, filter, slice_index_or, Contains, AllPairs}
use Rattle.std.specs.List.{range_with_len}
use Rattle.std.proofs.lemmas.Bool.{or_cases, or_left, or_right}
use Rattle.std.proofs.lemmas.List.{get_or_default}
use Rattle.std.proofs.lemmas.List.Elements.{Contains-get_or}
use Rattle.std.proofs.lemmas.List.Kept.{AllPairs-filter}
use Rattle.std.proofs.lemmas.List.FromFn.{get_or-range_with_len, length-range_with_len}
use Rattle.gg_flat.specs.Line.{value_at}
use Rattle.gg_flat.specs.Circuit.{FlatCircuit}
use Rattle.gg_flat.specs.WellFormed.{IsWellFormed}
use Rattle.gg_flat_tree.specs.Tree.{InstanceTree, IsTree, memory_at}
use Rattle.gg_flat_tree.specs.Scoped.{IsScoped}
use Rattle.gg_flat.specs.Order.{IsOrder}
use Rattle.gg_flat.proofs.ListLemmas.{Contains-map, Contains-filter, filter-cases, in-range, range-below}
use Rattle.gg_flat.specs.inside.InOrder.{Precedes, IsAlong}
use Rattle.gg_partfile.specs.declared.request.BridgeEntry.{BridgeEntry}
use Rattle.gg_cut_plan.specs.declared.wires.Wire.{Wire}
use Rattle.gg_cut_plan.specs.declared.listed.Listed.{Listed}
use Rattle.gg_cut_plan.specs.Listed.{owner_of, first_place, has_signal, unit_or_hub, memory_owner}
use Rattle.gg_part.specs.inside.Choice.{IsChoice}
use Rattle.gg_cut_plan.specs.Channels.{wires_of}
use Rattle.gg_cut_plan.proofs.WireLemmas.{givens-same}
use Rattle.gg_cut_plan.specs.Plan.{wire_at, channels_to, channels_from, signals_of, givens_of, HasMemory}
use Rattle.gg_cut_split.specs.inside.Apart.{AreApart}
use Rattle.gg_cut_split.specs.inside.Share.{IsShareOf}
use Rattle.gg_cut_split.specs.inside.Spread.{AreChannels, IsChannelBelow, has_by, has, signals_among, memories_below, AreSignals, AreMemories}
use Rattle.gg_cut_split.proofs.ClosedLemmas.ListLemmas.{map-cases, AllPairs-map}
use Rattle.gg_cut_split.proofs.ClosedLemmas.TreeLemmas.{innermost}
use Rattle.gg_cut_split.proofs.ClosedLemmas.PlaceLemmas.{place-signal}
use Rattle.gg_cut_split.proofs.ClosedLemmas.OnceLemmas.{channel-one}
use Rattle.gg_cut_split.proofs.ClosedLemmas.MakerLemmas.{Gets, chosen-in, chosen-out, given-out, wire-among, no-channel, owner-signal}
use Rattle.gg_cut_split.proofs.ClosedLemmas.WrittenLemmas.{inner-plain}
use Rattle.gg_cut_split.proofs.ClosedLemmas.ChoiceLemmas.{gets-known, choice}

-- ---- signals

order-pairs : (order : List ℕ) → AllPairs (λ a b. Precedes order a b) order
order-pairs order i j d less lt =
    record { first = i; second = j; before = less; within = lt; first_is = get_or_default order i 0 d (omega (arith, less, lt)); second_is = get_or_default order j 0 d lt }

pub along-once : (order globals : List ℕ) → AllPairs (λ a b. a ≢ b) order → IsAlong order globals → AllPairs (λ a b. a ≢ b) globals
along-once order globals once along i j d less lt same =
    let p = along i j d less lt in
    once p.first p.second 0 p.before p.within (p.first_is ∙ same ∙ sym p.second_is)

module _ (circuit : FlatCircuit) (tree : InstanceTree) (order : List ℕ) (listed : Listed) (entries : List BridgeEntry) (formed : IsWellFormed circuit) (fits : IsTree circuit tree) (scoped : IsScoped circuit tree) (ordered : IsOrder circuit order) (apart : AreApart tree listed) where
  known-in : (s : ℕ) → Contains order s → s < length circuit.signals
  known-in s h = let lt = ordered.signals h.0 h.1 in subst (λ t. t < length circuit.signals) (get_or_default order h.0 0 s h.1 ∙ h.2) lt

  -- a signal that no channel carries belongs to the machine of the instance that has it
  pub inner-owner : (owners : List ℕ) → ((s : ℕ) → value_at owners s ≡ unit_or_hub (first_place (has_signal tree s) listed.units)) → (s : ℕ) → s < length circuit.signals → ((c : ℕ) → c < length (wires_of circuit tree listed entries) → ¬ ((wire_at (wires_of circuit tree listed entries) c).signal ≡ s)) → owner_of circuit tree listed s ≡ value_at owners s
  inner-owner owners owns s lt inner =
      let at = innermost circuit tree fits s lt in
      owner-signal circuit tree listed fits scoped apart at.place s at.is (inner-plain circuit tree listed entries fits scoped apart s inner)
      ∙ sym (place-signal circuit tree listed fits apart at.place s at.is)
      ∙ sym (owns s)

  module _ (owners : List ℕ) (channels : List (Option ℕ)) (owns : (s : ℕ) → value_at owners s ≡ unit_or_hub (first_place (has_signal tree s) listed.units)) (marked : AreChannels (wires_of circuit tree listed entries) channels) (many : length channels ≡ length circuit.signals) (m : ℕ) where
    channel-is : (s : ℕ) → s < length circuit.signals → IsChannelBelow (wires_of circuit tree listed entries) (length (wires_of circuit tree listed entries)) s (slice_index_or channels s None)
    channel-is s lt = marked s (omega (arith, lt, many))

    -- a machine makes or takes each signal that is spread to it
    spread-gets : (s : ℕ) → s < length circuit.signals → (found : Option ℕ) → IsChannelBelow (wires_of circuit tree listed entries) (length (wires_of circuit tree listed entries)) s found → has_by (wires_of circuit tree listed entries) (value_at owners s) m found ≡ true → Gets circuit tree listed entries fits scoped apart m s
    spread-gets s lt None inner e = inl (inl (lt, inner-owner owners owns s lt inner ∙ true-eqb (value_at owners s) m (sym e), inner))
    spread-gets s lt (Some c) at e = by (or_cases ((wire_at (wires_of circuit tree listed entries) c).producer == m) ((wire_at (wires_of circuit tree listed entries) c).consumer == m) e)
      where
        by : (((wire_at (wires_of circuit tree listed entries) c).producer == m) ≡ true) ⊎ (((wire_at (wires_of circuit tree listed entries) c).consumer == m) ≡ true) → Gets circuit tree listed entries fits scoped apart m s
        by (inl p) =
            inl (inr (subst (λ (l : List ℕ). Contains l s) (sym (givens-same circuit tree listed entries (channels_from (wires_of circuit tree listed entries) m)))
            (subst (λ t. Contains (signals_of (wires_of circuit tree listed entries) (channels_from (wires_of circuit tree listed entries) m)) t) at.1 (chosen-in (wires_of circuit tree listed entries) (λ w. w.producer == m) (wire_at (wires_of circuit tree listed entries) c) (wire-among (wires_of circuit tree listed entries) c at.0) p))))
        by (inr p) = inr (subst (λ t. Contains (signals_of (wires_of circuit tree listed entries) (channels_to (wires_of circuit tree listed entries) m)) t) at.1 (chosen-in (wires_of circuit tree listed entries) (λ w. w.consumer == m) (wire_at (wires_of circuit tree listed entries) c) (wire-among (wires_of circuit tree listed entries) c at.0) p))

    same-wire : (s c : ℕ) (w : Wire) → c < length (wires_of circuit tree listed entries) → (wire_at (wires_of circuit tree listed entries) c).signal ≡ s → Contains (wires_of circuit tree listed entries) w → w.signal ≡ s → w ≡ wire_at (wires_of circuit tree listed entries) c
    same-wire s c w lt is among of = channel-one circuit tree listed entries fits scoped apart w (wire_at (wires_of circuit tree listed entries) c) among (wire-among (wires_of circuit tree listed entries) c lt) (of ∙ sym is)

    -- each signal that a machine makes or takes is spread to it
    gets-spread : (s : ℕ) → s < length circuit.signals → (found : Option ℕ) → IsChannelBelow (wires_of circuit tree listed entries) (length (wires_of circuit tree listed entries)) s found → Gets circuit tree listed entries fits scoped apart m s → has_by (wires_of circuit tree listed entries) (value_at owners s) m found ≡ true
    gets-spread s lt None inner (inl (inl own)) = eq-eqb (value_at owners s) m (sym (inner-owner owners owns s lt inner) ∙ own.1)
    gets-spread s lt None inner (inl (inr h)) =
        let w = given-out circuit tree listed entries m s h in absurd (no-channel circuit tree listed entries fits scoped apart s w.wire inner w.among w.is)
    gets-spread s lt None inner (inr h) =
        let w = chosen-out (wires_of circuit tree listed entries) (λ (v : Wire). v.consumer == m) s h in absurd (no-channel circuit tree listed entries fits scoped apart s w.wire inner w.among w.is)
    gets-spread s lt (Some c) at (inl (inl own)) = absurd (own.2 c at.0 at.1)
    gets-spread s lt (Some c) at (inl (inr h)) =
        let w = given-out circuit tree listed entries m s h in
        or_left ((wire_at (wires_of circuit tree listed entries) c).producer == m) ((wire_at (wires_of circuit tree listed entries) c).consumer == m) (ap (λ (v : Wire). v.producer == m) (sym (same-wire s c w.wire at.0 at.1 w.among w.is)) ∙ w.passes)
    gets-spread s lt (Some c) at (inr h) =
        let w = chosen-out (wires_of circuit tree listed entries) (λ (v : Wire). v.consumer == m) s h in
        or_right ((wire_at (wires_of circuit tree listed entries) c).producer == m) ((wire_at (wires_of circuit tree listed entries) c).consumer == m) (ap (λ (v : Wire). v.consumer == m) (sym (same-wire s c w.wire at.0 at.1 w.among w.is)) ∙ w.passes)

    pub signals-are : AreSignals circuit tree order listed entries m (signals_among (wires_of circuit tree listed entries) owners channels order m)
    signals-are =
        record {
          just = λ s. (forth s, back s);
          along = AllPairs-filter (λ a b. Precedes order a b) (has (wires_of circuit tree listed entries) owners channels m) order (order-pairs order);
        }
      where
        forth : (s : ℕ) → Contains (signals_among (wires_of circuit tree listed entries) owners channels order m) s → Gets circuit tree listed entries fits scoped apart m s
        forth s h =
            let kept = filter-cases (has (wires_of circuit tree listed entries) owners channels m) order s h in
            let lt = known-in s kept.among in
            spread-gets s lt (slice_index_or channels s None) (channel-is s lt) kept.passes

        back : (s : ℕ) → Gets circuit tree listed entries fits scoped apart m s → Contains (signals_among (wires_of circuit tree listed entries) owners channels order m) s
        back s gets =
            let lt = gets-known circuit tree listed entries formed fits scoped apart m s gets in
            Contains-filter (has (wires_of circuit tree listed entries) owners channels m) order s (ordered.every s lt) (gets-spread s lt (slice_index_or channels s None) (channel-is s lt) gets)

-- ---- memories

module _ (tree : InstanceTree) (listed : Listed) (numbered : (place : ℕ) → place < length tree.memories → (memory_at tree place).memory ≡ place) (machines : List ℕ) (owns : (place : ℕ) → place < length tree.memories → value_at machines place ≡ memory_owner tree listed place) (m : ℕ) where
  pub memories-are : AreMemories tree listed m (memories_below tree machines (length tree.memories) m)
  memories-are = record { just = λ k. (forth k, back k); ascend = ascend }
    where
      forth : (k : ℕ) → Contains (memories_below tree machines (length tree.memories) m) k → HasMemory tree listed m k
      forth k h =
          let list = filter (λ place. value_at machines place == m) (range_with_len 0 (length tree.memories)) in
          let at = map-cases (λ place. (memory_at tree place).memory) list k h in
          let place = get_or list at.place 0 in
          let kept = filter-cases (λ place. value_at machines place == m) (range_with_len 0 (length tree.memories)) place (Contains-get_or list at.place 0 at.within) in
          let lt = range-below (length tree.memories) place kept.among in
          record { place = place; known = lt; is = at.holds 0; owner = sym (owns place lt) ∙ true-eqb (value_at machines place) m (sym kept.passes) }

      back : (k : ℕ) → HasMemory tree listed m k → Contains (memories_below tree machines (length tree.memories) m) k
      back k h =
          subst (λ n. Contains (memories_below tree machines (length tree.memories) m) n) h.is
          (Contains-map (λ place. (memory_at tree place).memory) (filter (λ place. value_at machines place == m) (range_with_len 0 (length tree.memories))) h.place
          (Contains-filter (λ place. value_at machines place == m) (range_with_len 0 (length tree.memories)) h.place (in-range (length tree.memories) h.place h.known)
          (eq-eqb (value_at machines h.place) m (owns h.place h.known ∙ h.owner))))

      number : (i d : ℕ) → i < length tree.memories → get_or (range_with_len 0 (length tree.memories)) i d ≡ i
      number i d lt = get_or-range_with_len 0 (length tree.memories) i d lt ∙ (let same : 0 + i ≡ i = omega arith in same)

      pairs : AllPairs (λ p q. (memory_at tree p).memory < (memory_at tree q).memory) (range_with_len 0 (length tree.memories))
      pairs i j d less lt =
          let inside : j < length tree.memories = omega (arith, lt, length-range_with_len 0 (length tree.memories)) in
          let low : i < length tree.memories = omega (arith, less, inside) in
          let one : (memory_at tree (get_or (range_with_len 0 (length tree.memories)) i d)).memory ≡ i = ap (λ p. (memory_at tree p).memory) (number i d low) ∙ numbered i low in
          let other : (memory_at tree (get_or (range_with_len 0 (length tree.memories)) j d)).memory ≡ j = ap (λ p. (memory_at tree p).memory) (number j d inside) ∙ numbered j inside in
          omega (arith, one, other, less)

      ascend : AllPairs (λ a b. a < b) (memories_below tree machines (length tree.memories) m)
      ascend =
          AllPairs-map (λ a b. a < b) (λ place. (memory_at tree place).memory) (filter (λ place. value_at machines place == m) (range_with_len 0 (length tree.memories)))
          (AllPairs-filter (λ p q. (memory_at tree p).memory < (memory_at tree q).memory) (λ place. value_at machines place == m) (range_with_len 0 (length tree.memories)) pairs)

-- ---- what a machine has

pub shared : (circuit : FlatCircuit) (tree : InstanceTree) (order : List ℕ) (listed : Listed) (entries : List BridgeEntry) → IsWellFormed circuit → IsTree circuit tree → IsScoped circuit tree → IsOrder circuit order → AreApart tree listed → (m : ℕ) (ins outs globals memories : List ℕ) → ins ≡ channels_to (wires_of circuit tree listed entries) m → outs ≡ channels_from (wires_of circuit tree listed entries) m → AreSignals circuit tree order listed entries m globals → AreMemories tree listed m memories → IsShareOf (record { circuit = circuit; tree = tree; order = order }) listed (wires_of circuit tree listed entries) m ins outs globals memories
shared circuit tree order listed entries formed fits scoped ordered apart m ins outs globals memories takes gives signals banks =
    record {
      takes = takes;
      gives = gives;
      signals = signals.just;
      along = signals.along;
      banks = banks.just;
      ascend = banks.ascend;
      choice = λ low.
          subst (λ l. IsChoice circuit globals (signals_of (wires_of circuit tree listed entries) l) (givens_of (wires_of circuit tree listed entries) outs) memories) (sym takes)
          (subst (λ l. IsChoice circuit globals (signals_of (wires_of circuit tree listed entries) (channels_to (wires_of circuit tree listed entries) m)) (givens_of (wires_of circuit tree listed entries) l) memories) (sym gives)
          (choice circuit tree listed entries formed fits scoped apart m globals memories low signals.just (along-once order globals ordered.once signals.along) banks.just (λ i j d less lt same. absurd (omega (arith, banks.ascend i j d less lt, same)))));
    }
