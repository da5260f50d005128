-- What the steps of the split ask for and give, from what is read.
use Rattle.std.proofs.Common.{◌≡◌, ℕ, ◌<◌, ◌≤◌, ◌^◌, List, [], length, map, get_or, refl, sym, ◌∙◌, ap, ap₂, subst, arith}
use Rattle.std.specs.Prelude.{Option, slice_index_or, Contains, All}
use Rattle.std.proofs.lemmas.List.{get_or_default, length-map}
use Rattle.std.proofs.lemmas.List.Elements.{All-map, Contains-get_or}
use Rattle.gg_flat.specs.Line.{value_at}
use Rattle.gg_flat.specs.Circuit.{FlatCircuit}
use Rattle.gg_flat_tree.specs.Tree.{InstanceTree, IsTree, memory_at}
use Rattle.gg_part.specs.KeepsToTree.{KeepsToTree}
use Rattle.gg_order.specs.Design.{Ordered, IsDesign}
use Rattle.gg_partfile.specs.declared.request.BridgeEntry.{BridgeEntry}
use Rattle.gg_cut_plan.specs.declared.wires.Wire.{Wire}
use Rattle.gg_cut_plan.specs.declared.listed.Listed.{Listed}
use Rattle.gg_cut_plan.specs.Listed.{first_place, has_signal, memory_or, owner_of, unit_or_hub, memory_owner}
use Rattle.gg_cut_plan.specs.Ports.{machine_end, ports_of}
use Rattle.gg_cut_plan.specs.Machines.{first_source}
use Rattle.gg_cut_plan.proofs.PortLemmas.{machine-high}
use Rattle.gg_cut_plan.specs.Channels.{wires_of}
use Rattle.gg_cut_plan.specs.Plan.{channels_to, channels_from}
use Rattle.gg_cut_split.specs.declared.ends.Ends.{Ends}
use Rattle.gg_cut_split.specs.declared.share.Share.{Share}
use Rattle.gg_cut_split.specs.inside.Apart.{AreApart}
use Rattle.gg_cut_split.specs.inside.CanSplit.{CanSplit}
use Rattle.gg_cut_split.specs.inside.Ends.{AreEndsOf}
use Rattle.gg_cut_split.specs.inside.IsShare.{IsShare, AreShares, AreGathered}
use Rattle.gg_cut_split.specs.inside.Apart.{AreEnds}
use Rattle.gg_cut_split.specs.inside.Spread.{AreLists, EachList, AreChannels, signals_among, memories_below, AreSignals, AreMemories}
use Rattle.gg_cut_split.proofs.ClosedLemmas.ChoiceLemmas.{wire-known}
use Rattle.gg_cut_split.proofs.ClosedLemmas.OnceLemmas.{wires-once}
use Rattle.gg_part.proofs.FrameLemmas.{length-once}
use Rattle.gg_cut_split.proofs.ClosedLemmas.EndLemmas.{machine-below, owner-few, ends}
use Rattle.gg_cut_split.proofs.ClosedLemmas.MakerLemmas.{no-field-place, out-plain}
use Rattle.gg_cut_split.proofs.ShareLemmas.{signals-are, memories-are, shared}

module _ (circuit : FlatCircuit) (tree : InstanceTree) (listed : Listed) (entries : List BridgeEntry) (fits : IsTree circuit tree) (apart : AreApart tree listed) where
  high : first_source listed ≤ machine_end (ports_of circuit tree listed entries)
  high = machine-high (ports_of circuit tree listed entries)

  -- the ends of each channel are two of this many machines
  pub ends-known : (wires : List Wire) (count : ℕ) → wires ≡ wires_of circuit tree listed entries → count ≡ machine_end (ports_of circuit tree listed entries) → All (AreEnds count) wires
  ends-known wires count is many =
      subst (λ n. All (AreEnds n) wires) (sym many)
      (subst (λ (l : List Wire). All (AreEnds (machine_end (ports_of circuit tree listed entries))) l) (sym is) (ends circuit tree listed entries fits apart))

  pub owners-known : (owners now : List ℕ) (count : ℕ) → now ≡ owners → count ≡ machine_end (ports_of circuit tree listed entries) → ((s : ℕ) → value_at owners s ≡ unit_or_hub (first_place (has_signal tree s) listed.units)) → All (λ m. m < count) now
  owners-known owners now count is many owns =
      subst (λ n. All (λ m. m < n) now) (sym many)
      (subst (λ (l : List ℕ). All (λ m. m < machine_end (ports_of circuit tree listed entries)) l) (sym is) (λ k d lt. let low = owner-few circuit tree listed owners owns k d lt in omega (arith, low, high)))

  pub machines-known : (machines now : List ℕ) (count : ℕ) → now ≡ machines → count ≡ machine_end (ports_of circuit tree listed entries) → length machines ≡ length tree.memories → ((place : ℕ) → place < length tree.memories → value_at machines place ≡ memory_owner tree listed place) → All (λ m. m < count) now
  machines-known machines now count is many as-many owns =
      subst (λ n. All (λ m. m < n) now) (sym many) (subst (λ (l : List ℕ). All (λ m. m < machine_end (ports_of circuit tree listed entries)) l) (sym is) each)
    where
      each : All (λ m. m < machine_end (ports_of circuit tree listed entries)) machines
      each k d lt =
          let low = machine-below circuit tree listed k in
          let is = owns k (omega (arith, lt, as-many)) in
          let read = get_or_default machines k d 0 lt in
          omega (arith, low, is, read, high)

  pub each-memories : ((place : ℕ) → place < length tree.memories → (memory_at tree place).memory ≡ place) → (machines now : List ℕ) (count : ℕ) (lists : List (List ℕ)) → now ≡ machines → ((place : ℕ) → place < length tree.memories → value_at machines place ≡ memory_owner tree listed place) → AreLists (memories_below tree now (length tree.memories)) count lists → EachList (AreMemories tree listed) count lists
  each-memories numbered machines now count lists is owns are =
      record {
        many = are.many;
        each = λ m lt.
            subst (AreMemories tree listed m) (sym (are.each m lt ∙ ap (λ (l : List ℕ). memories_below tree l (length tree.memories) m) is))
            (memories-are tree listed numbered machines owns m);
      }

module _ (circuit : FlatCircuit) (tree : InstanceTree) (order : List ℕ) (listed : Listed) (entries : List BridgeEntry) (sound : CanSplit circuit tree order listed entries) where
  -- an out-signal is no field of a listed memory, so it belongs to the machine of the instance that has it
  pub outputs-held : (holders : List ℕ) → ((s : ℕ) → value_at holders s ≡ unit_or_hub (first_place (has_signal tree s) listed.units)) → All (λ s. value_at holders s ≡ owner_of circuit tree listed s) circuit.outs
  outputs-held holders owns k d lt =
      let s = get_or circuit.outs k d in
      owns s
      ∙ sym (ap (memory_or (length listed.units) (unit_or_hub (first_place (has_signal tree s) listed.units))) (no-field-place circuit tree listed s (out-plain circuit tree listed sound.fitting sound.scoped sound.apart s (Contains-get_or circuit.outs k d lt))))

  pub outputs-known : (holders : List ℕ) → length holders ≡ length circuit.signals → All (λ s. s < length holders) circuit.outs
  outputs-known holders many k d lt =
      let known = sound.formed.outs k lt in
      let read = get_or_default circuit.outs k d 0 lt in
      omega (arith, known, read, many)

  pub wires-known : (wires : List Wire) (n : ℕ) → wires ≡ wires_of circuit tree listed entries → n ≡ length circuit.signals → All (λ w. w.signal < n) wires
  wires-known wires n is many k d lt =
      subst (λ j. (get_or wires k d).signal < j) (sym many)
      (wire-known circuit tree listed entries sound.formed sound.fitting sound.scoped sound.apart (get_or wires k d) (subst (λ (l : List Wire). Contains l (get_or wires k d)) is (Contains-get_or wires k d lt)))

  pub order-known : (owners now : List ℕ) → now ≡ owners → length owners ≡ length circuit.signals → All (λ s. s < length now) order
  order-known owners now is many k d lt =
      let known = sound.ordered.signals k lt in
      let read = get_or_default order k d 0 lt in
      let same = ap length is in
      omega (arith, known, read, same, many)

  pub each-signals : (owners now_owners : List ℕ) (channels now_channels : List (Option ℕ)) (wires : List Wire) (count : ℕ) (lists : List (List ℕ)) → now_owners ≡ owners → now_channels ≡ channels → wires ≡ wires_of circuit tree listed entries → ((s : ℕ) → value_at owners s ≡ unit_or_hub (first_place (has_signal tree s) listed.units)) → AreChannels wires channels → length channels ≡ length circuit.signals → AreLists (signals_among wires now_owners now_channels order) count lists → EachList (AreSignals circuit tree order listed entries) count lists
  each-signals owners now_owners channels now_channels wires count lists is_owners is_channels is owns marked many are =
      record {
        many = are.many;
        each = λ m lt.
            subst (AreSignals circuit tree order listed entries m) (sym (are.each m lt ∙ ap (λ (w : List Wire). signals_among w now_owners now_channels order m) is ∙ ap₂ (λ (o : List ℕ) (l : List (Option ℕ)). signals_among (wires_of circuit tree listed entries) o l order m) is_owners is_channels))
            (signals-are circuit tree order listed entries sound.formed sound.fitting sound.scoped sound.ordered sound.apart owners channels owns (subst (λ (w : List Wire). AreChannels w channels) is marked) many m);
      }

  pub all-shares : (globals memories now_globals now_memories : List (List ℕ)) (count : ℕ) (shares : List Share) → count ≡ machine_end (ports_of circuit tree listed entries) → EachList (AreSignals circuit tree order listed entries) count globals → EachList (AreMemories tree listed) count memories → now_globals ≡ globals → now_memories ≡ memories → AreGathered now_globals now_memories (length now_globals) shares → AreShares (record { circuit = circuit; tree = tree; order = order }) listed entries shares
  all-shares globals memories now_globals now_memories count shares many signals banks g b gathered =
      record { many = gathered.many ∙ machines; each = each }
    where
      machines : length now_globals ≡ machine_end (ports_of circuit tree listed entries)
      machines = ap length g ∙ signals.many ∙ many

      each : (m : ℕ) (any : Share) → m < machine_end (ports_of circuit tree listed entries) → IsShare (record { circuit = circuit; tree = tree; order = order }) listed entries m (slice_index_or shares m any)
      each m any lt =
          let at = gathered.each m any (omega (arith, lt, machines)) in
          let share = slice_index_or shares m any in
          let low : m < count = omega (arith, lt, many) in
          let wires = wires_of circuit tree listed entries in
          shared circuit tree order listed entries sound.formed sound.fitting sound.scoped sound.ordered sound.apart m (channels_to wires m) (channels_from wires m) share.globals share.memories refl refl
          (subst (AreSignals circuit tree order listed entries m) (sym (at.signals ∙ ap (λ (l : List (List ℕ)). slice_index_or l m []) g)) (signals.each m low))
          (subst (AreMemories tree listed m) (sym (at.banks ∙ ap (λ (l : List (List ℕ)). slice_index_or l m []) b)) (banks.each m low))

-- ---- a design and what is listed

-- each signal has at most one channel, so there are at most as many channels as signals
wires-few : (design : Ordered) (listed : Listed) (entries : List BridgeEntry) → IsDesign design → KeepsToTree design.circuit design.tree → AreApart design.tree listed → length (wires_of design.circuit design.tree listed entries) ≤ length design.circuit.signals
wires-few design listed entries ready keeps apart =
    let wires = wires_of design.circuit design.tree listed entries in
    let once = wires-once design.circuit design.tree listed entries keeps.fitting keeps.scoped apart in
    let many = length-once (map (λ (w : Wire). w.signal) wires) (length design.circuit.signals) once
    (All-map (λ s. s < length design.circuit.signals) (λ (w : Wire). w.signal) wires (λ k d lt. wire-known design.circuit design.tree listed entries ready.formed keeps.fitting keeps.scoped apart (get_or wires k d) (Contains-get_or wires k d lt))) in
    omega (arith, many, length-map wires (λ (w : Wire). w.signal))

pub can-split : (design : Ordered) (circuit : FlatCircuit) (tree : InstanceTree) (order : List ℕ) (listed : Listed) (entries : List BridgeEntry) → circuit ≡ design.circuit → tree ≡ design.tree → order ≡ design.order → IsDesign design → KeepsToTree design.circuit design.tree → AreApart design.tree listed → length design.circuit.signals < 2 ^ 32 → CanSplit circuit tree order listed entries
can-split design circuit tree order listed entries is fits along ready keeps apart few =
    subst (λ k. CanSplit k tree order listed entries) (sym is)
    (subst (λ t. CanSplit design.circuit t order listed entries) (sym fits)
    (subst (λ o. CanSplit design.circuit design.tree o listed entries) (sym along)
    (record {
      formed = ready.formed;
      fitting = keeps.fitting;
      scoped = keeps.scoped;
      numbered = keeps.copies.number;
      ordered = ready.ordered;
      apart = apart;
      few = (let least = wires-few design listed entries ready keeps apart in omega (arith, least, few));
    })))

pub shares-of : (design : Ordered) (circuit : FlatCircuit) (tree : InstanceTree) (order : List ℕ) (listed : Listed) (entries : List BridgeEntry) (shares : List Share) → circuit ≡ design.circuit → tree ≡ design.tree → order ≡ design.order → AreShares (record { circuit = circuit; tree = tree; order = order }) listed entries shares → AreShares design listed entries shares
shares-of design circuit tree order listed entries shares is fits along are =
    subst (λ o. AreShares (record { circuit = design.circuit; tree = design.tree; order = o }) listed entries shares) along
    (subst (λ t. AreShares (record { circuit = design.circuit; tree = t; order = order }) listed entries shares) fits (subst (λ k. AreShares (record { circuit = k; tree = tree; order = order }) listed entries shares) is are))

pub ends-at : (design : Ordered) (circuit : FlatCircuit) (tree : InstanceTree) (listed : Listed) (entries : List BridgeEntry) (ends : Ends) → circuit ≡ design.circuit → tree ≡ design.tree → AreEndsOf design.circuit design.tree listed entries ends → AreEndsOf circuit tree listed entries ends
ends-at design circuit tree listed entries ends is fits at =
    subst (λ k. AreEndsOf k tree listed entries ends) (sym is) (subst (λ t. AreEndsOf design.circuit t listed entries ends) (sym fits) at)
