-- A listed memory as a machine of the network: the channels of its fields, its turns, and what its outs need.
use Rattle.std.proofs.Common.{◌≡◌, ◌≢◌, ℕ, ◌+◌, ◌-◌, ◌<◌, List, [], ◌∷◌, ◌++◌, length, map, get_or, refl, sym, ◌∙◌, ap, ap₂, subst, arith}
use Rattle.std.specs.Prelude.{All, AllPairs, Contains, ◌==◌, None, true, not, filter}
use Rattle.std.proofs.lemmas.List.{length-map, get_or-map}
use Rattle.std.proofs.lemmas.Simd.{map-map}
use Rattle.gg_flat.specs.declared.memory.Latency.{Latency}
use Rattle.gg_flat.specs.declared.memory.Latency.TheVariants.{Zero, One}
use Rattle.gg_flat.specs.declared.memory.Reader.{Reader}
use Rattle.gg_flat.specs.declared.memory.Writer.{Writer}
use Rattle.gg_flat.specs.declared.memory.Memory.{Memory}
use Rattle.gg_flat.specs.declared.piece.Driver.TheVariants.{MemoryWord}
use Rattle.gg_flat.specs.Line.{value_at}
use Rattle.gg_flat.specs.Circuit.{FlatCircuit, driver_at, latency_at, readers_at}
use Rattle.gg_flat.specs.Memory.{LooksAmong}
use Rattle.gg_flat_tree.specs.Tree.{port_count}
use Rattle.gg_flat_tree.specs.Scoped.{writers_at}
use Rattle.gg_flat.specs.WellFormed.{AreDriven, reader_driver}
use Rattle.gg_flat.specs.Run.{Start}
use Rattle.gg_part.specs.declared.part.Part.{Part}
use Rattle.gg_part.proofs.FormedLemmas.{IsWellFormed-part}
use Rattle.gg_cut_plan.specs.declared.plan.Body.TheVariants.{Memory as Listing}
use Rattle.gg_cut_plan.specs.declared.wires.Wire.{Wire}
use Rattle.gg_cut_plan.specs.Machines.{first_memory}
use Rattle.gg_cut_plan.specs.Channels.{wire, flattened, numbered, field_wires, port_wires, input_wires, output_wires, reader_wires, wires_of, writer_wires}
use Rattle.gg_cut_plan.specs.Direct.{is_gone, route}
use Rattle.gg_cut_plan.specs.Plan.{wire_at, channels_to}
use Rattle.gg_cut_split.proofs.ClosedLemmas.KindLemmas.{outside_memory}
use Rattle.gg_cut_routes.proofs.RouteLemmas.{IsBase, port-stays, route-consumer, route-signal}
use Rattle.gg_cut_routes.proofs.RoutedLemmas.{routed-base}
use Rattle.gg_memunit.specs.MemoryUnit.{count_of, needs_by, needs_of, ports_by, ports_of}
use Rattle.gg_memunit.proofs.UnitLemmas.{of-sole, sole}
use Rattle.gg_node.specs.Machine.{Machine, Port, needs_at}
use Rattle.gg_net.specs.Network.{Frame, IsAtIn}
use Rattle.gg_net.specs.inside.Fits.{AreTurnsOf}
use Rattle.gg_build.specs.plan.Built.{IsMemoryOf, place_in, wires_of_plan}
use Rattle.gg_build.specs.inside.Given.{Given, IsBodyAt, cut_of}
use Rattle.gg_build.proofs.PlanLemmas.GivenLemmas.{are-links, is-apart, is-routed, memory-at, no-fault}
use Rattle.gg_build.proofs.PlanLemmas.NumberLemmas.{numbers-once, place-back}
use Rattle.gg_build.proofs.PlanLemmas.ListedLemmas.{at-in, taken-at}
use Rattle.gg_build.proofs.PlanLemmas.SideLemmas.{link-one}
use Rattle.gg_build.proofs.PlanLemmas.PortLemmas.{IsFitPort, ports-fit}
use Rattle.gg_build.proofs.PlanLemmas.FitLemmas.{ins-count}
use Rattle.gg_build.proofs.PlanLemmas.MemoryPartLemmas.{IsMemoryPart, known, whole}
use Rattle.gg_build.specs.plan.CutLayout.{channel_of, turn_of, memory_turns, memory_of}
use Rattle.gg_build.proofs.PlanLemmas.BeforeLemmas.{IsBefore, before-left, before-right, filter-before, flattened-before, map-before, numbered-before}
use Rattle.gg_build.proofs.PlanLemmas.WireLemmas.{places-up}
use Rattle.gg_build.proofs.PlanLemmas.ChannelLemmas.{channel-back}
use Rattle.gg_build.proofs.PlanLemmas.TurnLemmas.{number_of, reader_of, writer_of, turns-alone}
use Rattle.gg_build.proofs.PlanLemmas.ReachLemmas.{AreReached, late-needs, same-cycle-needs}
use Rattle.gg_flat.specs.Renaming.{renamed_memory, renamed_reader, renamed_writer}
use Rattle.gg_part.specs.Part.{in_whole}

module _ (given : Given) (m : ℕ) (part : Part) (body : IsBodyAt given m (Listing part)) (begins : Start) (machine : Machine) (stands : IsMemoryOf begins part machine) where
  open given use {design, request, plan, can, design.{circuit, tree}}
  open cut_of design request use {listed, hub, bridges as b, wires}

  abbrev piece : FlatCircuit
  piece = stands.alone.piece

  abbrev number : ℕ → ℕ
  number = number_of part.globals stands.alone.globals part.clocks stands.alone.clocks

  base : IsBase hub
  base = routed-base design request can.design_is can.keeps (no-fault given)

  once : AllPairs (λ (v w : Wire). v.signal ≢ w.signal) wires
  once = (is-routed given).once

  -- ---- fields

  in-count : length piece.ins ≡ length part.piece.ins
  in-count = sym (length-map piece.ins (value_at stands.alone.globals)) ∙ ap length stands.ins

  channel-count : length part.piece.ins ≡ length (channels_to wires m)
  channel-count = ins-count design listed hub m part body.2

  -- field x of the memory is in-signal x of the part
  in-at : (x : ℕ) → x < length piece.ins → value_at stands.alone.globals x ≡ value_at part.piece.ins x
  in-at x lt =
      ap (value_at stands.alone.globals) (sym (stands.is_memory.first x lt))
      ∙ sym (get_or-map (value_at stands.alone.globals) piece.ins x 0 0 lt)
      ∙ ap (λ (l : List ℕ). value_at l x) stands.ins

  field-signal : (x : ℕ) → x < length piece.ins → number x ≡ (wire_at wires (value_at (channels_to wires m) x)).signal
  field-signal x lt =
      let inside : x < length part.piece.ins = omega (arith, lt, in-count) in
      ap (value_at part.globals) (in-at x lt)
      ∙ sym (get_or-map (value_at part.globals) part.piece.ins x 0 0 inside)
      ∙ ap (λ (l : List ℕ). value_at l x) body.2.ins
      ∙ get_or-map (λ c. (wire_at wires c).signal) (channels_to wires m) x 0 0 (omega (arith, inside, channel-count))

  -- the channel of a field is at the in with the field's number
  field-at : (token : ℕ → ℕ) (x : ℕ) → x < length piece.ins → IsAtIn (wires_of_plan token plan) m x (channel_of wires (number x))
  field-at token x lt =
      let inside : x < length (channels_to wires m) = omega (arith, lt, in-count, channel-count) in
      let c = value_at (channels_to wires m) x in
      subst (IsAtIn (wires_of_plan token plan) m x)
      (sym (ap (channel_of wires) (field-signal x lt) ∙ channel-back wires c once (taken-at wires m x inside).known))
      (at-in token plan wires (are-links given) m x inside)

  field-place : (x c : ℕ) → x < length piece.ins → c < length wires → (wire_at wires c).signal ≡ number x → place_in (channels_to wires m) c ≡ x
  field-place x c lt inside same =
      let low : x < length (channels_to wires m) = omega (arith, lt, in-count, channel-count) in
      let d = value_at (channels_to wires m) x in
      ap (place_in (channels_to wires m)) (link-one wires c d once inside (taken-at wires m x low).known (same ∙ field-signal x lt))
      ∙ place-back (channels_to wires m) x (numbers-once (λ k. (wire_at wires k).consumer == m) (length wires)) low

  -- ---- the memory

  -- the memory of the part, and the memory of the piece
  abbrev outer : Memory
  outer = (memory-at given m part body).0

  own : IsMemoryPart part outer
  own = (memory-at given m part body).1

  abbrev inner : Memory
  inner = (sole piece.memories stands.is_memory.one).0

  only : piece.memories ≡ inner ∷ []
  only = (sole piece.memories stands.is_memory.one).1

  abbrev k : ℕ
  k = memory_of design.tree listed m

  inner-is : outer ≡ renamed_memory (in_whole stands.alone.globals stands.alone.clocks) inner
  inner-is =
      let first : value_at stands.alone.memories 0 ≡ 0 = ap (λ (l : List ℕ). value_at l 0) stands.memories in
      ap (λ (l : List Memory). get_or l 0 outer) (sym own.only)
      ∙ ap (λ j. get_or part.piece.memories j outer) (sym first)
      ∙ (stands.is_part.memory_from 0 (omega (arith, ap length stands.memories))).is inner outer
      ∙ ap (λ (l : List Memory). renamed_memory (in_whole stands.alone.globals stands.alone.clocks) (get_or l 0 inner)) only

  there : k < length circuit.memories
  there = known design request m part can.design_is can.keeps (is-apart given) (is-routed given) body.0 body.1 body.2 outer own.only

  whole-is : get_or circuit.memories k outer ≡ renamed_memory (in_whole part.globals part.clocks) (renamed_memory (in_whole stands.alone.globals stands.alone.clocks) inner)
  whole-is = whole design request m part can.design_is can.keeps (is-apart given) (is-routed given) body.0 body.1 body.2 outer own.only ∙ ap (renamed_memory (in_whole part.globals part.clocks)) inner-is

  latency-is : latency_at circuit k ≡ inner.latency
  latency-is = get_or-map (λ (x : Memory). x.latency) circuit.memories k outer Zero there ∙ ap (λ (x : Memory). x.latency) whole-is

  readers-are : readers_at circuit k ≡ map (reader_of part.globals stands.alone.globals part.clocks stands.alone.clocks) inner.readers
  readers-are =
      get_or-map (λ (x : Memory). x.readers) circuit.memories k outer [] there
      ∙ ap (λ (x : Memory). x.readers) whole-is
      ∙ map-map (renamed_reader (in_whole part.globals part.clocks)) (renamed_reader (in_whole stands.alone.globals stands.alone.clocks)) inner.readers

  writers-are : writers_at circuit k ≡ map (writer_of part.globals stands.alone.globals part.clocks stands.alone.clocks) inner.writers
  writers-are =
      get_or-map (λ (x : Memory). x.writers) circuit.memories k outer [] there
      ∙ ap (λ (x : Memory). x.writers) whole-is
      ∙ map-map (renamed_writer (in_whole part.globals part.clocks)) (renamed_writer (in_whole stands.alone.globals stands.alone.clocks)) inner.writers

  turns-by : ports_by (latency_at circuit k) (readers_at circuit k) (writers_at circuit k) ≡ ports_by inner.latency (map (reader_of part.globals stands.alone.globals part.clocks stands.alone.clocks) inner.readers) (map (writer_of part.globals stands.alone.globals part.clocks stands.alone.clocks) inner.writers)
  turns-by =
      ap (λ (l : Latency). ports_by l (readers_at circuit k) (writers_at circuit k)) latency-is
      ∙ ap (λ (l : List Reader). ports_by inner.latency l (writers_at circuit k)) readers-are
      ∙ ap (λ (l : List Writer). ports_by inner.latency (map (reader_of part.globals stands.alone.globals part.clocks stands.alone.clocks) inner.readers) l) writers-are

  pub memory-turns : (token : ℕ → ℕ) (frame : Frame) → frame.wires ≡ wires_of_plan token plan → AreTurnsOf frame m (ports_of piece.memories) (memory_turns circuit wires k)
  memory-turns token frame same =
      let fit = ports-fit piece.memories (length piece.ins) stands.is_memory.readers stands.is_memory.writers in
      let at : (x : ℕ) → x < length piece.ins → IsAtIn frame.wires m x (channel_of wires (number x)) =
      λ x lt. subst (λ l. IsAtIn l m x (channel_of wires (number x))) (sym same) (field-at token x lt) in
      subst (λ (l : List Memory). AreTurnsOf frame m (ports_of l) (memory_turns circuit wires k)) (sym only)
      (subst (λ (l : List Port). AreTurnsOf frame m (ports_by inner.latency inner.readers inner.writers) (map (turn_of wires) l)) (sym turns-by)
      (turns-alone part.globals stands.alone.globals part.clocks stands.alone.clocks frame wires m (length piece.ins) at (count_of (inner ∷ [])) inner.latency inner.readers inner.writers
      (subst (λ (l : List Memory). All (IsFitPort (length piece.ins) (count_of l)) (ports_of l)) only fit)))

  -- the memory that stands alone has as many ports as the memory in the whole circuit
  pub memory-ports : port_count circuit k ≡ count_of piece.memories
  memory-ports =
      get_or-map (λ (x : Memory). length x.readers + length x.writers) circuit.memories k outer 0 there
      ∙ ap (λ (x : Memory). length x.readers + length x.writers) whole-is
      ∙ ap₂ (λ (a b : ℕ). a + b)
      (length-map (map (renamed_reader (in_whole stands.alone.globals stands.alone.clocks)) inner.readers) (renamed_reader (in_whole part.globals part.clocks)) ∙ length-map inner.readers (renamed_reader (in_whole stands.alone.globals stands.alone.clocks)))
      (length-map (map (renamed_writer (in_whole stands.alone.globals stands.alone.clocks)) inner.writers) (renamed_writer (in_whole part.globals part.clocks)) ∙ length-map inner.writers (renamed_writer (in_whole stands.alone.globals stands.alone.clocks)))
      ∙ sym (ap count_of only)

  -- ---- needs

  abbrev nobody : Reader
  nobody = record { addr = 0; en = 0; word = 0; clock = None }

  module _ (o : ℕ) (some : o < length inner.readers) where
    abbrev reader : Reader
    reader = get_or inner.readers o nobody

    abbrev i : ℕ
    i = m - first_memory listed

    abbrev outside : ℕ
    outside = outside_memory design.tree listed (m - first_memory listed)

    abbrev self : ℕ
    self = first_memory listed + (m - first_memory listed)

    self-is : self ≡ m
    self-is = omega (arith, body.0)

    looks : LooksAmong (length piece.ins) reader
    looks = of-sole (λ (memory : Memory). All (LooksAmong (length piece.ins)) memory.readers) piece.memories inner only stands.is_memory.readers o nobody some

    -- the channel of the address comes before that of the enable
    abbrev address : Wire
    address = wire (number reader.addr) outside self

    abbrev enable : Wire
    enable = wire (number reader.en) outside self

    at-reader : IsBefore address enable (reader_wires outside self (reader_of part.globals stands.alone.globals part.clocks stands.alone.clocks reader))
    at-reader = record { first = 0; second = 1; less = omega arith; within = omega arith; is_first = λ d. refl; is_second = λ d. refl }

    at-readers : IsBefore address enable (flattened (reader_wires outside self) (readers_at circuit k))
    at-readers =
        let rename = reader_of part.globals stands.alone.globals part.clocks stands.alone.clocks in
        subst (λ (l : List Reader). IsBefore address enable (flattened (reader_wires outside self) l)) (sym readers-are)
        (flattened-before address enable (reader_wires outside self) (map rename inner.readers) o (rename nobody) (omega (arith, some, length-map inner.readers rename))
        (subst (λ (r : Reader). IsBefore address enable (reader_wires outside self r)) (sym (get_or-map rename inner.readers o nobody (rename nobody) some)) at-reader))

    abbrev fields : List Wire
    fields =
        numbered (field_wires design.circuit design.tree listed.units) (first_memory listed) listed.memories

    abbrev trays : List Wire
    trays = numbered (output_wires design.circuit design.tree listed b) 0 design.circuit.outs

    abbrev ports : List Wire
    ports = numbered (port_wires design.tree listed.units) 1 listed.units

    abbrev sources : List Wire
    sources = numbered (input_wires b) 0 design.circuit.ins

    at-base : IsBefore address enable (wires_of circuit tree listed request.bridges)
    at-base =
        before-right address enable sources (ports ++ (fields ++ trays))
        (before-right address enable ports (fields ++ trays)
        (before-left address enable fields trays
        (numbered-before address enable (field_wires circuit tree listed.units) (first_memory listed) listed.memories i 0 (omega (arith, body.0, body.1))
        (before-left address enable (flattened (reader_wires outside self) (readers_at circuit k)) (flattened (writer_wires outside self) (writers_at circuit k)) at-readers))))

    -- a channel that the memory takes stays
    stays : (w : Wire) → Contains (wires_of circuit tree listed request.bridges) w → w.consumer ≡ self → not (is_gone hub w.signal) ≡ true
    stays w has to = ap not (port-stays hub base w has (λ none. omega (arith, to, none, body.0, self-is)))

    -- the routed channels of the address and of the enable
    abbrev to_address : Wire
    to_address = route hub address

    abbrev to_enable : Wire
    to_enable = route hub enable

    before : IsBefore to_address to_enable wires
    before =
        let all = wires_of circuit tree listed request.bridges in
        let at = at-base in
        let inside = at.within in
        let lower : at.first < length all = omega (arith, at.less, inside) in
        let one = stays address (at.first, lower, at.is_first address) refl in
        let other = stays enable (at.second, inside, at.is_second enable) refl in
        map-before address enable (route hub) (filter (λ w. not (is_gone hub w.signal)) all) (filter-before address enable (λ w. not (is_gone hub w.signal)) all one other at)

    less : reader.addr < reader.en
    less =
        let one = before.is_first (wire 0 0 0) in
        let other = before.is_second (wire 0 0 0) in
        let c = before.first in
        let d = before.second in
        let inside = before.within in
        let apart = before.less in
        let lower : c < length wires = omega (arith, apart, inside) in
        let up = places-up wires m c d apart inside (ap (λ (w : Wire). w.consumer) one ∙ route-consumer hub base address ∙ self-is) (ap (λ (w : Wire). w.consumer) other ∙ route-consumer hub base enable ∙ self-is) in
        let first = field-place reader.addr c looks.0 lower (ap (λ (w : Wire). w.signal) one ∙ route-signal hub base address) in
        let second = field-place reader.en d looks.1 inside (ap (λ (w : Wire). w.signal) other ∙ route-signal hub base enable) in
        omega (arith, up, first, second)

    -- the out of the reader, and its driver
    abbrev inner_reader : Reader
    inner_reader = renamed_reader (in_whole stands.alone.globals stands.alone.clocks) reader

    there-inner : o < length (map (renamed_reader (in_whole stands.alone.globals stands.alone.clocks)) inner.readers)
    there-inner = omega (arith, some, length-map inner.readers (renamed_reader (in_whole stands.alone.globals stands.alone.clocks)))

    reader-is : get_or (map (renamed_reader (in_whole stands.alone.globals stands.alone.clocks)) inner.readers) o nobody ≡ inner_reader
    reader-is = get_or-map (renamed_reader (in_whole stands.alone.globals stands.alone.clocks)) inner.readers o nobody nobody some

    out-is : value_at part.piece.outs o ≡ inner_reader.word
    out-is =
        ap (λ (l : List ℕ). value_at l o) own.words
        ∙ ap (λ (x : Memory). value_at (map (λ (r : Reader). r.word) x.readers) o) inner-is
        ∙ get_or-map (λ (r : Reader). r.word) (map (renamed_reader (in_whole stands.alone.globals stands.alone.clocks)) inner.readers) o nobody 0 there-inner
        ∙ ap (λ (r : Reader). r.word) reader-is

    driven : driver_at part.piece inner_reader.word ≡ reader_driver inner.latency 0 o inner_reader
    driven =
        let formed = IsWellFormed-part circuit part.piece part.globals part.held part.memories part.clocks can.design_is.formed body.2.is in
        let first : 0 < length part.piece.memories = omega (arith, ap length own.only) in
        let one = subst (λ (l : List Memory). AreDriven (driver_at part.piece) 0 (get_or (map (λ (x : Memory). x.latency) l) 0 Zero) (get_or (map (λ (x : Memory). x.readers) l) 0 [])) own.only (formed.reads 0 first) in
        let all = subst (λ (x : Memory). AreDriven (driver_at part.piece) 0 x.latency x.readers) inner-is one in
        subst (λ (r : Reader). driver_at part.piece r.word ≡ reader_driver inner.latency 0 o r) reader-is (all o there-inner)

    needed : (latency : Latency) → o < length part.piece.outs → driver_at part.piece (value_at part.piece.outs o) ≡ reader_driver latency 0 o inner_reader → AreReached part.piece (value_at part.piece.outs o) (needs_by latency reader)
    needed Zero lt is_driven =
        same-cycle-needs part.piece (λ place inside. (body.2.is.ins place inside).1) own.ins_once (value_at part.piece.outs o) (let below = body.2.is.outs o lt in omega (arith, below, body.2.is.count)) 0 o reader.addr reader.en less
        (let inside = looks.1 in omega (arith, inside, in-count))
        (is_driven ∙ ap₂ (λ a e. MemoryWord 0 o a e) (in-at reader.addr looks.0) (in-at reader.en looks.1))
    needed (One under) lt is_driven =
        late-needs part.piece (λ place inside. (body.2.is.ins place inside).1) own.ins_once (value_at part.piece.outs o) (let below = body.2.is.outs o lt in omega (arith, below, body.2.is.count)) 0 o is_driven

  pub memory-needs : (o : ℕ) → o < length part.piece.outs → AreReached part.piece (value_at part.piece.outs o) (needs_at (needs_of piece.memories) o)
  memory-needs o lt =
      let some : o < length inner.readers =
      omega (arith, lt, ap length own.words, length-map outer.readers (λ (r : Reader). r.word), ap (λ (x : Memory). length x.readers) inner-is, length-map inner.readers (renamed_reader (in_whole stands.alone.globals stands.alone.clocks))) in
      subst (AreReached part.piece (value_at part.piece.outs o))
      (sym (ap (λ (l : List Memory). needs_at (needs_of l) o) only ∙ get_or-map (needs_by inner.latency) inner.readers o nobody [] some))
      (needed o some inner.latency lt (ap (driver_at part.piece) (out-is o some) ∙ driven o some))
