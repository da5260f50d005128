-- The signals that a unit takes, in the order of its channels: those of its inputs, and the data of the readers of the listed memories in it.
use Rattle.std.proofs.Common.{◌≡◌, ◌≢◌, ℕ, ◌+◌, ◌<◌, List, [], ◌∷◌, ◌++◌, length, map, get_or, Bool, true, false, refl, sym, ◌∙◌, ap, ap₂, eq-eqb, Some, arith}
use Rattle.std.specs.Prelude.{flat_map, filter, cond, ◌==◌, if◌then◌else◌}
use Rattle.std.specs.List.{range_with_len}
use Rattle.std.proofs.lemmas.Bool.{ne_eqb}
use Rattle.std.proofs.lemmas.List.{ext_get_or, append-nil}
use Rattle.std.proofs.lemmas.List.Concat.{flat_map-append, flat_map_single}
use Rattle.std.proofs.lemmas.List.Folds.{flat_map-map}
use Rattle.std.proofs.lemmas.List.FromFn.{get_or-map-range_with_len, length-map-range_with_len}
use Rattle.gg_flat_tree.specs.declared.tree.InstancePort.{InstancePort}
use Rattle.gg_flat.specs.declared.memory.Reader.{Reader}
use Rattle.gg_flat.specs.declared.memory.Writer.{Writer}
use Rattle.gg_flat.specs.Line.{value_at}
use Rattle.gg_flat.specs.Circuit.{FlatCircuit, readers_at}
use Rattle.gg_flat_tree.specs.Tree.{InstanceTree, IsTree, IsBelow, instance_at, memory_at, parent_place}
use Rattle.gg_flat_tree.specs.Scoped.{writers_at}
use Rattle.gg_cut_plan.specs.declared.wires.Wire.{Wire}
use Rattle.gg_cut_plan.specs.declared.listed.Listed.{Listed}
use Rattle.gg_cut_plan.specs.Listed.{owner_of_instance}
use Rattle.gg_cut_plan.specs.Machines.{unit_number, first_unit, first_memory}
use Rattle.gg_cut_plan.specs.Ports.{keeper_of, ports_of}
use Rattle.gg_cut_plan.proofs.PortLemmas.{keeper-source}
use Rattle.gg_cut_plan.specs.Channels.{wire, numbered, flattened, port_wire, port_wires, reader_wires, writer_wires, field_wires, input_wires, output_wires, wires_of}
use Rattle.gg_cut_plan.specs.Plan.{wire_at, channels_to, signals_of}
use Rattle.gg_cut_split.specs.inside.Apart.{AreApart}
use Rattle.gg_cut_split.proofs.ClosedLemmas.TreeLemmas.{lies-up}
use Rattle.gg_cut_split.proofs.ClosedLemmas.PlaceLemmas.{owner-unit, owner-outside}
use Rattle.gg_cut_split.proofs.ClosedLemmas.KindLemmas.{outside_unit}
use Rattle.gg_cut_split.proofs.AgainLemmas.FlatLemmas.{flat-same, flat-nothing, flat-filter, flat-flattened, flat-numbered, flat-one}
use Rattle.gg_cut_split.proofs.AgainLemmas.LiesLemmas.{lies-owner, owner-lies}

-- ---- channels that a machine takes

-- the signal of a channel that machine m takes
abbrev taken : ℕ → Wire → List ℕ
taken m w = cond (w.consumer == m) (w.signal ∷ []) []

taken-signals : (wires : List Wire) (m : ℕ) → signals_of wires (channels_to wires m) ≡ flat_map (taken m) wires
taken-signals wires m =
    sym (flat_map_single (λ c. (wire_at wires c).signal) (channels_to wires m))
    ∙ flat-filter (λ c. (wire_at wires c).signal ∷ []) (λ c. (wire_at wires c).consumer == m) (range_with_len 0 (length wires))
    ∙ sym (flat_map-map (taken m) (wire_at wires) (range_with_len 0 (length wires)))
    ∙ ap (flat_map (taken m)) all
  where
    count : length (map (wire_at wires) (range_with_len 0 (length wires))) ≡ length wires
    count = length-map-range_with_len (wire_at wires) 0 (length wires)

    all : map (wire_at wires) (range_with_len 0 (length wires)) ≡ wires
    all =
        ext_get_or (wire 0 0 0) (map (wire_at wires) (range_with_len 0 (length wires))) wires count
        (λ i lt. get_or-map-range_with_len (wire_at wires) 0 (length wires) i i (wire 0 0 0) (omega (arith, lt, count)) (let same : 0 + i ≡ i = omega arith in same))

-- ---- ports

-- the signal of an input
abbrev pub input : InstancePort → List ℕ
input port = cond port.is_input (port.signal ∷ []) []

port-taken : (m s outside number : ℕ) (b : Bool) → taken m (if b then wire s outside number else wire s number outside) ≡ cond b (cond (number == m) (s ∷ []) []) (cond (outside == m) (s ∷ []) [])
port-taken m s outside number true = refl
port-taken m s outside number false = refl

-- of a unit's ports, the unit takes the inputs
ports-taken : (m outside number : ℕ) (ports : List InstancePort) → outside ≢ m → number ≡ m → flat_map (taken m) (map (port_wire outside number) ports) ≡ flat_map input ports
ports-taken m outside number ports other same =
    flat_map-map (taken m) (port_wire outside number) ports
    ∙ flat-same (λ port. taken m (port_wire outside number port)) input ports
    (λ port h.
    port-taken m port.signal outside number port.is_input
    ∙ ap₂ (λ a b. cond port.is_input (cond a (port.signal ∷ []) []) (cond b (port.signal ∷ []) [])) (eq-eqb number m same) (ne_eqb outside m other))

-- other machines but the one outside take none
ports-passed : (m outside number : ℕ) (ports : List InstancePort) → outside ≢ m → number ≢ m → flat_map (taken m) (map (port_wire outside number) ports) ≡ []
ports-passed m outside number ports other apart =
    flat_map-map (taken m) (port_wire outside number) ports
    ∙ flat-nothing (λ port. taken m (port_wire outside number port)) ports
    (λ port.
    port-taken m port.signal outside number port.is_input
    ∙ ap₂ (λ a b. cond port.is_input (cond a (port.signal ∷ []) []) (cond b (port.signal ∷ []) [])) (ne_eqb number m apart) (ne_eqb outside m other)
    ∙ both port.is_input)
  where
    both : (b : Bool) → cond {A = List ℕ} b [] [] ≡ []
    both true = refl
    both false = refl

-- ---- fields

-- the data of a reader
abbrev pub word : Reader → List ℕ
word reader = reader.word ∷ []

module _ (m outside number : ℕ) (other : number ≢ m) where
  readers-taken : (readers : List Reader) → flat_map (taken m) (flattened (reader_wires outside number) readers) ≡ cond (outside == m) (flat_map word readers) []
  readers-taken readers =
      flat-flattened (taken m) (reader_wires outside number) readers
      ∙ flat-same (λ reader. flat_map (taken m) (reader_wires outside number reader)) (λ reader. cond (outside == m) (word reader) []) readers
      (λ reader h.
      ap (λ b. cond b (reader.addr ∷ []) [] ++ (cond b (reader.en ∷ []) [] ++ (cond (outside == m) (reader.word ∷ []) [] ++ []))) (ne_eqb number m other)
      ∙ append-nil (cond (outside == m) (reader.word ∷ []) []))
      ∙ by (outside == m)
    where
      by : (b : Bool) → flat_map (λ (reader : Reader). cond b (word reader) []) readers ≡ cond b (flat_map word readers) []
      by true = refl
      by false = flat-nothing (λ (reader : Reader). []) readers (λ reader. refl)

  writers-passed : (writers : List Writer) → flat_map (taken m) (flattened (writer_wires outside number) writers) ≡ []
  writers-passed writers =
      flat-flattened (taken m) (writer_wires outside number) writers
      ∙ flat-nothing (λ writer. flat_map (taken m) (writer_wires outside number writer)) writers
      (λ writer. ap (λ b. cond b (writer.addr ∷ []) [] ++ (cond b (writer.en ∷ []) [] ++ (cond b (writer.word ∷ []) [] ++ (cond b (writer.mask ∷ []) [] ++ [])))) (ne_eqb number m other))

  -- of a memory's fields, the machine outside takes the readers' data
  fields-taken : (readers : List Reader) (writers : List Writer) → flat_map (taken m) (flattened (reader_wires outside number) readers ++ flattened (writer_wires outside number) writers) ≡ cond (outside == m) (flat_map word readers) []
  fields-taken readers writers =
      flat_map-append (taken m) (flattened (reader_wires outside number) readers) (flattened (writer_wires outside number) writers)
      ∙ ap₂ (λ a b. a ++ b) (readers-taken readers) (writers-passed writers)
      ∙ append-nil (cond (outside == m) (flat_map word readers) [])

-- ---- all of a unit's channels

-- the data of the readers of the memory at a place of the tree
abbrev pub words : FlatCircuit → InstanceTree → ℕ → List ℕ
words circuit tree j = flat_map word (readers_at circuit (memory_at tree j).memory)

-- the listed memories in the unit at place u
abbrev pub held : InstanceTree → Listed → ℕ → List ℕ
held tree listed u = filter (λ j. owner_of_instance tree listed.units (memory_at tree j).instance == unit_number u) listed.memories

abbrev nothing : ℕ → List ℕ
nothing s = []

module _ (circuit : FlatCircuit) (tree : InstanceTree) (listed : Listed) (fits : IsTree circuit tree) (apart : AreApart tree listed) (u : ℕ) (lt : u < length listed.units) where
  -- what is outside of a unit belongs to no unit
  pub outside-hub : (k : ℕ) → k < length listed.units → outside_unit tree listed k ≢ unit_number u
  outside-hub k inside e = by below.above below.parent (sym (ap (λ p. owner_of_instance tree listed.units (parent_place p)) below.parent) ∙ e)
    where
      below : IsBelow tree (value_at listed.units k)
      below = fits.below (value_at listed.units k) (apart.lower k 0 inside) (apart.known k 0 inside)

      by : (p : ℕ) → (instance_at tree (value_at listed.units k)).parent ≡ Some p → owner_of_instance tree listed.units p ≡ unit_number u → ⊥
      by p parent owner =
          let known = apart.known k 0 inside in
          let up = lies-up circuit tree fits (value_at listed.units k) p (value_at listed.units u) known parent (owner-lies circuit tree listed fits apart p u owner) in
          let same : unit_number u ≡ unit_number k = sym (lies-owner circuit tree listed fits apart (value_at listed.units k) u known lt up) ∙ owner-unit circuit tree listed fits apart k inside in
          owner-outside circuit tree listed fits apart k p inside parent (owner ∙ same)

  abbrev inputs : List Wire
  inputs = numbered (input_wires (ports_of circuit tree listed [])) 0 circuit.ins

  abbrev ports : List Wire
  ports = numbered (port_wires tree listed.units) first_unit listed.units

  abbrev fields : List Wire
  fields = numbered (field_wires circuit tree listed.units) (first_memory listed) listed.memories

  abbrev outputs : List Wire
  outputs = numbered (output_wires circuit tree listed (ports_of circuit tree listed [])) 0 circuit.outs

  from-inputs : flat_map (taken (unit_number u)) (numbered (input_wires (ports_of circuit tree listed [])) 0 circuit.ins) ≡ []
  from-inputs =
      flat-numbered (taken (unit_number u)) (input_wires (ports_of circuit tree listed [])) nothing 0 circuit.ins 0
      (λ i inside. ap (λ b. cond b (get_or circuit.ins i 0 ∷ []) [] ++ []) (ne_eqb 0 (unit_number u) (λ e. absurd (omega (arith, e)))))
      ∙ flat-nothing nothing circuit.ins (λ s. refl)

  from-ports : flat_map (taken (unit_number u)) (numbered (port_wires tree listed.units) first_unit listed.units) ≡ flat_map input (instance_at tree (value_at listed.units u)).ports
  from-ports =
      flat-one (taken (unit_number u)) (port_wires tree listed.units) first_unit listed.units u 0 lt
      (λ k inside other.
      ports-passed (unit_number u) (outside_unit tree listed k) (first_unit + k) (instance_at tree (value_at listed.units k)).ports (outside-hub k inside) (λ e. other (let same : k ≡ u = omega (arith, e) in same)))
      ∙ ports-taken (unit_number u) (outside_unit tree listed u) (first_unit + u) (instance_at tree (value_at listed.units u)).ports (outside-hub u lt) (let same : first_unit + u ≡ unit_number u = omega arith in same)

  from-fields : flat_map (taken (unit_number u)) (numbered (field_wires circuit tree listed.units) (first_memory listed) listed.memories) ≡ flat_map (words circuit tree) (held tree listed u)
  from-fields =
      flat-numbered (taken (unit_number u)) (field_wires circuit tree listed.units) (λ j. cond (owner_of_instance tree listed.units (memory_at tree j).instance == unit_number u) (words circuit tree j) []) (first_memory listed) listed.memories 0
      (λ i inside.
      let place = (memory_at tree (value_at listed.memories i)).memory in
      fields-taken (unit_number u) (owner_of_instance tree listed.units (memory_at tree (value_at listed.memories i)).instance) (first_memory listed + i) (λ e. absurd (omega (arith, e, lt))) (readers_at circuit place) (writers_at circuit place))
      ∙ sym (flat-filter (words circuit tree) (λ j. owner_of_instance tree listed.units (memory_at tree j).instance == unit_number u) listed.memories)

  from-outputs : flat_map (taken (unit_number u)) (numbered (output_wires circuit tree listed (ports_of circuit tree listed [])) 0 circuit.outs) ≡ []
  from-outputs =
      flat-numbered (taken (unit_number u)) (output_wires circuit tree listed (ports_of circuit tree listed [])) nothing 0 circuit.outs 0
      (λ i inside.
      ap (λ b. cond b (get_or circuit.outs i 0 ∷ []) [] ++ [])
      (ne_eqb (keeper_of (ports_of circuit tree listed []) (0 + i)) (unit_number u) (λ e. let high = keeper-source (ports_of circuit tree listed []) (0 + i) in absurd (omega (arith, e, lt, high)))))
      ∙ flat-nothing nothing circuit.outs (λ s. refl)

  -- a unit takes its inputs, in port order, and then the data of the listed memories in it, in their order
  pub taken-are : signals_of (wires_of circuit tree listed []) (channels_to (wires_of circuit tree listed []) (unit_number u)) ≡ flat_map input (instance_at tree (value_at listed.units u)).ports ++ flat_map (words circuit tree) (held tree listed u)
  taken-are =
      taken-signals (wires_of circuit tree listed []) (unit_number u)
      ∙ flat_map-append (taken (unit_number u)) inputs (ports ++ (fields ++ outputs))
      ∙ ap₂ (λ a b. a ++ b) from-inputs
      (flat_map-append (taken (unit_number u)) ports (fields ++ outputs)
      ∙ ap₂ (λ a b. a ++ b) from-ports
      (flat_map-append (taken (unit_number u)) fields outputs ∙ ap₂ (λ a b. a ++ b) from-fields from-outputs ∙ append-nil (flat_map (words circuit tree) (held tree listed u))))
