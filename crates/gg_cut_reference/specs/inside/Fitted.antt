-- Entries of bridges that fit: entries without a fault fit, and entries that fit can be at the ports of a circuit.
-- Source: ICCAD 2019 (bridges: models in the host's own code that stand at a target's ports).
use Rattle.std.specs.Prelude.{◌≡◌, ℕ, ◌-◌, List, None, length, map, take}
use Rattle.gg_flat.specs.Circuit.{FlatCircuit}
use Rattle.gg_partfile.specs.declared.request.BridgeEntry.{BridgeEntry}
use Rattle.gg_bridge.specs.inside.All.{CanAttachEach}
use Rattle.gg_cut_plan.specs.Bridges.{Models, bridge_faults}
use Rattle.gg_bits.specs.Lists.{first_of}
use Rattle.gg_cut_reference.specs.inside.Fitting.{AreFitting, ArePortsAt, attached_of}
use Rattle.gg_cut_reference.specs.fitting.Fitting.{AreModels}

-- Entries without a fault name models, list ports of their types, and list none twice.
abbrev pub FaultlessAreFitting : Type 0
FaultlessAreFitting =
    (circuit : FlatCircuit) (stops : ℕ) (models : Models) (entries : List BridgeEntry)
    -- The entries have no fault for a circuit with this many stops, which are its last out-signals.
    → first_of (bridge_faults circuit stops models entries) ≡ None
    -- They fit its ports, where the out-signals before the stops are its outputs.
    → AreFitting circuit (take (length circuit.outs - stops) circuit.outs) models entries

-- Entries that fit can be at the ports of a circuit, each at the circuit's own.
abbrev pub FittingCanAttach : Type 0
FittingCanAttach =
    (circuit : FlatCircuit) (outs : List ℕ) (models : Models) (one : FlatCircuit) (seen_at driven_at : List ℕ → ℕ) (entries : List BridgeEntry)
    -- The ports of `circuit` have these signals in the circuit `one`.
    → ArePortsAt circuit outs one seen_at driven_at
    -- The models may be bridges' models, and the entries fit them.
    → AreModels models → AreFitting circuit outs models entries
    -- The bridges can be at those signals.
    → CanAttachEach one (map (attached_of seen_at driven_at models) entries)
