-- More on Plan: what no promise of the program reaches.
-- Source: MEMOCODE 2009 (a network of machines that are latency-insensitive: an output depends only on the inputs
-- that it is computed from); ICCAD 2019 (instances and memories of a target as models of their own).
use Rattle.std.specs.Prelude.{◌≡◌, ◌⊎◌, ℕ, ◌<◌, List, length, Contains}
use Rattle.gg_flat.specs.Circuit.{FlatCircuit}
use Rattle.gg_flat_tree.specs.Tree.{InstanceTree}
use Rattle.gg_cut_plan.specs.declared.listed.Listed.{Listed}
use Rattle.gg_cut_plan.specs.Listed.{owner_of}
use Rattle.gg_cut_plan.specs.declared.wires.Wire.{Wire}
use Rattle.gg_cut_plan.specs.Plan.{IsInner, channels_from, givens_of}

-- ---- a machine's piece

-- Machine m gives signal s its value: it owns the signal and no channel carries it, or it gives a channel by the signal.
abbrev pub Makes : FlatCircuit → InstanceTree → Listed → List Wire → ℕ → ℕ → Type 0
Makes circuit tree listed wires m s = ((s < length circuit.signals) × (owner_of circuit tree listed s ≡ m) × IsInner wires s) ⊎ Contains (givens_of wires (channels_from wires m)) s
