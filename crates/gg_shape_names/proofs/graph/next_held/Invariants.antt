use Rattle.std.proofs.Common.{ℕ, take}
use Rattle.std.specs.Prelude.{Contains, flat_map}
use Rattle.gg_shape_names.specs.Modules.{held_by}
use Rattle.gg_shape_names.proofs.graph.next_held.Given as goal

abbrev pub invariant-loop-i : goal.invariant-loop-i
invariant-loop-i l = (j : ℕ) → Contains (flat_map (held_by l.circuit.modules) (take l.i l.statements)) j → Contains (flat_map (held_by l.circuit.modules) (take l.place l.statements)) j
