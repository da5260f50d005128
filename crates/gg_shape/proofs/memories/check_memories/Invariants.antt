use Rattle.std.proofs.Common.{◌≡◌}
use Rattle.std.specs.List.{flat_map}
use Rattle.gg_shape.specs.Memories.{wrong_in_module}
use Rattle.gg_shape.proofs.FlatLemmas.{rest}
use Rattle.gg_shape.proofs.memories.check_memories.Given as goal

abbrev pub invariant-loop-module : goal.invariant-loop-module
invariant-loop-module l = flat_map (wrong_in_module) l.circuit.modules ≡ rest (wrong_in_module) l.circuit.modules l.module-index
