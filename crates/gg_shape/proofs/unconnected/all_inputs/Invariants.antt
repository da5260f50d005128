use Rattle.std.proofs.Common.{◌≡◌, map, take}
use Rattle.gg_shape.specs.inside.Told.{inputs_of}
use Rattle.gg_shape.proofs.unconnected.all_inputs.Given as goal

abbrev pub invariant-loop-module : goal.invariant-loop-module
invariant-loop-module l = l.all.items ≡ map inputs_of (take l.module-index l.circuit.modules)
