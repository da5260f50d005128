use Rattle.std.proofs.Common.{◌≡◌, map, take}
use Rattle.gg_shape_names.specs.Modules.{module_at}
use Rattle.gg_shape.proofs.rings.names_at.Given as goal

abbrev pub invariant-loop-place : goal.invariant-loop-place
invariant-loop-place l = l.names.items ≡ map (λ k. (module_at l.circuit.modules k).name) (take l.place-index l.ring)
