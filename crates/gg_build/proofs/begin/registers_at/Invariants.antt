use Rattle.std.proofs.Common.{◌≡◌, map, take}
use Rattle.gg_flat.specs.Line.{value_at}
use Rattle.gg_build.proofs.begin.registers_at.Given as goal

abbrev pub invariant-loop-register : goal.invariant-loop-register
invariant-loop-register l = l.own.items ≡ map (value_at l.values) (take l.register-index l.held)
