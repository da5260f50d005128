use Rattle.std.proofs.Common.{◌≡◌, map, take}
use Rattle.gg_flat.specs.Line.{value_at}
use Rattle.gg_bridge.proofs.numbers.numbers_at.Given as goal

abbrev pub invariant-loop-place : goal.invariant-loop-place
invariant-loop-place l = l.numbers.items ≡ map (value_at l.list) (take l.place-index l.places)
