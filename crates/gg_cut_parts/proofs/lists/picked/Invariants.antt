use Rattle.std.proofs.Common.{◌≡◌, map, take}
use Rattle.gg_flat.specs.Line.{value_at}
use Rattle.gg_cut_parts.proofs.lists.picked.Given as goal

abbrev pub invariant-loop-place : goal.invariant-loop-place
invariant-loop-place l = l.picked.items ≡ map (value_at l.values) (take l.place-index l.places)
