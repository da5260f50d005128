use Rattle.std.proofs.Common.{◌≡◌, None, map, take, slice_index_or}
use Rattle.gg_types_rules.proofs.inputs.numbers_reached.Given as goal

abbrev pub invariant-loop-place : goal.invariant-loop-place
invariant-loop-place l = l.found.items ≡ map (λ place. slice_index_or l.numbers place None) (take l.place-index l.places.items)
