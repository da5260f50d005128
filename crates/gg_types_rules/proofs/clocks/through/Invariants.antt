use Rattle.std.proofs.Common.{◌≡◌, map, take, slice_index}
use Rattle.gg_types_rules.proofs.clocks.through.Given as goal

abbrev pub invariant-loop-place : goal.invariant-loop-place
invariant-loop-place l = l.places.items ≡ map (slice_index l.second.items) (take l.place-index l.first.items)
