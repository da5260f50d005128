use Rattle.std.proofs.Common.{◌≡◌, map}
use Rattle.std.specs.List.{range_with_len}
use Rattle.gg_order.specs.Marks.{is_marked}
use Rattle.gg_snap.specs.inside.Gathered.{number_below}
use Rattle.gg_snap.proofs.pipes.numbers_by.Given as goal

abbrev pub invariant-loop-place : goal.invariant-loop-place
invariant-loop-place l = (l.numbers.items ≡ map (number_below (is_marked l.marks)) (range_with_len 0 l.place)) × (l.number ≡ number_below (is_marked l.marks) l.place)
