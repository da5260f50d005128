use Rattle.std.proofs.Common.{◌≡◌, ◌+◌, map}
use Rattle.std.specs.List.{range_with_len}
use Rattle.gg_bits.specs.Lists.{count_below}
use Rattle.gg_cut_split.specs.inside.Ends.{is_open, number_by}
use Rattle.gg_cut_split.proofs.ends.numbers_by.Given as goal

abbrev pub invariant-loop-place : goal.invariant-loop-place
invariant-loop-place l = (l.numbers.items ≡ map (number_by l.own l.bridge l.takers) (range_with_len 0 l.place)) × (l.next ≡ l.own + count_below (is_open l.takers) l.place)
