use Rattle.std.proofs.Common.{◌≡◌, map}
use Rattle.std.specs.Prelude.{filter}
use Rattle.std.specs.List.{range_with_len}
use Rattle.gg_flat.specs.Line.{value_at}
use Rattle.gg_cut_split.specs.inside.Ends.{is_open}
use Rattle.gg_cut_split.proofs.ends.open_at.Given as goal

abbrev pub invariant-loop-place : goal.invariant-loop-place
invariant-loop-place l = l.left.items ≡ map (value_at l.signals) (filter (is_open l.takers) (range_with_len 0 l.place))
