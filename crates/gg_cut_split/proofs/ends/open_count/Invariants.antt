use Rattle.std.proofs.Common.{◌≡◌, ◌≤◌}
use Rattle.gg_bits.specs.Lists.{count_below}
use Rattle.gg_cut_split.specs.inside.Ends.{is_open}
use Rattle.gg_cut_split.proofs.ends.open_count.Given as goal

abbrev pub invariant-loop-place : goal.invariant-loop-place
invariant-loop-place l = (l.count ≡ count_below (is_open l.takers) l.place) × (l.count ≤ l.place)
