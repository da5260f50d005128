use Rattle.std.proofs.Common.{◌≡◌, map, take}
use Rattle.gg_flat_tree.specs.Clocked.{clock_at}
use Rattle.gg_flat_tree.proofs.tree_clocks.clocks_at.Given as goal

abbrev pub invariant-loop-number : goal.invariant-loop-number
invariant-loop-number l = l.found.items ≡ map (clock_at l.clocks) (take l.number-index l.numbers)
