use Rattle.std.proofs.Common.{◌≡◌, ℕ, ◌<◌, [], length, slice_index_or}
use Rattle.gg_flat_tree.specs.Clocked.{top_clocks}
use Rattle.gg_flat_tree.proofs.tree.Tree.top_clocks.Given as goal

abbrev pub invariant-loop-instance : goal.invariant-loop-instance
invariant-loop-instance l = (length l.clocks.items ≡ l.instance-index) × ((k : ℕ) → k < l.instance-index → slice_index_or l.clocks.items k [] ≡ top_clocks l.self k)
