use Rattle.std.proofs.Common.{ℕ, ◌<◌, ◌≤◌, ◌-◌, length, slice_index}
use Rattle.gg_elab_tree.proofs.instances.end_of.Given as goal

abbrev pub invariant-loop-next : goal.invariant-loop-next
invariant-loop-next l = (l.from < l.next) × (l.next ≤ length l.depths) × ((i : ℕ) → l.from < i → i < l.next → slice_index l.depths l.from < slice_index l.depths i)

abbrev pub decreases-loop-next : goal.decreases-loop-next
decreases-loop-next l = length l.depths - l.next
