use Rattle.std.proofs.Common.{◌≡◌, ℕ, ◌<◌, length, slice_index}
use Rattle.gg_types.specs.inside.Places.{ArePlaces, iterate}
use Rattle.gg_types_rules.proofs.clocks.after_steps.Given as goal

abbrev pub invariant-loop-left : goal.invariant-loop-left
invariant-loop-left l =
    ArePlaces (length l.fn.next.items) l.jump.items
    × ArePlaces (length l.fn.next.items) l.reached.items
    × ((k : ℕ) → k < length l.fn.next.items → iterate l.fn.steps l.fn.next.items k ≡ iterate l.left l.jump.items (slice_index l.reached.items k))

abbrev pub decreases-loop-left : goal.decreases-loop-left
decreases-loop-left l = l.left
