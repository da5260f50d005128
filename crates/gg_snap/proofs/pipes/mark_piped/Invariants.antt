use Rattle.std.proofs.Common.{◌≡◌, ℕ, length, take}
use Rattle.gg_order.specs.Marks.{is_marked}
use Rattle.gg_snap.specs.inside.Gathered.{is_piped_by}
use Rattle.gg_snap.proofs.pipes.mark_piped.Given as goal

abbrev pub invariant-loop-channel : goal.invariant-loop-channel
invariant-loop-channel l = (length l.marks ≡ length l.initial.marks) × ((s : ℕ) → is_marked l.marks s ≡ is_piped_by (take l.channel-index l.channels) s)
