use Rattle.std.proofs.Common.{◌-◌, length}
use Rattle.gg_order.proofs.NeedsLemmas.WalkLemmas.{AreWalks}
use Rattle.gg_order.proofs.needs.walk.hand_down.Given as goal

abbrev pub invariant-loop-done : goal.invariant-loop-done
invariant-loop-done l = AreWalks l.piece l._group (length l.piece.signals - l.done) l.marks
