use Rattle.std.proofs.Common.{◌+◌, sym, subst}
use Rattle.gg_order.proofs.LoopLemmas.{IsLeastBelow, least-first, least-moved, least-kept}
use Rattle.gg_order.proofs.loops.least_place.Goals.{then-is_before, else-is_before}
use Rattle.gg_order.proofs.loops.least_place.Goals as goal

pub loop-i-init : goal.loop-i-init
loop-i-init c = least-first c.args.piece.now.paths c.args.signals.now

pub loop-i-preserved : goal.loop-i-preserved
loop-i-preserved c =
    let paths = c.args.piece.now.paths in
    let signals = c.args.signals.now in
    elim c.if-is_before.branch [
      | then-is_before w ↦
          subst (IsLeastBelow paths signals (c.loop-i.i + 1)) (sym w.least-is) (least-moved paths signals c.loop-i.i c.loop-i.least (rw w.if-is_before.true at c.is_before.ensures) c.loop-i.invariant)
      | else-is_before w ↦
          subst (IsLeastBelow paths signals (c.loop-i.i + 1)) (sym w.least-is) (least-kept paths signals c.loop-i.i c.loop-i.least (rw w.if-is_before.false at c.is_before.ensures) c.loop-i.invariant)
    ]
