use Rattle.std.proofs.Common.{length}
use Rattle.gg_order.proofs.LoopLemmas.{IsToldLoop-turned}
use Rattle.gg_order.proofs.loops.told.Goals as goal

pub returns : goal.returns
returns c =
    rw (c.from.ensures, c.rotate_left.ensures.items)
    (IsToldLoop-turned c.args.piece.now (length c.args.piece.now.signals) c.args.ring.items c.least_place-first.result c.requires.ring
    (rw c.as_slice.ensures.value at c.least_place-first.ensures.within)
    (rw c.as_slice.ensures.value at c.least_place-first.ensures.least))
