use Rattle.gg_order.proofs.LoopLemmas.{IsOrder-walk}
use Rattle.gg_order.proofs.ordering.order.Goals as goal

pub returns-in-Ok-clause-order : goal.returns-in-Ok-clause-order
returns-in-Ok-clause-order c =
    let walked = c.in-Ok.ensures {u = tt} in
    rw c.from.ensures (IsOrder-walk c.args.piece.now c.in-Ok.order.items walked.order)

pub returns-in-Ok-clause-free : goal.returns-in-Ok-clause-free
returns-in-Ok-clause-free c =
    let walked = c.in-Ok.ensures {u = tt} in
    λ loop. c.no_loop.ensures c.args.piece.now c.in-Ok.order.items loop (IsOrder-walk c.args.piece.now c.in-Ok.order.items walked.order)
