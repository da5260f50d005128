use Rattle.net_tests.proofs.CircuitsLemmas.OrderLemmas.{counted-in-order}
use Rattle.net_tests.proofs.circuits.pieces.waits.Goals as goal

pub needs_it-requires-clause-ordered : goal.needs_it-requires-clause-ordered
needs_it-requires-clause-ordered c =
    counted-in-order c.args.design.now.circuit c.piece-piece.result.now 2 c.args.design.now.order c.order.result.now c.as_slice.result.now c.piece-piece.ensures.circuit
    c.order.ensures.order c.if-ne.ensures c.as_slice.ensures c.order.ensures.ordered

pub first_missing-requires-clause-ordered : goal.first_missing-requires-clause-ordered
first_missing-requires-clause-ordered c =
    counted-in-order c.args.design.now.circuit c.piece-piece.result.now 2 c.args.design.now.order c.order.result.now c.as_slice.result.now c.piece-piece.ensures.circuit
    c.order.ensures.order c.if-ne.ensures c.as_slice.ensures c.order.ensures.ordered
