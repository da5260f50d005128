use Rattle.net_tests.proofs.CircuitsLemmas.OrderLemmas.{counted-in-order}
use Rattle.net_tests.proofs.circuits.tokens.gives.Goals as goal

pub tokens_of-tokens-requires-clause-ordered : goal.tokens_of-tokens-requires-clause-ordered
tokens_of-tokens-requires-clause-ordered c =
    counted-in-order c.args.design.now.circuit c.piece-piece.result.now 4 c.args.design.now.order c.order.result.now c.as_slice.result.now c.piece-piece.ensures.circuit
    c.order.ensures.order c.if-ne.ensures c.as_slice.ensures c.order.ensures.ordered

pub has_slots-requires-clause-ordered : goal.has_slots-requires-clause-ordered
has_slots-requires-clause-ordered c =
    counted-in-order c.args.design.now.circuit c.piece-piece.result.now 4 c.args.design.now.order c.order.result.now c.as_slice.result.now c.piece-piece.ensures.circuit
    c.order.ensures.order c.if-ne.ensures c.as_slice.ensures c.order.ensures.ordered
