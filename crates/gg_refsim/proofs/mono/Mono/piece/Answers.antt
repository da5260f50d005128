use Rattle.gg_refsim.proofs.mono.Mono.piece.Goals as goal

pub returns-clause-ordered : goal.returns-clause-ordered
returns-clause-ordered c = rw (← c.self.view_is) (_, c.order.ensures.ordered)
