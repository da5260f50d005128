use Rattle.gg_flat.specs.Clock.{edges_at}
use Rattle.gg_refsim.proofs.CycleLemmas.{Cycle-once, Cycle-of}
use Rattle.gg_refsim.proofs.mono.Mono.cycle.Goals as goal

pub returns-clause-only : goal.returns-clause-only
returns-clause-only c =
    let row = c.settle.new.cells.values in
    rw (← c.self.view_is) (λ printed after other. Cycle-once (edges_at c.self.inside.timing.ratios c.self.inside.timing.tick) _ c.self.inside.design.now.order _ _ _ _ _ _ c.order.ensures.ordered other
    (Cycle-of (edges_at c.self.inside.timing.ratios c.self.inside.timing.tick) _ _ _ row _ _ (rw c.piece-piece.ensures.circuit at c.settle.ensures.settled) (rw (← c.piece-piece.ensures.circuit, ← c.outs.ensures, ← c.values.ensures) c.read_outs.ensures) (rw (← c.piece-piece.ensures.circuit, ← c.edges-edges.ensures) c.advance.ensures.next)))

pub returns-clause-cycle : goal.returns-clause-cycle
returns-clause-cycle c =
    rw (← c.self.view_is) (Cycle-of (edges_at c.self.inside.timing.ratios c.self.inside.timing.tick) _ _ _ c.settle.new.cells.values _ _ (rw c.piece-piece.ensures.circuit at c.settle.ensures.settled) (rw (← c.piece-piece.ensures.circuit, ← c.outs.ensures, ← c.values.ensures) c.read_outs.ensures) (rw (← c.piece-piece.ensures.circuit, ← c.edges-edges.ensures) c.advance.ensures.next))
