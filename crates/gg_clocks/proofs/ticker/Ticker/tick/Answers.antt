use Rattle.std.proofs.Common.{sym, ◌∙◌, arith}
use Rattle.std.proofs.lemmas.Bool.{le-leb, lt-leb}
use Rattle.gg_clocks.proofs.PhaseLemmas.{edge-kept, edge-over, phase-kept, phase-over}
use Rattle.gg_clocks.proofs.ticker.Ticker.tick.Goals as goal
use Rattle.gg_clocks.proofs.ticker.Ticker.tick.Goals.{then-is_edge, else-is_edge}

pub invariant_of-self : goal.invariant_of-self
invariant_of-self c =
    let phase = c.self.invariant in
    let m = c.m.ensures.value in
    let d = c.d-d.ensures.value in
    elim c.if-is_edge.branch [
      | then-is_edge w ↦
          let more = w.if-is_edge.true in
          let begun = w.self-is in
          let next = phase-over c.self.inside.ratio c.m.ensures.range c.self.inside.count (omega (arith, phase, m, d, more)) in
          omega (arith, begun, next, phase, m, d)
      | else-is_edge w ↦
          let less = w.if-is_edge.false in
          let grown = w.self-is in
          let next = phase-kept c.self.inside.ratio c.m.ensures.range c.self.inside.count (omega (arith, phase, m, d, less)) in
          omega (arith, grown, next, phase, m)
    ]

pub returns-clause-edge : goal.returns-clause-edge
returns-clause-edge c =
    let phase = c.self.invariant in
    let m = c.m.ensures.value in
    let d = c.d-d.ensures.value in
    rw (← c.self.view_is) (
    elim c.if-is_edge.branch [
      | then-is_edge w ↦
          let more = w.if-is_edge.true in
          le-leb _ _ more ∙ sym (edge-over c.self.inside.ratio c.m.ensures.range c.self.inside.count (omega (arith, phase, m, d, more)))
      | else-is_edge w ↦
          let less = w.if-is_edge.false in
          lt-leb _ _ less ∙ sym (edge-kept c.self.inside.ratio c.m.ensures.range c.self.inside.count (omega (arith, phase, m, d, less)))
    ]
    )
