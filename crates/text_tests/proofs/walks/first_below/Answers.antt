use Rattle.std.proofs.Common.{inl, inr, arith}
use Rattle.gg_graph.proofs.ListLemmas.{below-more, below-all}
use Rattle.text_tests.proofs.walks.first_below.Goals as goal

pub returns-then-targets-i-clause-first : goal.returns-then-targets-i-clause-first
returns-then-targets-i-clause-first c = λ t less below.
    elim (below-more c.args.targets.now c.loop-i.i t c.loop-i-test.true below) [ inl old ↦ inl (c.loop-i.invariant t less old) | inr same ↦ inr same ]

pub loop-i-preserved : goal.loop-i-preserved
loop-i-preserved c = λ t less below.
    elim (below-more c.args.targets.now c.loop-i.i t c.loop-i-test.true below) [
      | inl old ↦ c.loop-i.invariant t less old
      | inr same ↦ absurd (omega (arith, less, same, c.if-targets-i.false))
    ]

pub returns-clause-none : goal.returns-clause-none
returns-clause-none c = λ t less h.
    c.loop-i.invariant t less (below-all c.args.targets.now c.loop-i.i t (omega arith) h)
