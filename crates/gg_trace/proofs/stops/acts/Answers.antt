use Rattle.std.proofs.Common.{◌≡◌, ◌+◌, ◌<◌, suc, drop, length, sym, ap, ◌∙◌, subst, arith}
use Rattle.std.proofs.lemmas.List.{drop_all}
use Rattle.gg_trace.specs.Last.{acts}
use Rattle.gg_trace.proofs.StopLaws.{acts-later, acts-none, acts-now}
use Rattle.gg_trace.proofs.stops.acts.Goals as goal
use Rattle.gg_trace.proofs.stops.acts.Goals.{else-condition-eq1-via-then-condition-eq1+else-has_edge, else-condition-eq1-via-else-condition-eq1}

pub returns-then-has_edge : goal.returns-then-has_edge
returns-then-has_edge c =
    sym (acts-now c.args.ratios.now c.args.tick c.args.conditions.now c.loop-k.k (omega (arith, c.loop-k-test.true)) (grind (arith, c.if-condition-eq1.true)) (grind (arith, c.has_edge.ensures, c.if-has_edge.true)))
    ∙ c.loop-k.invariant

pub loop-k-preserved : goal.loop-k-preserved
loop-k-preserved c =
    let k = c.loop-k.k in
    let lt : k < length c.args.conditions.now = omega (arith, c.loop-k-test.true) in
    let next : suc k ≡ k + 1 = omega arith in
    subst (λ j. acts (drop j c.args.ratios.now) c.args.tick (drop j c.args.conditions.now) ≡ acts c.args.ratios.now c.args.tick c.args.conditions.now) next
    (acts-later c.args.ratios.now c.args.tick c.args.conditions.now k lt
    (elim c.else-condition-eq1.branch [
      | else-condition-eq1-via-then-condition-eq1+else-has_edge w ↦ λ is. grind (arith, w.has_edge.ensures, w.if-has_edge.false)
      | else-condition-eq1-via-else-condition-eq1 w ↦ λ is. absurd (omega (arith, is, w.if-condition-eq1.false))
    ])
    ∙ c.loop-k.invariant)

pub returns : goal.returns
returns c =
    sym (acts-none (drop c.loop-k.k c.args.ratios.now) c.args.tick)
    ∙ ap (acts (drop c.loop-k.k c.args.ratios.now) c.args.tick) (sym (drop_all c.loop-k.k c.args.conditions.now (omega (arith, c.loop-k-test.false))))
    ∙ c.loop-k.invariant
