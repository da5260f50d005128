use Rattle.std.proofs.Common.{◌≡◌, Ok, false, length, subst, arith}
use Rattle.gg_io.proofs.EndingLemmas.{exit-is}
use Rattle.gg_rows.specs.inside.Taken.{TakesAt}
use Rattle.gg_rows.proofs.RunLemmas.{some-at, taken-all, taken-fails, taken-last, taken-next, taken-start}
use Rattle.gg_rows.proofs.TakenLemmas.{went-more, went-on-so}
use Rattle.gg_rows.proofs.run.take_window.Goals as goal

pub loop-cycle-init : goal.loop-cycle-init
loop-cycle-init g c = taken-start

pub take_cycle-requires-clause-within : goal.take_cycle-requires-clause-within
take_cycle-requires-clause-within g c = omega (arith, c.loop-cycle-test.true, c.requires.within)

pub take_cycle-requires-clause-can : goal.take_cycle-requires-clause-can
take_cycle-requires-clause-can g c κs within =
    let same : length c.args.outs.now ≡ length c.loop-cycle.outs = omega (arith, c.loop-cycle.auto.outs) in
    subst (g.W.Rows.can_take c.args.rows.now) same c.requires.can

pub returns-in_err-goes_on-clause-rows : goal.returns-in_err-goes_on-clause-rows
returns-in_err-goes_on-clause-rows g c =
    let same : length c.loop-cycle.outs ≡ length c.args.outs.now = omega (arith, c.loop-cycle.auto.outs) in
    taken-fails c.loop-cycle.invariant (omega (arith, c.loop-cycle-test.true)) _ same c.take_cycle.new.taken _ _ (exit-is c.from_residual.ensures.1) c.in_err-goes_on.ensures.row

pub returns-in_err-goes_on-clause-went : goal.returns-in_err-goes_on-clause-went
returns-in_err-goes_on-clause-went g c = rw (exit-is c.from_residual.ensures.1) (went-more c.loop-cycle.invariant.went (some-at c.in_err-goes_on.ensures.at))

pub returns-then-not-goes_on-clause-rows : goal.returns-then-not-goes_on-clause-rows
returns-then-not-goes_on-clause-rows g c =
    let same : length c.loop-cycle.outs ≡ length c.args.outs.now = omega (arith, c.loop-cycle.auto.outs) in
    taken-last c.loop-cycle.invariant (omega (arith, c.loop-cycle-test.true)) _ same c.take_cycle.new.taken c.in_ok-goes_on.goes_on (grind (arith, c.if-not-goes_on.true)) c.in_ok-goes_on.ensures.row

pub returns-then-not-goes_on-clause-went : goal.returns-then-not-goes_on-clause-went
returns-then-not-goes_on-clause-went g c = went-on-so false (went-more c.loop-cycle.invariant.went (some-at c.in_ok-goes_on.ensures.at))

pub loop-cycle-preserved : goal.loop-cycle-preserved
loop-cycle-preserved g c =
    let same : length c.loop-cycle.outs ≡ length c.args.outs.now = omega (arith, c.loop-cycle.auto.outs) in
    taken-next c.loop-cycle.invariant (omega (arith, c.loop-cycle-test.true)) _ same c.take_cycle.new.taken c.in_ok-goes_on.goes_on (grind (arith, c.if-not-goes_on.false)) (some-at c.in_ok-goes_on.ensures.at) c.in_ok-goes_on.ensures.row

pub returns-clause-rows : goal.returns-clause-rows
returns-clause-rows g c =
    λ plan start columns n run before stands counted from low near begins.
    taken-all c.loop-cycle.invariant (omega (arith, c.loop-cycle-test.false)) (omega (arith, c.loop-cycle.auto.cycle-end, low)) plan start columns n run before stands counted from low near begins

pub returns-clause-went : goal.returns-clause-went
returns-clause-went g c = c.loop-cycle.invariant.went

pub returns-then-not-goes_on-clause-last : goal.returns-then-not-goes_on-clause-last
returns-then-not-goes_on-clause-last g c =
    let off : c.in_ok-goes_on.goes_on ≡ false = grind (arith, c.if-not-goes_on.true) in
    λ e. record {
      cycle = c.loop-cycle.cycle;
      low = c.loop-cycle.invariant.low;
      high = omega (arith, c.loop-cycle-test.true);
      before = c.loop-cycle.taken;
      last = subst (λ on. TakesAt (g.W.Rows.takes c.args.rows.now) c.loop-cycle.cycle c.loop-cycle.taken c.take_cycle.new.taken (Ok on)) off c.in_ok-goes_on.ensures.at;
    }

pub returns-clause-last : goal.returns-clause-last
returns-clause-last g c = λ e. absurd (cc)
