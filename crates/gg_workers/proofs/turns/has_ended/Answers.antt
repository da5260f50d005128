use Rattle.std.proofs.Common.{sym, refl, arith, true≢false}
use Rattle.gg_workers.proofs.turns.has_ended.Goals as goal

pub returns-then-cycle-upto : goal.returns-then-cycle-upto
returns-then-cycle-upto g c = (λ e. absurd (true≢false (sym e)), λ all. absurd (omega (arith, c.if-cycle-upto.true, c.cycle.ensures, all c.loop-thread.thread (omega (arith, c.loop-thread-test.true, c.threads-thread-end.ensures)))))

pub returns : goal.returns
returns g c = (λ e t lt. c.loop-thread.invariant t (omega (arith, lt, c.loop-thread-test.false, c.threads-thread-end.ensures)), λ all. refl)
