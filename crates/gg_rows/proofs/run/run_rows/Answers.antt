use Rattle.std.proofs.Common.{◌≡◌, ◌<◌, ◌≤◌, Ok, false, length, refl, sym, ap, ◌∙◌, subst, arith}
use Rattle.gg_io.proofs.EndingLemmas.{exit-is}
use Rattle.gg_rows.specs.inside.Taken.{answer_of}
use Rattle.gg_rows.specs.inside.Window.{window_end}
use Rattle.gg_rows.proofs.FrameLemmas.{same-end, same-machines}
use Rattle.gg_rows.proofs.RunLemmas.{ran-all, ran-ends, ran-next, ran-out, ran-start, ran-wants, stops-in}
use Rattle.gg_rows.proofs.WindowLemmas.{none-above}
use Rattle.gg_rows.proofs.TakenLemmas.{went-on-so, went-then, went-wants}
use Rattle.gg_rows.proofs.run.run_rows.Goals as goal

pub loop-begun-init : goal.loop-begun-init
loop-begun-init g c = ran-start c.requires.opening c.requires.within

pub run_window-requires-clause-few : goal.run_window-requires-clause-few
run_window-requires-clause-few g c = omega (arith, c.workers_at-hands.ensures, c.requires.few)

pub run_window-requires-clause-within : goal.run_window-requires-clause-within
run_window-requires-clause-within g c =
    omega (arith, c.window_end-upto.ensures, c.end-end.ensures, same-end c.args.net c.loop-begun.net c.loop-begun.invariant.frame, same-end c.loop-begun.net c.note_window.new.net c.note_window.ensures.frame)

pub run_window-requires-clause-none_above : goal.run_window-requires-clause-none_above
run_window-requires-clause-none_above g c = λ κs outlive.
    none-above c.window_end-upto.result c.loop-begun.net c.note_window.new.net c.note_window.ensures
    (λ m lt. omega (arith, c.loop-begun.invariant.all m lt, c.loop-begun-test.true, c.window_end-upto.ensures))

pub take_window-requires-clause-within : goal.take_window-requires-clause-within
take_window-requires-clause-within g c = omega (arith, c.window_end-upto.ensures, c.end-end.ensures, c.within_limits.ensures.cycles)

pub take_window-requires-clause-outs : goal.take_window-requires-clause-outs
take_window-requires-clause-outs g c =
    omega (
      arith,
      c.requires.outs,
      c.loop-begun.auto.outs,
      same-machines c.args.net c.loop-begun.net c.loop-begun.invariant.frame,
      same-machines c.loop-begun.net c.in-Ok.net (c.in-Ok.ensures.within.frame ∙ c.note_window.ensures.frame),
    )

pub take_window-requires-clause-can : goal.take_window-requires-clause-can
take_window-requires-clause-can g c κs within =
    let same : length c.args.outs.now ≡ length c.loop-begun.outs = omega (arith, c.loop-begun.auto.outs) in
    subst (g.W.Rows.can_take c.args.rows.now) same c.requires.can

pub returns-in-Err-clause-ran : goal.returns-in-Err-clause-ran
returns-in-Err-clause-ran g c = ran-wants c.loop-begun.invariant refl

pub returns-in-Err-clause-went : goal.returns-in-Err-clause-went
returns-in-Err-clause-went g c = went-wants c.loop-begun.invariant.went

pub returns-in_err-goes_on-clause-ran : goal.returns-in_err-goes_on-clause-ran
returns-in_err-goes_on-clause-ran g c =
    let same : length c.loop-begun.outs ≡ length c.args.outs.now = omega (arith, c.loop-begun.auto.outs) in
    let more : c.loop-begun.begun < c.args.net.end = omega (arith, c.loop-begun-test.true, c.end-end.ensures) in
    let ends = c.window_end-upto.ensures ∙ ap (window_end c.loop-begun.begun) c.end-end.ensures in
    ran-ends c.loop-begun.invariant c.in-Ok.net c.window_end-upto.result more ends (c.in-Ok.ensures.within.frame ∙ c.note_window.ensures.frame) c.in-Ok.ensures.there c.kept.ensures _ same
    c.take_window.new.taken _ _ (sym (ap answer_of (exit-is c.from_residual.ensures.1))) (λ e. absurd (cc)) c.in_err-goes_on.ensures.rows

pub returns-in_err-goes_on-clause-out : goal.returns-in_err-goes_on-clause-out
returns-in_err-goes_on-clause-out g c = rw (exit-is c.from_residual.ensures.1) (tt {0})

pub returns-in_err-goes_on-clause-went : goal.returns-in_err-goes_on-clause-went
returns-in_err-goes_on-clause-went g c = rw (exit-is c.from_residual.ensures.1) (went-then c.loop-begun.invariant.went c.in_err-goes_on.ensures.went)

pub returns-then-not-goes_on-clause-ran : goal.returns-then-not-goes_on-clause-ran
returns-then-not-goes_on-clause-ran g c =
    let same : length c.loop-begun.outs ≡ length c.args.outs.now = omega (arith, c.loop-begun.auto.outs) in
    let more : c.loop-begun.begun < c.args.net.end = omega (arith, c.loop-begun-test.true, c.end-end.ensures) in
    let ends = c.window_end-upto.ensures ∙ ap (window_end c.loop-begun.begun) c.end-end.ensures in
    let off : c.in_ok-goes_on.goes_on ≡ false = grind (arith, c.if-not-goes_on.true) in
    ran-ends c.loop-begun.invariant c.in-Ok.net c.window_end-upto.result more ends (c.in-Ok.ensures.within.frame ∙ c.note_window.ensures.frame) c.in-Ok.ensures.there c.kept.ensures _ same
    c.take_window.new.taken (Ok c.in_ok-goes_on.goes_on) (Ok false) (ap Ok off) (λ e. absurd (cc)) c.in_ok-goes_on.ensures.rows

pub returns-then-not-goes_on-clause-out : goal.returns-then-not-goes_on-clause-out
returns-then-not-goes_on-clause-out g c =
    let more : c.loop-begun.begun < c.args.net.end = omega (arith, c.loop-begun-test.true, c.end-end.ensures) in
    let ends = c.window_end-upto.ensures ∙ ap (window_end c.loop-begun.begun) c.end-end.ensures in
    let off : c.in_ok-goes_on.goes_on ≡ false = grind (arith, c.if-not-goes_on.true) in
    record {
      frame = c.in-Ok.ensures.within.frame ∙ c.note_window.ensures.frame ∙ c.loop-begun.invariant.frame;
      stands = λ e. absurd (cc);
      stopped = λ e. stops-in c.loop-begun.invariant c.in-Ok.net c.window_end-upto.result more ends c.in-Ok.ensures.there c.take_window.new.taken (c.in_ok-goes_on.ensures.last off);
    }

pub returns-then-not-goes_on-clause-went : goal.returns-then-not-goes_on-clause-went
returns-then-not-goes_on-clause-went g c = went-on-so false (went-then c.loop-begun.invariant.went c.in_ok-goes_on.ensures.went)

pub loop-begun-preserved : goal.loop-begun-preserved
loop-begun-preserved g c =
    let same : length c.loop-begun.outs ≡ length c.args.outs.now = omega (arith, c.loop-begun.auto.outs) in
    let more : c.loop-begun.begun < c.args.net.end = omega (arith, c.loop-begun-test.true, c.end-end.ensures) in
    let ends = c.window_end-upto.ensures ∙ ap (window_end c.loop-begun.begun) c.end-end.ensures in
    ran-next c.loop-begun.invariant c.in-Ok.net c.window_end-upto.result more ends (c.in-Ok.ensures.within.frame ∙ c.note_window.ensures.frame) c.in-Ok.ensures.there c.kept.ensures _ same
    c.take_window.new.taken c.in_ok-goes_on.goes_on (grind (arith, c.if-not-goes_on.false)) c.in_ok-goes_on.ensures.went c.in_ok-goes_on.ensures.rows

pub loop-begun-smaller : goal.loop-begun-smaller
loop-begun-smaller g c = omega (arith, c.loop-begun-test.true, c.window_end-upto.ensures)

pub returns-clause-ran : goal.returns-clause-ran
returns-clause-ran g c =
    let past : c.args.net.end ≤ c.loop-begun.begun = omega (arith, c.loop-begun-test.false, c.end-end.ensures) in
    ran-all c.loop-begun.invariant past

pub returns-clause-out : goal.returns-clause-out
returns-clause-out g c =
    let past : c.args.net.end ≤ c.loop-begun.begun = omega (arith, c.loop-begun-test.false, c.end-end.ensures) in
    ran-out c.loop-begun.invariant past

pub returns-clause-went : goal.returns-clause-went
returns-clause-went g c = c.loop-begun.invariant.went
