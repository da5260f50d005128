use Rattle.std.proofs.Common.{◌≡◌, ◌+◌, refl, sym, ◌∙◌, ap, subst, arith}
use Rattle.gg_flat.specs.Line.{value_at}
use Rattle.gg_tape.specs.inside.Cells.{Celled}
use Rattle.gg_tape.proofs.TapeLemmas.{with-value}
use Rattle.gg_program.proofs.EvaluateLemmas.{IsWorking, IsWorking-step, IsWorking-end}
use Rattle.gg_program.proofs.evaluate.work_out.Goals as goal

pub loop-signal-preserved : goal.loop-signal-preserved
loop-signal-preserved g c =
    let i = c.loop-signal.signal-index in
    let s = value_at c.args.signals.now i in
    let cells = c.loop-signal.cells in
    let v = c.worked-value.result in
    let after : c.set.new.self ≡ with-value cells s v = c.set.ensures ∙ ap (λ (x : Celled). with-value x s v) c.worked-value.ensures.same in
    let step = IsWorking-step c.args.piece.now c.args.state.now c.args.signals.now c.args.cells.now.values i s cells.values v
    c.requires.formed c.requires.ordered c.loop-signal-test.true refl (c.requires.inner i 0 c.loop-signal-test.true) c.worked-value.ensures.value c.worked-value.ensures.fits c.loop-signal.invariant.0 in (
      subst (λ (x : Celled). IsWorking c.args.piece.now c.args.state.now c.args.signals.now c.args.cells.now.values (i + 1) x.values) (sym after) step,
      ap (λ (x : Celled). x.room) after ∙ c.loop-signal.invariant.1,
      omega (arith, c.worked-value.ensures.steps, c.loop-signal.invariant.2),
    )

pub returns-clause-right : goal.returns-clause-right
returns-clause-right g c =
    λ marks behind right.
    IsWorking-end c.args.piece.now c.args.state.now c.args.signals.now c.args.cells.now.values c.loop-signal.signal-index c.loop-signal.cells.values marks c.loop-signal-test.false behind right c.loop-signal.invariant.0
