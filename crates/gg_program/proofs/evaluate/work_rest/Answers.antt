use Rattle.std.proofs.Common.{◌+◌, ◌<◌, length, subst, sym, ◌∙◌, ap, arith}
use Rattle.gg_tape.specs.inside.Cells.{Celled}
use Rattle.gg_tape.proofs.TapeLemmas.{with-value}
use Rattle.gg_program.proofs.EvaluateLemmas.{IsInner-unmarked, IsSettling, IsSettling-skip, IsSettling-step}
use Rattle.gg_program.proofs.UnsetLemmas.{rest-step, rest-skip}
use Rattle.gg_program.proofs.evaluate.work_rest.Goals as goal
use Rattle.gg_program.proofs.evaluate.work_rest.Goals.{then-not-marks-signal, else-not-marks-signal}

pub loop-signal-preserved : goal.loop-signal-preserved
loop-signal-preserved g c =
    let circuit = c.args.piece.now in
    let marks = c.args.marks.now in
    let k = c.loop-signal.signal in
    let known : k < length circuit.signals = omega (arith, c.loop-signal-test.true, c.signal_count-signal-end.ensures.count) in
    let first = c.args.steps.now in
    let cells = c.loop-signal.cells in
    elim c.if-not-marks-signal.branch [
      | then-not-marks-signal w ↦
          let v = w.worked-value.result in
          let inner = IsInner-unmarked circuit marks k c.requires.formed c.requires.inputs known w.if-not-marks-signal.true in
          let after = w.cells-is ∙ w.set.ensures ∙ ap (λ (x : Celled). with-value x k v) w.worked-value.ensures.same in (
            subst (λ (x : Celled). IsSettling circuit c.args.state.now marks c.args.cells.now.values (k + 1) x.values) (sym after)
                (IsSettling-step circuit c.args.state.now marks c.args.cells.now.values k cells.values v c.requires.formed c.requires.ordered inner
                w.worked-value.ensures.value w.worked-value.ensures.fits c.loop-signal.invariant.0),
            ap (λ (x : Celled). x.room) after ∙ c.loop-signal.invariant.1,
            omega (arith, rest-step circuit marks first c.loop-signal.steps k inner w.if-not-marks-signal.true c.loop-signal.invariant.2, w.worked-value.ensures.steps, w.steps-is),
          )
      | else-not-marks-signal w ↦ (
        subst (λ (x : Celled). IsSettling circuit c.args.state.now marks c.args.cells.now.values (k + 1) x.values) (sym w.cells-is)
            (IsSettling-skip circuit c.args.state.now marks c.args.cells.now.values k cells.values w.if-not-marks-signal.false c.loop-signal.invariant.0),
        ap (λ (x : Celled). x.room) w.cells-is ∙ c.loop-signal.invariant.1,
        omega (arith, rest-skip circuit marks first c.loop-signal.steps k w.if-not-marks-signal.false c.loop-signal.invariant.2, w.steps-is),
      )
    ]
