use Rattle.std.proofs.Common.{◌+◌, length, arith}
use Rattle.std.proofs.lemmas.List.{length_push}
use Rattle.std.proofs.lemmas.Iterator.Consumers.{YieldsList-turn, YieldsList-end}
use Rattle.std.proofs.lemmas.Iterator.Splits.{YieldsList-from_lines}
use Rattle.std.proofs.lemmas.Result.{err_from_is_err_and}
use Rattle.gg_read.proofs.TextSteps.{line_turn, fault_turn, end_circuit, end_faultless, end_fault}
use Rattle.gg_read.proofs.text.read_text.Goals as goal

pub loop-line-preserved : goal.loop-line-preserved
loop-line-preserved c =
    let turn = YieldsList-turn (YieldsList-from_lines c.args.text.now cc) c.loop-line.yielded _ c.loop-line.yielded_by _ _ c.in-Some.line c.in-Some.is c.next.ensures.steps in
    let step = c.in_ok-stage.ensures {u = tt} in
    let size = length_push c.loop-line.yielded c.in-Some.line in
    let count = c.loop-line.invariant.count in
    record {
      count = omega (arith, size, count);
      stays = step.0;
      read = line_turn c.args.text.now (length c.loop-line.yielded) _ (c.loop-line.number + 1) c.in-Some.line.now c.loop-line.stage c.in_ok-stage.stage turn (omega (arith, count)) size c.loop-line.invariant.read step.1;
    }

pub returns-in_err-stage-clause-fault : goal.returns-in_err-stage-clause-fault
returns-in_err-stage-clause-fault c =
    let turn = YieldsList-turn (YieldsList-from_lines c.args.text.now cc) c.loop-line.yielded _ c.loop-line.yielded_by _ _ c.in-Some.line c.in-Some.is c.next.ensures.steps in
    let p = err_from_is_err_and c.from_residual.result c.from_residual.ensures.1 in
    rw (p.1, p.2)
    (fault_turn c.args.text.now (length c.loop-line.yielded) (c.loop-line.number + 1) c.in-Some.line.now c.loop-line.stage c.in_err-stage.field-0.0 c.utf8.text turn (omega (arith, c.loop-line.invariant.count)) c.loop-line.invariant.read (c.in_err-stage.ensures {u = tt}))

pub returns-clause-circuit : goal.returns-clause-circuit
returns-clause-circuit c =
    let end = YieldsList-end (YieldsList-from_lines c.args.text.now cc) c.loop-line.yielded _ c.loop-line.yielded_by _ _ c.in-None.is c.next.ensures.steps in
    end_circuit c.args.text.now (length c.loop-line.yielded) (c.loop-line.number + 1) c.loop-line.stage c.finish.result c.utf8.text end.1 c.loop-line.invariant.read c.finish.ensures

pub returns-clause-faultless : goal.returns-clause-faultless
returns-clause-faultless c =
    let end = YieldsList-end (YieldsList-from_lines c.args.text.now cc) c.loop-line.yielded _ c.loop-line.yielded_by _ _ c.in-None.is c.next.ensures.steps in
    end_faultless c.args.text.now (length c.loop-line.yielded) (c.loop-line.number + 1) c.loop-line.stage c.finish.result end.1 c.loop-line.invariant.read c.finish.ensures

pub returns-clause-fault : goal.returns-clause-fault
returns-clause-fault c =
    let end = YieldsList-end (YieldsList-from_lines c.args.text.now cc) c.loop-line.yielded _ c.loop-line.yielded_by _ _ c.in-None.is c.next.ensures.steps in
    end_fault c.args.text.now (length c.loop-line.yielded) (c.loop-line.number + 1) c.loop-line.stage c.finish.result c.utf8.text end.1 (omega (arith, c.loop-line.invariant.count)) c.loop-line.invariant.read c.finish.ensures
