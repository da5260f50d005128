use Rattle.std.proofs.Common.{None, take, slice_index_or, sym, subst, arith}
use Rattle.std.proofs.lemmas.Option.{slice_get-get_or}
use Rattle.gg_net.specs.markings.Steps.{Steps}
use Rattle.gg_replay.proofs.FrontLemmas.{one-more-step}
use Rattle.gg_replay.proofs.steps.replay.Goals as goal

pub returns-in-Err-clause-refused : goal.returns-in-Err-clause-refused
returns-in-Err-clause-refused g c =
    let steps = c.args.steps.now in
    let i = c.loop-i.i in
    let same = c.in-Err.ensures.1 in
    record {
      done = i;
      steps = subst (Steps c.args.net.now (take i steps)) (sym same) c.loop-i.invariant.0;
      event = slice_index_or steps i None;
      next = slice_get-get_or steps i None c.loop-i-test.true;
      number = omega arith;
      refused = rw same c.in-Err.ensures.0;
    }

pub loop-i-preserved : goal.loop-i-preserved
loop-i-preserved g c =
    (one-more-step c.args.net.now c.loop-i.net c.try_step.new.net c.args.steps.now c.loop-i.i c.loop-i-test.true c.loop-i.invariant.0 c.in_default.ensures, c.in_ok-note.ensures {u = tt})
