use Rattle.std.proofs.Common.{length, ap, arith}
use Rattle.gg_build.proofs.AlongLemmas.{to-run}
use Rattle.gg_build.proofs.AloneLemmas.{can-alone, columns-alone, needs-none}
use Rattle.net_tests.proofs.workers.runs.is_planned.Goals as goal

pub cut-requires-clause-models : goal.cut-requires-clause-models
cut-requires-clause-models g c = λ k d lt. absurd (omega (arith, lt, ap length c.new-models.ensures))

pub is_plan_run-requires-clause-run : goal.is_plan_run-requires-clause-run
is_plan_run-requires-clause-run g c κs within =
    let design = c.args.design.now in
    let request = c.args.request.now in
    let models = c.new-models.result in
    let columns = c.args.inputs.now.columns in
    let n = c.args.inputs.now.rows in
    let can = can-alone design request models (record { formed = c.piece.ensures.formed; ordered = c.order.ensures.ordered }) c.requires.keeps c.requires.free c.in-Ok.ensures.told c.new-models.ensures in
    to-run design request models 1 c.in-Ok.plan columns n can c.requires.held c.in-Ok.ensures.plan (omega arith) (omega arith) (omega (arith, c.rows.ensures.limit, c.rows.ensures.count))
    (columns-alone design request models n columns can c.requires.held c.requires.alone c.requires.fed)

pub is_plan_run-requires-clause-alone : goal.is_plan_run-requires-clause-alone
is_plan_run-requires-clause-alone g c κs within = needs-none c.args.design.now c.args.request.now c.new-models.result 1 c.in-Ok.plan c.in-Ok.ensures.plan c.requires.alone
