use Rattle.std.proofs.Common.{arith}
use Rattle.gg_build.proofs.AloneLemmas.{can-alone, columns-alone, needs-none}
use Rattle.net_tests.proofs.CircuitsLemmas.BeginLemmas.{to-begin}
use Rattle.net_tests.proofs.circuits.begins.is_begun.Goals as goal

pub is_built_from-requires-clause-run : goal.is_built_from-requires-clause-run
is_built_from-requires-clause-run c κs =
    let design = c.args.design.now in
    let request = c.args.request.now in
    let models = c.args.models.now in
    let columns = c.args.inputs.now.columns in
    let n = c.args.inputs.now.rows in
    let can = can-alone design request models (record { formed = c.piece.ensures.formed; ordered = c.order.ensures.ordered }) c.requires.keeps c.requires.free c.requires.faultless c.requires.none in
    to-begin design request models 1 c.args.plan.now c.begin_in-begin.result c.in-Ok.state columns n can c.requires.held
    c.requires.planned (omega arith) (omega arith) (omega (arith, c.rows.ensures.limit, c.rows.ensures.count)) (columns-alone design request models n columns can c.requires.held c.requires.alone c.requires.fed)
    c.requires.plain (omega (arith, c.begin_in-begin.ensures.cycle, c.requires.within)) c.begin_in-begin.ensures.state c.in-Ok.ensures

pub is_built_from-requires-clause-alone : goal.is_built_from-requires-clause-alone
is_built_from-requires-clause-alone c κs = needs-none c.args.design.now c.args.request.now c.args.models.now 1 c.args.plan.now c.requires.planned c.requires.alone
