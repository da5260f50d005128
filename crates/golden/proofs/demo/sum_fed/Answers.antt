use Rattle.std.proofs.lemmas.Result.{IfOk-weaker}
use Rattle.gg_build.proofs.AloneLemmas.{none-needed}
use Rattle.golden_commands.specs.inside.Replayed.{fed_start}
use Rattle.golden_commands.proofs.NetLemmas.{replay-run, replay-zeros}
use Rattle.golden.proofs.demo.sum_fed.Goals as goal

pub sum_net-requires-clause-bridges : goal.sum_net-requires-clause-bridges
sum_net-requires-clause-bridges g c κs within = none-needed _ _ c.args.fed.now.case.cut.plan c.new.result.items c.requires.none c.new.ensures.items

pub sum_net-requires-clause-run : goal.sum_net-requires-clause-run
sum_net-requires-clause-run g c κs within = let replay = c.requires.run.0 in (replay-run replay, (replay.of_design, c.requires.run.1))

pub returns : goal.returns
returns g c =
    IfOk-weaker c.sum_net.result _ _ (λ sums told replay. told (fed_start c.args.fed.now) replay.run (replay-zeros replay) replay.of_design) c.sum_net.ensures
