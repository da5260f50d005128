use Rattle.std.proofs.lemmas.Result.{IfOk-weaker}
use Rattle.golden_commands.specs.inside.Replayed.{fed_start}
use Rattle.golden_commands.proofs.NetLemmas.{replay-run, replay-zeros}
use Rattle.golden_commands.proofs.windows.print_flow.Goals as goal

pub print_net-requires-clause-run : goal.print_net-requires-clause-run
print_net-requires-clause-run g c κs within = let replay = c.requires.run.0 in (replay-run replay, (replay.of_design, c.requires.run.1))

pub returns-clause-prints : goal.returns-clause-prints
returns-clause-prints g c = λ replay. c.print_net.ensures.prints (fed_start c.args.fed.now) replay.run (replay-zeros replay) replay.of_design

pub returns-clause-kept : goal.returns-clause-kept
returns-clause-kept g c = IfOk-weaker c.print_net.result _ _ (λ done kept replay. kept (fed_start c.args.fed.now) replay.run (replay-zeros replay) replay.of_design) c.print_net.ensures.kept
