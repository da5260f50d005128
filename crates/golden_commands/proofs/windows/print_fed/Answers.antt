use Rattle.std.proofs.Common.{refl, subst}
use Rattle.gg_cut_reference.specs.whole.Whole.{plan_circuit}
use Rattle.gg_rows.specs.inside.Printed.{out_columns}
use Rattle.std.proofs.lemmas.Result.{IfOk-weaker}
use Rattle.gg_io.proofs.EndingLemmas.{exit-is}
use Rattle.gg_io.proofs.WritingLemmas.{none-front}
use Rattle.golden_commands.specs.inside.Case.{AreFedToTrays}
use Rattle.golden_commands.specs.Partition.{to_run}
use Rattle.golden_commands.proofs.FedLemmas.{fed-ports, fed-prints, fed-rows, own-run, to-replay}
use Rattle.golden_commands.proofs.windows.print_fed.Goals as goal

pub shown_ports-requires : goal.shown_ports-requires
shown_ports-requires g c = c.requires.fed.4.case.keeps

pub print_flow-requires-clause-run : goal.print_flow-requires-clause-run
print_flow-requires-clause-run g c κs within =
    let r = c.requires.fed in (
      to-replay (to_run c.args.tools.now.models.now) r.0 r.1 r.2 r.3 c.args.fed.now r.4,
      fed-ports (to_run c.args.tools.now.models.now) r.0 r.1 r.2 r.3 c.args.fed.now r.4 c.in_ok-ports.ports c.in_ok-ports.ensures,
    )

pub returns-in_err-ports-clause-prints : goal.returns-in_err-ports-clause-prints
returns-in_err-ports-clause-prints g c =
    let r = c.requires.fed in
    rw (exit-is c.from_residual.ensures.1) (_, own-run (to_run c.args.tools.now.models.now) r.0 r.1 r.2 r.3 c.args.fed.now r.4, none-front _ _ _ refl, tt)

pub returns-clause-prints : goal.returns-clause-prints
returns-clause-prints g c =
    let r = c.requires.fed in
    let fed = c.args.fed.now in
    let replay = to-replay (to_run c.args.tools.now.models.now) r.0 r.1 r.2 r.3 fed r.4 in
    let run = replay.run in
    let columns = out_columns (plan_circuit fed.case.design fed.case.cut.request c.args.tools.now.models.now) run.rows in
    let told = fed-rows (to_run c.args.tools.now.models.now) r.0 r.1 r.2 r.3 fed r.4 c.in_ok-ports.ports run.rows c.in_ok-ports.ensures in (
      run.rows,
      own-run (to_run c.args.tools.now.models.now) r.0 r.1 r.2 r.3 fed r.4,
      fed-prints (to_run c.args.tools.now.models.now) r.0 r.1 r.2 r.3 fed r.4 _ _ _ c.print_flow.result c.in_ok-ports.ports run.rows c.in_ok-ports.ensures (c.print_flow.ensures.prints replay),
      IfOk-weaker c.print_flow.result _ _ (λ done kept. subst (λ k. AreFedToTrays fed k columns) told (kept replay)) c.print_flow.ensures.kept,
    )
