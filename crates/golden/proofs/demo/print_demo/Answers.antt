use Rattle.std.proofs.Common.{[], refl, arith}
use Rattle.golden_commands.specs.Partition.{to_run}
use Rattle.gg_rows.specs.CircuitText.{demo_circuit}
use Rattle.gg_rows.specs.PartitionText.{demo_partition}
use Rattle.gg_rows.specs.TraceText.{demo_trace}
use Rattle.gg_io.specs.inside.Endings.{PrintsText, Wants}
use Rattle.gg_io.proofs.EndingLemmas.{exit-is}
use Rattle.golden_commands.specs.Demo.{demo_capacity}
use Rattle.golden.proofs.DemoLemmas.{demo-none, demo-two, sums-only}
use Rattle.golden_commands.proofs.FedLemmas.{to-replay}
use Rattle.golden_commands.proofs.PartitionLemmas.{designs-agree}
use Rattle.golden.proofs.demo.print_demo.Goals as goal

pub sum_fed-requires-clause-run : goal.sum_fed-requires-clause-run
sum_fed-requires-clause-run g c κs within =
    (to-replay (to_run []) (demo_circuit c.args.size) (demo_partition c.args.size) (demo_trace c.args.seed c.args.size) demo_capacity c.args.fed.now c.requires.fed, demo-two c.args.seed c.args.size c.args.fed.now c.requires.fed (c.is_whole.ensures (grind (arith, c.if-not-is_whole.false))).0)

pub sum_fed-requires-clause-none : goal.sum_fed-requires-clause-none
sum_fed-requires-clause-none g c κs within = demo-none c.args.seed c.args.size c.args.fed.now c.requires.fed

pub returns-in_err-sums-clause-ended : goal.returns-in_err-sums-clause-ended
returns-in_err-sums-clause-ended g c = Wants (exit-is c.from_residual.ensures.1) refl

pub returns-clause-ended : goal.returns-clause-ended
returns-clause-ended g c =
    let d = c.one_meaning.ensures in
    let replay = to-replay (to_run []) (demo_circuit c.args.size) (demo_partition c.args.size) (demo_trace c.args.seed c.args.size) demo_capacity c.args.fed.now c.requires.fed in
    PrintsText _
    (sums-only c.args.seed c.args.size c.args.fed.now c.requires.fed (designs-agree d.flat d.tree) c.run_once.ensures.from c.requires.some
    (c.is_whole.ensures (grind (arith, c.if-not-is_whole.false))).1 c.in_ok-sums.sums (c.in_ok-sums.ensures replay))
    c.put_summary.ensures.prints
