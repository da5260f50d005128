use Rattle.std.proofs.Common.{◌≤◌, ◌≡◌, ◌-◌, length, ap, subst, arith}
use Rattle.gg_build.specs.Build.{run_token}
use Rattle.gg_flat.specs.Run.{Start}
use Rattle.gg_net.specs.Network.{AllStandAt}
use Rattle.gg_cut_reference.specs.whole.Whole.{plan_circuit}
use Rattle.gg_rows.specs.inside.Rows.{AreTraysOf}
use Rattle.gg_rows.proofs.FoldLemmas.{took-folds}
use Rattle.gg_rows.proofs.OutputLemmas.{opening-is-net, outs-few, trays-told}
use Rattle.gg_rows.proofs.RunLemmas.{opening-stands}
use Rattle.gg_rows.proofs.sums.sum_net.Goals as goal

pub run_rows-ran-requires-clause-opening : goal.run_rows-ran-requires-clause-opening
run_rows-ran-requires-clause-opening g c κs within =
    let trace = c.args.inputs.now in
    let whole = c.requires.run.0 in
    let start = whole.start in
    let run = whole.run in
    let from = c.in_ok-net.ensures start run whole.zeros in
    subst (λ cycle. AllStandAt cycle c.in_ok-net.net) (ap (λ (own : Start). own.cycle) whole.zeros)
    (opening-stands c.args.plan.now start trace.columns trace.rows g.Z.Streams.flow c.in_ok-net.net run from).all

pub run_rows-ran-requires-clause-outs : goal.run_rows-ran-requires-clause-outs
run_rows-ran-requires-clause-outs g c =
    let whole = c.requires.run.0 in
    let start = whole.start in
    let run = whole.run in
    let trace = c.args.inputs.now in
    let from = c.in_ok-net.ensures start run whole.zeros in
    let are = trays-told run c.trays_of-trays.result.first c.trays_of-trays.result.count (c.trays_of-trays.ensures.first run.design run.request run.models run.default run.given.planned) (c.trays_of-trays.ensures.count run.design run.request run.models run.default run.given.planned) in
    omega (
      arith,
      are.begin,
      are.many,
      c.in_ok-outs.ensures.len,
      ap length c.as_mut_slice.ensures.value,
      outs-few c.args.plan.now start trace.columns trace.rows g.Z.Streams.flow run c.in_ok-net.net
          (opening-is-net c.args.plan.now start (run_token run) trace.columns trace.rows c.in_ok-net.net from) c.kept.ensures,
    )

pub run_rows-ran-requires-clause-can : goal.run_rows-ran-requires-clause-can
run_rows-ran-requires-clause-can g c =
    let run = c.requires.run.0.run in
    let are = trays-told run c.trays_of-trays.result.first c.trays_of-trays.result.count (c.trays_of-trays.ensures.first run.design run.request run.models run.default run.given.planned) (c.trays_of-trays.ensures.count run.design run.request run.models run.default run.given.planned) in
    omega (arith, c.requires.run.1.1, are.many, c.in_ok-outs.ensures.len, ap length c.as_mut_slice.ensures.value)

pub returns-in-Ok : goal.returns-in-Ok
returns-in-Ok g c =
    λ start run zeros same.
    let trace = c.args.inputs.now in
    let whole : trace.rows - 0 ≡ trace.rows = omega arith in
    let from = c.in_ok-net.ensures start run zeros in
    let are = trays-told run c.trays_of-trays.result.first c.trays_of-trays.result.count (c.trays_of-trays.ensures.first run.design run.request run.models run.default run.given.planned) (c.trays_of-trays.ensures.count run.design run.request run.models run.default run.given.planned) in
    let one = c.requires.run.0.run in
    let ones = trays-told one c.trays_of-trays.result.first c.trays_of-trays.result.count (c.trays_of-trays.ensures.first one.design one.request one.models one.default one.given.planned) (c.trays_of-trays.ensures.count one.design one.request one.models one.default one.given.planned) in
    let two : 2 ≤ length (plan_circuit run.design run.request run.models).outs = omega (arith, c.requires.run.1.1, ones.many, are.many) in
    let counted : AreTraysOf run c.trays_of-trays.result.first (length c.as_mut_slice.result.now) =
    record { begin = are.begin; many = omega (arith, are.many, c.in_ok-outs.ensures.len, ap length c.as_mut_slice.ensures.value) } in
    record {
      net = c.in_ok-net.net;
      opens = from;
      kept = c.kept.ensures;
      machines = c.machines-machines.ensures;
      channels = c.channels-channels.ensures;
      steps = c.left-steps.ensures;
      folds = took-folds (plan_circuit run.design run.request run.models) run.rows trace.rows run.given.run.count two c.new-fold.result c.new-fold.ensures whole
          (c.in-Ok.ensures.ran c.args.plan.now start trace.columns trace.rows run from (ap (λ (own : Start). own.cycle) zeros) counted).took;
    }
