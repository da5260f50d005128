use Rattle.std.proofs.Common.{◌≡◌, ◌-◌, refl, sym, ap, ◌∙◌, subst, arith}
use Rattle.std.proofs.lemmas.Result.{IfOk-weaker}
use Rattle.gg_cut_plan.proofs.KnownLemmas.{parents-before}
use Rattle.gg_flat_tree.specs.inside.Clocked.{AreParentsBefore}
use Rattle.gg_build.specs.Build.{IsOpeningFrom, run_token}
use Rattle.gg_cut_plan.specs.Ports.{first_kept_tray, plan_bridges}
use Rattle.gg_flat.specs.Run.{Start}
use Rattle.gg_order.specs.Design.{Ordered}
use Rattle.gg_cut_reference.specs.Follows.{plan_token}
use Rattle.gg_cut_reference.specs.whole.Whole.{plan_circuit}
use Rattle.gg_net.specs.Network.{AllStandAt}
use Rattle.gg_io.specs.inside.Endings.{PrintsOn}
use Rattle.gg_io.proofs.EndingLemmas.{exit-is}
use Rattle.gg_io.proofs.WritingLemmas.{none-front}
use Rattle.gg_rows.specs.Printed.{RowsAreKept, plan_stops}
use Rattle.gg_rows.specs.inside.Printed.{out_columns}
use Rattle.gg_rows.proofs.OutputLemmas.{opening-is-net, outs-few, trays-told}
use Rattle.gg_rows.proofs.PrintLemmas.{rows-whole, text-whole}
use Rattle.gg_rows.proofs.PrintedLemmas.{stops-are}
use Rattle.gg_rows.proofs.RunLemmas.{opening-stands}
use Rattle.gg_rows.proofs.printing.print_net.Goals as goal

pub stop_ratios-requires : goal.stop_ratios-requires
stop_ratios-requires g c =
    let run = c.requires.run.0.run in
    let before = parents-before run.design.circuit run.design.tree run.given.can.keeps.fitting in
    subst AreParentsBefore (sym (c.tree.ensures.tree ∙ ap (λ (d : Ordered). d.tree) (sym c.requires.run.1.0))) before

pub returns-in_err-stops-clause-prints : goal.returns-in_err-stops-clause-prints
returns-in_err-stops-clause-prints g c = λ start run zeros same. rw (exit-is c.from_residual.ensures.1) (none-front _ _ _ refl)

pub returns-in_err-net-clause-prints : goal.returns-in_err-net-clause-prints
returns-in_err-net-clause-prints g c = λ start run zeros same. rw (exit-is c.from_residual-in_err-net.ensures.1) (none-front _ _ _ refl)

pub print_from-requires-clause-opening : goal.print_from-requires-clause-opening
print_from-requires-clause-opening g c κs within =
    let trace = c.args.inputs.now in
    let whole = c.requires.run.0 in
    let start = whole.start in
    let run = whole.run in
    subst (λ cycle. AllStandAt cycle c.in_ok-net.net) (ap (λ (own : Start). own.cycle) whole.zeros)
    (opening-stands c.args.plan.now start trace.columns trace.rows g.Z.Streams.flow c.in_ok-net.net run (c.in_ok-net.ensures start run whole.zeros)).all

pub print_from-requires-clause-trays : goal.print_from-requires-clause-trays
print_from-requires-clause-trays g c =
    let trace = c.args.inputs.now in
    let whole = c.requires.run.0 in
    let start = whole.start in
    let run = whole.run in
    let from = c.in_ok-net.ensures start run whole.zeros in
    let are = trays-told run c.trays_of-trays.result.first c.trays_of-trays.result.count (c.trays_of-trays.ensures.first run.design run.request run.models run.default run.given.planned) (c.trays_of-trays.ensures.count run.design run.request run.models run.default run.given.planned) in
    omega (
      arith,
      are.begin,
      are.many,
      outs-few c.args.plan.now start trace.columns trace.rows g.Z.Streams.flow run c.in_ok-net.net
          (opening-is-net c.args.plan.now start (run_token run) trace.columns trace.rows c.in_ok-net.net from) c.kept.ensures,
    )

pub print_from-requires-clause-ports : goal.print_from-requires-clause-ports
print_from-requires-clause-ports g c =
    let run = c.requires.run.0.run in
    omega (arith, c.requires.run.1.1, (trays-told run c.trays_of-trays.result.first c.trays_of-trays.result.count (c.trays_of-trays.ensures.first run.design run.request run.models run.default run.given.planned) (c.trays_of-trays.ensures.count run.design run.request run.models run.default run.given.planned)).many)

pub returns-clause-prints : goal.returns-clause-prints
returns-clause-prints g c =
    λ start run zeros same.
    let trace = c.args.inputs.now in
    let whole : trace.rows - 0 ≡ trace.rows = omega arith in
    let cycle : start.cycle ≡ 0 = ap (λ (own : Start). own.cycle) zeros in
    let from = c.in_ok-net.ensures start run zeros in
    let counted = trays-told run c.trays_of-trays.result.first c.trays_of-trays.result.count (c.trays_of-trays.ensures.first run.design run.request run.models run.default run.given.planned) (c.trays_of-trays.ensures.count run.design run.request run.models run.default run.given.planned) in
    let follows =
    c.as_slice-2.ensures.value
    ∙ stops-are run c.args.design.now c.tree.result.now c.as_slice.result.now c.in_ok-stops.stops.items same c.tree.ensures.tree c.as_slice.ensures c.in_ok-stops.ensures in
    subst (λ text. PrintsOn g.K.Sink c.args.out.now c.print_from.new.out text c.print_from.result)
    (text-whole (plan_stops run.design run.request) (plan_circuit run.design run.request run.models) c.args.ports.now run.rows (trace.rows - 0) trace.rows whole)
    (c.print_from.ensures.prints c.args.plan.now start trace.columns trace.rows run from cycle counted follows)

pub returns-clause-kept : goal.returns-clause-kept
returns-clause-kept g c =
    IfOk-weaker c.print_from.result _ _
    (λ done kept.
    λ start run zeros same.
    let trace = c.args.inputs.now in
    let whole : trace.rows - 0 ≡ trace.rows = omega arith in
    let cycle : start.cycle ≡ 0 = ap (λ (own : Start). own.cycle) zeros in
    let from = c.in_ok-net.ensures start run zeros in
    let counted = trays-told run c.trays_of-trays.result.first c.trays_of-trays.result.count (c.trays_of-trays.ensures.first run.design run.request run.models run.default run.given.planned) (c.trays_of-trays.ensures.count run.design run.request run.models run.default run.given.planned) in
    let follows =
    c.as_slice-2.ensures.value
    ∙ stops-are run c.args.design.now c.tree.result.now c.as_slice.result.now c.in_ok-stops.stops.items same c.tree.ensures.tree c.as_slice.ensures c.in_ok-stops.ensures in
    let first = first_kept_tray (plan_bridges run.design.circuit run.design.tree run.request) in
    record {
      opening = c.in_ok-net.net;
      opens = subst (λ (own : Start). IsOpeningFrom c.args.plan.now own (plan_token run.design run.request own.state) trace.columns trace.rows c.in_ok-net.net) zeros from;
      rows = subst (λ told. RowsAreKept c.in_ok-net.net first 0 told (out_columns (plan_circuit run.design run.request run.models) run.rows))
          (rows-whole (plan_stops run.design run.request) (plan_circuit run.design run.request run.models) c.args.ports.now run.rows (trace.rows - 0) trace.rows whole)
          (kept c.args.plan.now start trace.columns trace.rows run from cycle counted follows);
    })
    c.print_from.ensures.kept
