use Rattle.std.proofs.Common.{◌≡◌, ℕ, ◌-◌, refl, sym, ap, ◌∙◌, subst, arith}
use Rattle.gg_cut_plan.proofs.KnownLemmas.{parents-before}
use Rattle.gg_flat_tree.specs.inside.Clocked.{AreParentsBefore}
use Rattle.gg_build.specs.Build.{run_token}
use Rattle.gg_net.specs.Network.{AllStandAt}
use Rattle.gg_net.specs.Network.{Network}
use Rattle.gg_order.specs.Design.{Ordered}
use Rattle.gg_cut_reference.specs.whole.Whole.{plan_circuit}
use Rattle.gg_rows.specs.Printed.{plan_stops}
use Rattle.gg_rows.specs.inside.Printed.{text_since}
use Rattle.gg_rows.proofs.OutputLemmas.{opening-is-net, outs-few, trays-told}
use Rattle.gg_rows.proofs.PrintedLemmas.{stops-are}
use Rattle.gg_rows.proofs.RunLemmas.{opening-stands}
use Rattle.gg_io.specs.inside.Endings.{PrintsOn}
use Rattle.gg_io.proofs.EndingLemmas.{exit-is}
use Rattle.gg_io.proofs.WritingLemmas.{none-front}
use Rattle.golden.proofs.resume.print_since.Goals as goal

pub stop_ratios-requires : goal.stop_ratios-requires
stop_ratios-requires g c =
    let can = c.requires.run.1 in
    let design = can.run.design in
    let before = parents-before design.circuit design.tree can.run.given.can.keeps.fitting in
    subst AreParentsBefore (sym (c.tree.ensures.tree ∙ ap (λ (d : Ordered). d.tree) (sym can.of_design))) before

pub returns-in_err-stops-clause-prints : goal.returns-in_err-stops-clause-prints
returns-in_err-stops-clause-prints g c = λ start can. rw (exit-is c.from_residual.ensures.1) (none-front _ _ _ refl)

pub returns-in_err-net-clause-prints : goal.returns-in_err-net-clause-prints
returns-in_err-net-clause-prints g c = λ start can. rw (exit-is c.from_residual-in_err-net.ensures.1) (none-front _ _ _ refl)

pub print_from-requires-clause-opening : goal.print_from-requires-clause-opening
print_from-requires-clause-opening g c κs within =
    let fed = c.args.fed.now in
    let start = c.requires.run.0 in
    let can = c.requires.run.1 in
    let opens = c.in_ok-net.ensures start can in
    let begins : start.cycle ≡ c.cycle-begin.result = can.at_cycle ∙ sym c.cycle-begin.ensures.is in
    subst (λ (k : ℕ). AllStandAt k c.in_ok-net.net) begins (opening-stands fed.case.cut.plan start fed.trace.columns fed.trace.rows g.Z.Streams.flow c.in_ok-net.net can.run opens).all

pub print_from-requires-clause-within : goal.print_from-requires-clause-within
print_from-requires-clause-within g c =
    let opens = c.in_ok-net.ensures c.requires.run.0 c.requires.run.1 in
    omega (arith, c.requires.within, c.cycle-begin.ensures.is, ap (λ (net : Network). net.end) opens.is)

pub print_from-requires-clause-trays : goal.print_from-requires-clause-trays
print_from-requires-clause-trays g c =
    let fed = c.args.fed.now in
    let plan = fed.case.cut.plan in
    let start = c.requires.run.0 in
    let can = c.requires.run.1 in
    let run = can.run in
    let opens = c.in_ok-net.ensures start can in
    let are = trays-told run c.trays_of.result.first c.trays_of.result.count (c.trays_of.ensures.first run.design run.request run.models run.default run.given.planned) (c.trays_of.ensures.count run.design run.request run.models run.default run.given.planned) in
    omega (
      arith,
      are.begin,
      are.many,
      outs-few plan start fed.trace.columns fed.trace.rows g.Z.Streams.flow run c.in_ok-net.net (opening-is-net plan start (run_token run) fed.trace.columns fed.trace.rows c.in_ok-net.net opens) c.kept.ensures,
    )

pub print_from-requires-clause-ports : goal.print_from-requires-clause-ports
print_from-requires-clause-ports g c =
    let run = c.requires.run.1.run in
    let are = trays-told run c.trays_of.result.first c.trays_of.result.count (c.trays_of.ensures.first run.design run.request run.models run.default run.given.planned) (c.trays_of.ensures.count run.design run.request run.models run.default run.given.planned) in
    omega (arith, c.requires.run.2, are.many)

pub returns-clause-prints : goal.returns-clause-prints
returns-clause-prints g c = λ start can.
    let fed = c.args.fed.now in
    let run = can.run in
    let opens = c.in_ok-net.ensures start can in
    let at = c.cycle-begin.ensures.is in
    let are = trays-told run c.trays_of.result.first c.trays_of.result.count (c.trays_of.ensures.first run.design run.request run.models run.default run.given.planned) (c.trays_of.ensures.count run.design run.request run.models run.default run.given.planned) in
    let follows =
    c.as_slice-2.ensures.value
    ∙ stops-are run fed.case.design c.tree.result.now c.as_slice.result.now c.in_ok-stops.stops.items can.of_design c.tree.ensures.tree c.as_slice.ensures c.in_ok-stops.ensures in
    subst
    (λ (k : ℕ). PrintsOn g.K.Sink c.args.out.now c.print_from.new.out (text_since (plan_stops run.design run.request) (plan_circuit run.design run.request run.models) c.args.ports.now run.rows k (fed.trace.rows - k)) c.print_from.result)
    at (c.print_from.ensures.prints fed.case.cut.plan start fed.trace.columns fed.trace.rows run opens (can.at_cycle ∙ sym at) are follows)
