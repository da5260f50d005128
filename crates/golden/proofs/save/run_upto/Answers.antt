use Rattle.std.proofs.Common.{length, sym, ap, ◌∙◌, subst, refl, arith}
use Rattle.std.proofs.lemmas.Result.{IfOk-weaker}
use Rattle.gg_cut_plan.proofs.KnownLemmas.{parents-before}
use Rattle.gg_flat_tree.specs.inside.Clocked.{AreParentsBefore}
use Rattle.gg_build.specs.Build.{run_token}
use Rattle.gg_order.specs.Design.{Ordered}
use Rattle.gg_partfile.specs.declared.request.Request.{Request}
use Rattle.gg_rows.proofs.OutputLemmas.{opening-is-net, outs-few, trays-told}
use Rattle.gg_rows.proofs.PrintedLemmas.{stops-are}
use Rattle.gg_rows.proofs.RunLemmas.{opening-stands}
use Rattle.golden_commands.specs.RunText.{shown_ports}
use Rattle.golden_commands.specs.inside.Replayed.{fed_start}
use Rattle.golden_commands.proofs.NetLemmas.{replay-run, replay-zeros}
use Rattle.golden.proofs.UptoLemmas.{IfOk-both, none-asked, stands-end}
use Rattle.golden_commands.proofs.WholePortLemmas.{shown-few}
use Rattle.golden.proofs.save.run_upto.Goals as goal

pub shown_ports-requires : goal.shown_ports-requires
shown_ports-requires g c = c.requires.case.4.keeps

pub stop_ratios-requires : goal.stop_ratios-requires
stop_ratios-requires g c =
    let run = c.requires.run.run in
    let before = parents-before run.design.circuit run.design.tree run.given.can.keeps.fitting in
    subst AreParentsBefore (sym (c.tree.ensures.tree ∙ ap (λ (d : Ordered). d.tree) (sym c.requires.run.of_design))) before

pub build-requires-clause-bridges : goal.build-requires-clause-bridges
build-requires-clause-bridges g c κs within =
    let case = c.args.fed.now.case in
    let is = c.requires.case.4 in
    none-asked _ _ c.new.result.items c.new.ensures.items case.design case.cut.request c.requires.case.0 c.requires.case.3 case.cut.plan is.planned (is.cuts.alone refl)

pub run_to_stop-requires-clause-opening : goal.run_to_stop-requires-clause-opening
run_to_stop-requires-clause-opening g c κs within =
    let fed = c.args.fed.now in
    let replay = c.requires.run in
    (opening-stands fed.case.cut.plan (fed_start fed) fed.trace.columns fed.trace.rows g.Z.Streams.flow c.in_ok-net.net replay.run (c.in_ok-net.ensures (fed_start fed) replay.run (replay-zeros replay))).all

pub run_to_stop-requires-clause-trays : goal.run_to_stop-requires-clause-trays
run_to_stop-requires-clause-trays g c =
    let fed = c.args.fed.now in
    let plan = fed.case.cut.plan in
    let replay = c.requires.run in
    let run = replay.run in
    let start = fed_start fed in
    let from = c.in_ok-net.ensures start run (replay-zeros replay) in
    let are = trays-told run c.trays_of.result.first c.trays_of.result.count (c.trays_of.ensures.first run.design run.request run.models run.default run.given.planned) (c.trays_of.ensures.count run.design run.request run.models run.default run.given.planned) in
    omega (
      arith,
      are.begin,
      are.many,
      outs-few plan start fed.trace.columns fed.trace.rows g.Z.Streams.flow run c.in_ok-net.net
          (opening-is-net plan start (run_token run) fed.trace.columns fed.trace.rows c.in_ok-net.net from) c.kept.ensures,
    )

pub run_to_stop-requires-clause-shown : goal.run_to_stop-requires-clause-shown
run_to_stop-requires-clause-shown g c =
    let replay = c.requires.run in
    let run = replay.run in
    let are = trays-told run c.trays_of.result.first c.trays_of.result.count (c.trays_of.ensures.first run.design run.request run.models run.default run.given.planned) (c.trays_of.ensures.count run.design run.request run.models run.default run.given.planned) in
    omega (
      arith,
      are.many,
      ap length c.as_slice-3.ensures,
      ap length (c.in_ok-ports.ensures ∙ ap (λ (d : Ordered). shown_ports d c.args.fed.now.case.cut.request) (sym replay.of_design) ∙ ap (λ (r : Request). shown_ports run.design r) (sym replay.of_request)),
      shown-few run.design run.request run.models run.given.can,
    )

pub returns-clause-first : goal.returns-clause-first
returns-clause-first g c =
    IfOk-weaker c.run_to_stop.result _ _
    (λ r told replay.
    let fed = c.args.fed.now in
    let run = replay.run in
    let are = trays-told run c.trays_of.result.first c.trays_of.result.count (c.trays_of.ensures.first run.design run.request run.models run.default run.given.planned) (c.trays_of.ensures.count run.design run.request run.models run.default run.given.planned) in
    let shown = ap length (c.as_slice-3.ensures ∙ c.in_ok-ports.ensures ∙ ap (λ (d : Ordered). shown_ports d fed.case.cut.request) (sym replay.of_design) ∙ ap (λ (q : Request). shown_ports run.design q) (sym replay.of_request)) in
    let follows =
    c.as_slice-2.ensures.value
    ∙ stops-are run fed.case.design c.tree.result.now c.as_slice.result.now c.in_ok-stops.stops.items replay.of_design c.tree.ensures.tree c.as_slice.ensures c.in_ok-stops.ensures in
    told fed.case.cut.plan (fed_start fed) fed.trace.columns fed.trace.rows (shown_ports run.design run.request) run (c.in_ok-net.ensures (fed_start fed) run (replay-zeros replay)) refl are shown follows)
    c.run_to_stop.ensures.first

pub returns-clause-stands : goal.returns-clause-stands
returns-clause-stands g c =
    IfOk-both c.run_to_stop.result
    (λ r frame all none replay.
    let fed = c.args.fed.now in
    stands-end fed.case.cut.plan (fed_start fed) (run_token replay.run) fed.trace.columns fed.trace.rows c.in_ok-net.net r.0 (c.in_ok-net.ensures (fed_start fed) replay.run (replay-zeros replay)) frame (all none))
    c.run_to_stop.ensures.frame c.run_to_stop.ensures.stands

pub build-requires-clause-run : goal.build-requires-clause-run
build-requires-clause-run g c κs within = replay-run c.requires.run
