use Rattle.std.proofs.Common.{List, ℕ, refl, sym, ◌∙◌, subst}
use Rattle.gg_flat.specs.Clock.{Ratio}
use Rattle.gg_flat_tree.specs.inside.Clocked.{AreParentsBefore}
use Rattle.gg_cut_plan.proofs.KnownLemmas.{parents-before}
use Rattle.gg_cut_reference.specs.whole.Whole.{plan_circuit}
use Rattle.gg_rows.specs.inside.Printed.{text_of}
use Rattle.gg_io.specs.inside.Endings.{PrintsOn}
use Rattle.gg_io.proofs.EndingLemmas.{exit-is}
use Rattle.gg_io.proofs.WritingLemmas.{none-front}
use Rattle.golden_commands.specs.Partition.{to_run}
use Rattle.golden_commands.specs.RunText.{IsRunBy}
use Rattle.golden_commands.proofs.FedLemmas.{fed-ports, fed-prints, fed-stops, own-run}
use Rattle.golden_commands.proofs.printing.print_run.Goals as goal

pub shown_ports-requires : goal.shown_ports-requires
shown_ports-requires g c = c.requires.fed.4.case.keeps

pub returns-in_err-ports-clause-prints : goal.returns-in_err-ports-clause-prints
returns-in_err-ports-clause-prints g c =
    let r = c.requires.fed in
    rw (exit-is c.from_residual.ensures.1) (_, own-run (to_run c.args.models.now) r.0 r.1 r.2 r.3 c.args.fed.now r.4, none-front _ _ _ refl)

pub stop_ratios-requires : goal.stop_ratios-requires
stop_ratios-requires g c =
    let design = c.args.fed.now.case.design in
    subst AreParentsBefore (sym c.tree.ensures.tree) (parents-before design.circuit design.tree c.requires.fed.4.case.keeps.fitting)

pub returns-in_err-own-clause-prints : goal.returns-in_err-own-clause-prints
returns-in_err-own-clause-prints g c =
    let r = c.requires.fed in
    rw (exit-is c.from_residual-in_err-own.ensures.1) (_, own-run (to_run c.args.models.now) r.0 r.1 r.2 r.3 c.args.fed.now r.4, none-front _ _ _ refl)

pub print_whole-requires-clause-fed : goal.print_whole-requires-clause-fed
print_whole-requires-clause-fed g c = c.requires.fed

pub print_whole-requires-clause-ports : goal.print_whole-requires-clause-ports
print_whole-requires-clause-ports g c =
    let r = c.requires.fed in
    fed-ports (to_run c.args.models.now) r.0 r.1 r.2 r.3 c.args.fed.now r.4 c.in_ok-ports.ports c.in_ok-ports.ensures

pub returns-clause-prints : goal.returns-clause-prints
returns-clause-prints g c =
    let r = c.requires.fed in
    let known = to_run c.args.models.now in
    let fed = c.args.fed.now in
    let stops = c.as_slice.ensures.value ∙ fed-stops known r.0 r.1 r.2 r.3 fed r.4 c.tree.result.now c.as_slice-ratios.result.now c.in_ok-own.own.items c.tree.ensures.tree c.as_slice-ratios.ensures c.in_ok-own.ensures in
    let prints =
    subst
    (λ (stops : List Ratio). (rows : List (List ℕ)) × IsRunBy fed.case.design fed.case.cut.request c.args.models.now fed.trace.columns fed.trace.rows rows
    × PrintsOn g.K.Sink c.args.out.now c.print_whole.new.out (text_of stops (plan_circuit fed.case.design fed.case.cut.request c.args.models.now) c.in_ok-ports.ports rows fed.trace.rows) c.print_whole.result)
    stops c.print_whole.ensures.prints in
    (prints.0, prints.1, fed-prints known r.0 r.1 r.2 r.3 fed r.4 _ _ _ c.print_whole.result c.in_ok-ports.ports prints.0 c.in_ok-ports.ensures prints.2)
