use Rattle.std.proofs.Common.{◌≡◌, List, ℕ, ◌≤◌, length, refl, sym, ◌∙◌, subst}
use Rattle.gg_cut_plan.specs.Clocks.{ratios_of}
use Rattle.gg_flat.specs.Circuit.{FlatCircuit}
use Rattle.gg_flat.specs.Clock.{Ratio}
use Rattle.gg_flat.specs.Run.{IsColumns, IsRunFrom, clocked_start}
use Rattle.gg_cut_reference.specs.whole.Whole.{plan_circuit}
use Rattle.gg_rows.specs.inside.Printed.{text_of}
use Rattle.gg_io.specs.inside.Endings.{PrintsOn}
use Rattle.gg_io.proofs.EndingLemmas.{exit-is}
use Rattle.gg_io.proofs.WritingLemmas.{none-front}
use Rattle.golden_commands.specs.Partition.{to_run}
use Rattle.golden_commands.proofs.FedLemmas.{own-run}
use Rattle.golden_commands.proofs.printing.print_whole.Goals as goal

pub whole_of-requires : goal.whole_of-requires
whole_of-requires g c = let r = c.requires.fed in (r.0, r.1, r.3, r.4.case)

pub returns-in_err-whole-clause-prints : goal.returns-in_err-whole-clause-prints
returns-in_err-whole-clause-prints g c =
    let r = c.requires.fed in
    rw (exit-is c.from_residual.ensures.1) (_, own-run (to_run c.args.models.now) r.0 r.1 r.2 r.3 c.args.fed.now r.4, none-front _ _ _ refl)

pub print_simulated-requires-clause-few : goal.print_simulated-requires-clause-few
print_simulated-requires-clause-few g c = c.requires.fed.4.most

pub print_simulated-requires-clause-fed : goal.print_simulated-requires-clause-fed
print_simulated-requires-clause-fed g c =
    let fed = c.args.fed.now in
    subst (λ (f : FlatCircuit). IsColumns f fed.trace.rows fed.trace.columns) (sym c.in_ok-whole.ensures) c.requires.fed.4.columns

pub print_simulated-requires-clause-ports : goal.print_simulated-requires-clause-ports
print_simulated-requires-clause-ports g c = subst (λ (f : FlatCircuit). length c.args.ports.now ≤ length f.outs) (sym c.in_ok-whole.ensures) c.requires.ports

pub returns-clause-prints : goal.returns-clause-prints
returns-clause-prints g c =
    let fed = c.args.fed.now in
    let whole = plan_circuit fed.case.design fed.case.cut.request c.args.models.now in
    let timed : c.as_slice-ratios.result.now ≡ ratios_of fed.case.design.tree fed.case.cut.request = c.as_slice-ratios.ensures ∙ c.requires.fed.4.case.planned.ratios in
    subst
    (λ (ratios : List Ratio). (rows : List (List ℕ)) × IsRunFrom whole (clocked_start whole ratios) fed.trace.columns fed.trace.rows rows
    × PrintsOn g.K.Sink c.args.out.now c.print_simulated.new.out (text_of c.args.stops.now whole c.args.ports.now rows fed.trace.rows) c.print_simulated.result)
    timed
    (subst
    (λ (f : FlatCircuit). (rows : List (List ℕ)) × IsRunFrom f (clocked_start f c.as_slice-ratios.result.now) fed.trace.columns fed.trace.rows rows
    × PrintsOn g.K.Sink c.args.out.now c.print_simulated.new.out (text_of c.args.stops.now f c.args.ports.now rows fed.trace.rows) c.print_simulated.result)
    c.in_ok-whole.ensures c.print_simulated.ensures.prints)
