use Rattle.std.proofs.Common.{sym, ap₂, ◌∙◌, subst}
use Rattle.gg_flat.specs.Circuit.{FlatCircuit}
use Rattle.gg_partfile.specs.declared.request.BridgeEntry.{BridgeEntry}
use Rattle.std.specs.Prelude.{List}
use Rattle.std.proofs.lemmas.Result.{IfOk-weaker}
use Rattle.gg_cut_reference.specs.inside.Whole.{CanStandAll}
use Rattle.gg_cut_reference.specs.whole.Whole.{with_bridges}
use Rattle.gg_cut_reference.proofs.WholeLemmas.PlanLemmas.{all-stand}
use Rattle.golden_commands.specs.Partition.{to_run}
use Rattle.golden_commands.proofs.CaseLemmas.{case-can}
use Rattle.golden_commands.proofs.whole.whole_of.Goals as goal

pub reference_of-requires : goal.reference_of-requires
reference_of-requires c = (to_run c.args.models.now, c.requires.0, c.requires.1, c.requires.2, c.requires.3)

pub joined_all-requires-clause-can : goal.joined_all-requires-clause-can
joined_all-requires-clause-can c =
    let case = c.args.case.now in
    let stand = all-stand case.design case.cut.request c.args.models.now (case-can c.requires.3) in
    subst (λ (l : List BridgeEntry). CanStandAll c.args.models.now c.in_ok-reference.reference.circuit l) (sym c.as_slice.ensures)
    (subst (λ (f : FlatCircuit). CanStandAll c.args.models.now f case.cut.request.bridges) (sym c.in_ok-reference.ensures.circuit) stand)

pub joined_all-requires-clause-models : goal.joined_all-requires-clause-models
joined_all-requires-clause-models c = c.requires.3.handed.each

pub returns : goal.returns
returns c =
    IfOk-weaker c.joined_all.result _ _
    (λ made is. is ∙ ap₂ (λ (f : FlatCircuit) (l : List BridgeEntry). with_bridges c.args.models.now f l) c.in_ok-reference.ensures.circuit c.as_slice.ensures) c.joined_all.ensures
