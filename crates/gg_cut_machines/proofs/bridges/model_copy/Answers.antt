use Rattle.std.proofs.Common.{◌≡◌, ◌∙◌, Some, sym, ap}
use Rattle.std.specs.Prelude.{option_and_then, slice_get}
use Rattle.std.proofs.lemmas.Result.{IfOk-weaker}
use Rattle.gg_flat.specs.Circuit.{FlatCircuit}
use Rattle.gg_cut_plan.specs.Models.{model_names, model_circuits}
use Rattle.gg_cut_plan.specs.Bridges.{model_named}
use Rattle.gg_cut_plan.proofs.PathLemmas.{look-up}
use Rattle.gg_cut_machines.proofs.bridges.model_copy.Goals as goal

pub returns : goal.returns
returns c =
    let models = c.args.models.now in
    let place = look-up (model_names models) c.args.name.now c.find.result c.len.ensures.distinct c.find.ensures.found c.find.ensures.missing in
    let named : model_named models c.args.name.now ≡ Some c.in-Some-piece.model.now = ap (option_and_then (slice_get (model_circuits models))) (sym place ∙ c.in-Some.is) ∙ sym c.in-Some-piece.ensures in
    IfOk-weaker c.copy.result (λ (model : FlatCircuit). model ≡ c.in-Some-piece.model.now) (λ (model : FlatCircuit). model_named models c.args.name.now ≡ Some model)
    (λ model same. named ∙ ap Some (sym same)) c.copy.ensures
