use Rattle.std.proofs.Common.{◌≡◌, List, map, get_or, sym, ap, subst, ◌∙◌}
use Rattle.gg_ast.specs.declared.module.Port.{Port}
use Rattle.gg_shape.specs.inside.Faults.{Answers}
use Rattle.gg_shape.specs.inside.Told.{is_among, inputs_of}
use Rattle.gg_shape.proofs.UnconnectedLemmas.{instance-told, instance-none, place-told}
use Rattle.gg_shape.proofs.unconnected.check_instance.Goals as goal

pub bounds-inputs-place : goal.bounds-inputs-place
bounds-inputs-place c =
    place-told (is_among c.args.declaration.connected.now) c.args.declaration.line c.args.names.now.modules c.args.held.now c.in-Some.place c.args.inputs.now c.requires (sym c.place_of_module.ensures ∙ c.in-Some.is)

pub returns-in-Some : goal.returns-in-Some
returns-in-Some c =
    let inputs = c.index-inputs-place.result in
    let at : inputs ≡ get_or (map inputs_of c.args.names.now.modules) c.in-Some.place inputs =
    c.index-inputs-place.is ∙ ap (λ (l : List (List Port)). get_or l c.in-Some.place inputs) c.requires in
    let told = instance-told (is_among c.args.declaration.connected.now) c.args.declaration.line c.args.names.now.modules c.args.instance.now c.args.held.now c.in-Some.place inputs c.as_slice.result.now (sym c.place_of_module.ensures ∙ c.in-Some.is) at c.as_slice.ensures in
    subst (λ l. Answers l c.check_inputs.result) (sym told) c.check_inputs.ensures

pub returns-in-None : goal.returns-in-None
returns-in-None c = instance-none (is_among c.args.declaration.connected.now) c.args.declaration.line c.args.names.now.modules c.args.instance.now c.args.held.now (sym c.place_of_module.ensures ∙ c.in-None.is)
