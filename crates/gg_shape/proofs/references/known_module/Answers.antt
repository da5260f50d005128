use Rattle.std.proofs.Common.{◌≡◌, ◌∷◌, [], is_some, not, Some, sym, ap, ◌∙◌, rules}
use Rattle.gg_shape.specs.declared.fault.Fault.TheVariants.{UnknownName}
use Rattle.gg_shape.specs.Faults.{fault_if}
use Rattle.gg_shape_names.specs.Along.{first}
use Rattle.gg_shape.specs.Shape.{unknown_module}
use Rattle.gg_shape.proofs.PlaceLemmas.{module-there}
use Rattle.gg_shape.proofs.references.known_module.Goals as goal

pub returns-in-Some : goal.returns-in-Some
returns-in-Some c =
    ap (λ b. fault_if (not b) (UnknownName c.args.line c.args.name.now))
    (module-there c.args.name.now c.args.names.now.modules ∙ ap is_some (sym c.place_of_module.ensures ∙ c.in-Some.is))

pub returns-in_ok-clone-in-None : goal.returns-in_ok-clone-in-None
returns-in_ok-clone-in-None c =
    let absent : unknown_module c.args.names.now.modules c.args.line c.args.name.now ≡ UnknownName c.args.line c.args.name.now ∷ [] =
    ap (λ b. fault_if (not b) (UnknownName c.args.line c.args.name.now))
    (module-there c.args.name.now c.args.names.now.modules ∙ ap is_some (sym c.place_of_module.ensures ∙ c.in-None.is)) in
    let same : c.args.name.now ≡ c.in_ok-clone-in-None.field-0 = search rules in
    ap first absent ∙ ap (λ n. Some (UnknownName c.args.line n)) same
