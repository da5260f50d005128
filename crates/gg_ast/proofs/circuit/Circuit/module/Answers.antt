use Rattle.std.proofs.Common.{◌≡◌, Some, sym, ap, ◌∙◌, arith}
use Rattle.std.proofs.lemmas.List.{length-map}
use Rattle.gg_ast.specs.Places.{place_of}
use Rattle.gg_ast.specs.Tree.{module_names}
use Rattle.gg_ast.proofs.NamePlaces.{place_of-first, place_of-lacks, place_of-below}
use Rattle.gg_ast.proofs.circuit.Circuit.module.Goals as goal

pub overflow_cast-result : goal.overflow_cast-result
overflow_cast-result c =
    let q = c.args.name.now in
    let e : place_of q (module_names c.args.self.now) ≡ Some c.in-Some.place.now =
    sym (c.in-Some.ensures.value ∙ c.self.invariant.1 q ∙ ap (λ t. place_of q (module_names t)) c.self.view_is) in
    let within = place_of-below q (module_names c.args.self.now) c.in-Some.place.now e in
    let size = length-map c.args.self.now.modules (λ m. m.name) in
    omega arith

pub returns-in-Some-clause-found : goal.returns-in-Some-clause-found
returns-in-Some-clause-found c =
    let q = c.args.name.now in
    place_of-first q (module_names c.args.self.now) c.in-Some.place.now
    (sym (c.in-Some.ensures.value ∙ c.self.invariant.1 q ∙ ap (λ t. place_of q (module_names t)) c.self.view_is))

pub returns-in-None-clause-missing : goal.returns-in-None-clause-missing
returns-in-None-clause-missing c =
    let q = c.args.name.now in
    place_of-lacks q (module_names c.args.self.now)
    (sym (c.in-None.ensures.value ∙ c.self.invariant.1 q ∙ ap (λ t. place_of q (module_names t)) c.self.view_is))
