use Rattle.std.proofs.Common.{sym, ap, ◌∙◌}
use Rattle.gg_ast.specs.Places.{place_of}
use Rattle.gg_ast.specs.Tree.{names_of}
use Rattle.gg_shape_names.proofs.FindLemmas.{module-before, is_before}
use Rattle.gg_shape_names.proofs.namespace.has_earlier.Goals as goal

pub returns-in-Some : goal.returns-in-Some
returns-in-Some c =
    ap (λ o. is_before o c.args.place) (sym c.in-Some.is ∙ c.module.ensures.value ∙ ap (λ q. place_of q (names_of c.args.circuit.now.modules)) c.as_str.ensures)
    ∙ sym (module-before c.args.circuit.now.modules c.args.place c.args.name.now)

pub returns-in-None : goal.returns-in-None
returns-in-None c =
    ap (λ o. is_before o c.args.place) (sym c.in-None.is ∙ c.module.ensures.value ∙ ap (λ q. place_of q (names_of c.args.circuit.now.modules)) c.as_str.ensures)
    ∙ sym (module-before c.args.circuit.now.modules c.args.place c.args.name.now)
