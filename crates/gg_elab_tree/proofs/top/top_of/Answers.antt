use Rattle.std.proofs.Common.{◌≡◌, sym, ap, ◌∙◌, subst}
use Rattle.gg_ast.specs.Places.{place_of}
use Rattle.gg_ast.specs.Tree.{CircuitTree, module_names}
use Rattle.gg_elab_tree.proofs.WellFormedLemmas.TopLemmas.{has-top, some-there}
use Rattle.gg_elab_tree.proofs.top.top_of.Goals as goal

pub unwrap-requires : goal.unwrap-requires
unwrap-requires c =
    let circuit = c.args.typed.now.circuit in
    let is : place_of circuit.name (module_names circuit) ≡ c.module.result =
    subst (λ (k : CircuitTree). place_of k.name (module_names k) ≡ c.module.result) (c.circuit-circuit.ensures.circuit ∙ c.names.ensures.names)
    (ap (λ n. place_of n (module_names c.circuit-circuit.result.now)) (sym (c.as_str.ensures ∙ c.name.ensures)) ∙ sym c.module.ensures.value) in
    some-there c.module.result (λ none. has-top circuit c.names.ensures.shaped.named (is ∙ none))
