use Rattle.std.proofs.Common.{◌≡◌, [], ◌∙◌, subst}
use Rattle.gg_ast.specs.inside.Names.{AreNamesOfCircuit}
use Rattle.gg_ast.specs.Places.{place_of}
use Rattle.gg_ast.specs.Tree.{CircuitTree, module_names}
use Rattle.gg_shape_names.specs.Repetitions.{repetitions}
use Rattle.gg_elab_tree.proofs.HoldsLemmas.{tree-holds, scopes-hold, clocks-hold}
use Rattle.gg_elab_tree.proofs.ElementLemmas.{some-of}
use Rattle.gg_elab_tree.proofs.fitting.fits.Goals as goal

pub returns-clause-fitting : goal.returns-clause-fitting
returns-clause-fitting c =
    let circuit = c.args.typed.now.circuit in
    let t = some-of (place_of circuit.name (module_names circuit)) c.requires.top in
    let same : c.circuit-circuit.result.now ≡ circuit = c.circuit-circuit.ensures.circuit ∙ c.names.ensures.names in
    tree-holds circuit c.args.piece.now c.args.tree.now t.0 t.1 c.requires.flat c.requires.tree c.signal_count.ensures.distinct c.len.ensures.distinct c.memory_count.ensures.distinct
    (subst (λ (k : CircuitTree). AreNamesOfCircuit k) same c.names_are_words.ensures)
    (subst (λ (k : CircuitTree). repetitions k ≡ []) c.names.ensures.names c.circuit-circuit.ensures.once)

pub returns-clause-scoped : goal.returns-clause-scoped
returns-clause-scoped c =
    let circuit = c.args.typed.now.circuit in
    let t = some-of (place_of circuit.name (module_names circuit)) c.requires.top in
    let same : c.circuit-circuit.result.now ≡ circuit = c.circuit-circuit.ensures.circuit ∙ c.names.ensures.names in
    scopes-hold circuit c.args.piece.now c.args.tree.now t.0 t.1 c.requires.flat c.requires.tree c.signal_count.ensures.distinct c.len.ensures.distinct c.memory_count.ensures.distinct
    (subst (λ (k : CircuitTree). AreNamesOfCircuit k) same c.names_are_words.ensures)
    (subst (λ (k : CircuitTree). repetitions k ≡ []) c.names.ensures.names c.circuit-circuit.ensures.once)

pub returns-clause-clocked : goal.returns-clause-clocked
returns-clause-clocked c =
    let circuit = c.args.typed.now.circuit in
    let t = some-of (place_of circuit.name (module_names circuit)) c.requires.top in
    let same : c.circuit-circuit.result.now ≡ circuit = c.circuit-circuit.ensures.circuit ∙ c.names.ensures.names in
    clocks-hold circuit c.args.piece.now c.args.tree.now t.0 t.1 c.requires.flat c.requires.tree c.signal_count.ensures.distinct c.len.ensures.distinct c.memory_count.ensures.distinct
    (subst (λ (k : CircuitTree). AreNamesOfCircuit k) same c.names_are_words.ensures)
    (subst (λ (k : CircuitTree). repetitions k ≡ []) c.names.ensures.names c.circuit-circuit.ensures.once)
