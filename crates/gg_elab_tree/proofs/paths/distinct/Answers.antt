use Rattle.std.proofs.Common.{◌≡◌, [], ◌∙◌, subst}
use Rattle.gg_ast.specs.inside.Names.{AreNamesOfCircuit}
use Rattle.gg_ast.specs.Tree.{CircuitTree}
use Rattle.gg_shape_names.specs.Repetitions.{repetitions}
use Rattle.gg_elab_sites.specs.Known.{types_of}
use Rattle.gg_elab_sites.proofs.StopLemmas.{few-stops}
use Rattle.gg_elab_tree.proofs.NamesLemmas.ModuleNameLemmas.{memory-paths-differ, site-paths-differ}
use Rattle.gg_elab_tree.proofs.NamesLemmas.SignalPathLemmas.{signal-paths-differ}
use Rattle.gg_elab_tree.proofs.paths.distinct.Goals as goal

pub returns-clause-sites : goal.returns-clause-sites
returns-clause-sites c =
    let same : c.circuit-circuit.result.now ≡ c.args.typed.now.circuit = c.circuit-circuit.ensures.circuit ∙ c.names.ensures.names in
    site-paths-differ c.args.typed.now.circuit
    (subst (λ (k : CircuitTree). AreNamesOfCircuit k) same c.names_are_words.ensures)
    (subst (λ (k : CircuitTree). repetitions k ≡ []) c.names.ensures.names c.circuit-circuit.ensures.once)

pub returns-clause-signals : goal.returns-clause-signals
returns-clause-signals c =
    let same : c.circuit-circuit.result.now ≡ c.args.typed.now.circuit = c.circuit-circuit.ensures.circuit ∙ c.names.ensures.names in
    signal-paths-differ c.args.typed.now.circuit
    (subst (λ (k : CircuitTree). AreNamesOfCircuit k) same c.names_are_words.ensures)
    (subst (λ (k : CircuitTree). repetitions k ≡ []) c.names.ensures.names c.circuit-circuit.ensures.once)
    (λ site listed. few-stops (types_of c.args.typed.now.circuit) c.args.typed.now.circuit.modules c.args._digests.now c.requires site.number)

pub returns-clause-memories : goal.returns-clause-memories
returns-clause-memories c =
    let same : c.circuit-circuit.result.now ≡ c.args.typed.now.circuit = c.circuit-circuit.ensures.circuit ∙ c.names.ensures.names in
    memory-paths-differ c.args.typed.now.circuit
    (subst (λ (k : CircuitTree). AreNamesOfCircuit k) same c.names_are_words.ensures)
    (subst (λ (k : CircuitTree). repetitions k ≡ []) c.names.ensures.names c.circuit-circuit.ensures.once)
