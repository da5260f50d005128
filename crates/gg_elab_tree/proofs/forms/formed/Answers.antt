use Rattle.std.proofs.Common.{◌≡◌, [], ◌∙◌, subst}
use Rattle.gg_ast.specs.inside.Names.{AreNamesOfCircuit}
use Rattle.gg_ast.specs.Places.{place_of}
use Rattle.gg_ast.specs.Tree.{CircuitTree, module_names}
use Rattle.gg_elab_sites.specs.Sites.{sites_of}
use Rattle.gg_elab_sites.specs.Flat.{flat_signals, flat_memories, stop_paths}
use Rattle.gg_elab_sites.specs.IsFlat.{top_ports}
use Rattle.gg_elab_sites.specs.Known.{types_of}
use Rattle.gg_shape_names.specs.Repetitions.{repetitions}
use Rattle.gg_elab_tree.proofs.WellFormedLemmas.CircuitFormedLemmas.{circuit-formed}
use Rattle.gg_elab_tree.proofs.WellFormedLemmas.HeldLemmas.{held-once}
use Rattle.gg_elab_tree.proofs.NamesLemmas.ModuleNameLemmas.{memory-paths-differ}
use Rattle.gg_elab_tree.proofs.ElementLemmas.{some-of}
use Rattle.gg_elab_tree.proofs.forms.formed.Goals as goal

pub returns-clause-formed : goal.returns-clause-formed
returns-clause-formed c =
    let circuit = c.args.typed.now.circuit in
    let t = some-of (place_of circuit.name (module_names circuit)) c.requires.top in
    let same : c.circuit-circuit.result.now ≡ circuit = c.circuit-circuit.ensures.circuit ∙ c.names.ensures.names in
    circuit-formed circuit c.args.piece.now t.0 t.1 c.requires.flat c.requires.fits c.signal_count.ensures.distinct
    (memory-paths-differ circuit
    (subst (λ (k : CircuitTree). AreNamesOfCircuit k) same c.names_are_words.ensures)
    (subst (λ (k : CircuitTree). repetitions k ≡ []) c.names.ensures.names c.circuit-circuit.ensures.once))

pub returns-clause-held : goal.returns-clause-held
returns-clause-held c =
    let circuit = c.args.typed.now.circuit in
    held-once (types_of circuit) (flat_signals (types_of circuit) circuit.modules (sites_of circuit)) (flat_memories circuit.modules (sites_of circuit))
    (top_ports circuit.modules (place_of circuit.name (module_names circuit))) (stop_paths circuit.modules (sites_of circuit)) c.args.piece.now c.requires.flat
