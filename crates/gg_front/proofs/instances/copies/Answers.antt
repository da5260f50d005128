use Rattle.std.proofs.Common.{◌≡◌, ℕ, List, [], length, ◌∙◌, sym, subst}
use Rattle.gg_ast.specs.inside.Names.{AreNamesOfCircuit}
use Rattle.gg_ast.specs.Tree.{CircuitTree}
use Rattle.gg_shape_names.specs.Modules.{Holds}
use Rattle.gg_shape_names.specs.Repetitions.{repetitions}
use Rattle.gg_elab_sites.proofs.NameLemmas.{Differ}
use Rattle.gg_elab_tree.proofs.NamesLemmas.SoundLemmas.{plain-names, apart-names, known-names}
use Rattle.gg_graph.specs.inside.Graph.{IsOrderOf}
use Rattle.gg_front.proofs.CopyInstanceLemmas.{has-copies}
use Rattle.gg_front.proofs.CopyRankLemmas.{place_in, order-ranked, rank-most, some-names}
use Rattle.gg_elab_sites.proofs.OrderLemmas.{order_of}
use Rattle.gg_front.proofs.instances.copies.Goals as goal

pub returns : goal.returns
returns c =
    let circuit = c.args.typed.now.circuit in
    let same : c.circuit-circuit.result.now ≡ circuit = c.circuit-circuit.ensures.circuit ∙ c.names.ensures.names in
    let are : AreNamesOfCircuit circuit = subst (λ (k : CircuitTree). AreNamesOfCircuit k) same c.names_are_words.ensures in
    let once : repetitions circuit ≡ [] = subst (λ (k : CircuitTree). repetitions k ≡ []) c.names.ensures.names c.circuit-circuit.ensures.once in
    let order : List ℕ = c.order.result.now in
    let ordered = order_of circuit.modules order (subst (λ (l : List ℕ). IsOrderOf (Holds circuit.modules) (length circuit.modules) l) (sym c.order.ensures.order) c.order.ensures.ordered) in
    has-copies circuit c.args.piece.now c.args.tree.now c.top_of.result c.top_of.ensures c.requires.flat c.requires.tree
    (record {
      of_sites = subst (λ paths. Differ paths) c.requires.tree.paths c.len.ensures.distinct;
      of_signals = subst (λ paths. Differ paths) c.requires.flat.paths c.signal_count.ensures.distinct;
      of_memories = subst (λ paths. Differ paths) c.requires.tree.memory_names c.memory_count.ensures.distinct;
    })
    (plain-names circuit are once) (apart-names circuit are once) (known-names circuit are once) are c.requires.fitting c.requires.scoped
    (λ k. place_in order k) (order-ranked circuit.modules order ordered) (rank-most circuit.modules order ordered c.top_of.result) (some-names circuit are)
