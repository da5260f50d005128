use Rattle.std.proofs.Common.{◌≡◌, ℕ, List, sym, ap, ◌∙◌, subst, arith, length, map, Some, None}
use Rattle.std.proofs.lemmas.List.{length-map}
use Rattle.gg_ast.specs.Tree.{ModuleTree, CircuitTree, module_names}
use Rattle.gg_ast.specs.Places.{place_of}
use Rattle.gg_ast.proofs.NamePlaces.{place_of-below}
use Rattle.gg_elab_sites.specs.Counts.{counts_of}
use Rattle.gg_elab_sites.specs.inside.Sites.{HoldsModule}
use Rattle.gg_shape_names.specs.Modules.{Holds}
use Rattle.gg_graph.specs.inside.Graph.{IsOrderOf}
use Rattle.gg_elab_sites.proofs.OrderLemmas.{order_of}
use Rattle.gg_elab_sites.specs.Known.{types_of}
use Rattle.gg_elab.specs.Limits.{own_counts}
use Rattle.gg_elab_sites.specs.declared.digest.Digest.{Digest}
use Rattle.gg_elab.proofs.LimitLemmas.{counted, excess-found}
use Rattle.gg_elab.proofs.elaborate.flatten.Goals as goal

pub count-requires-clause-order : goal.count-requires-clause-order
count-requires-clause-order c =
    let same : c.circuit-circuit.result.now ≡ c.args.typed.now.circuit = c.circuit-circuit.ensures.circuit ∙ c.names.ensures.names in
    subst (λ (k : CircuitTree). IsOrderOf (HoldsModule k.modules) (length k.modules) c.order.result.now) (sym same)
    (order_of c.args.typed.now.circuit.modules c.order.result.now (subst (λ (l : List ℕ). IsOrderOf (Holds c.args.typed.now.circuit.modules) (length c.args.typed.now.circuit.modules) l) (sym c.order.ensures.order) c.order.ensures.ordered))

pub count-requires-clause-top : goal.count-requires-clause-top
count-requires-clause-top c =
    let circuit = c.args.typed.now.circuit in
    let same : length c.circuit-circuit.result.now.modules ≡ length circuit.modules = ap (λ (k : CircuitTree). length k.modules) (c.circuit-circuit.ensures.circuit ∙ c.names.ensures.names) in
    omega (arith, place_of-below circuit.name (module_names circuit) c.top_of-top.result c.top_of-top.ensures, length-map circuit.modules (λ (m : ModuleTree). m.name), same)

pub returns-in-Some-clause-limits : goal.returns-in-Some-clause-limits
returns-in-Some-clause-limits c =
    let circuit = c.args.typed.now.circuit in
    let modules = circuit.modules in
    let types = types_of circuit in
    let top = c.top_of-top.result in
    let own : c.in_ok-own.own.items ≡ own_counts types 0 modules =
    c.in_ok-own.ensures ∙ ap (λ (l : List Digest). map (λ d. length d.signals.items) l) c.as_slice.ensures.value ∙ counted types modules c.in_ok-digests.digests.items c.in_ok-digests.ensures in
    let counts : c.in_ok-counts.counts ≡ counts_of modules c.in_ok-own.own.items top =
    c.in_ok-counts.ensures ∙ ap (λ (k : CircuitTree). counts_of k.modules c.as_slice-2.result.now top) (c.circuit-circuit.ensures.circuit ∙ c.names.ensures.names) ∙ ap (λ l. counts_of modules l top) c.as_slice-2.ensures.value in
    excess-found types modules (place_of circuit.name (module_names circuit)) top c.in_ok-own.own.items c.in_ok-counts.counts (Some c.in-Some.excess) c.top_of-top.ensures own counts c.in-Some.ensures

pub returns-clause-limits : goal.returns-clause-limits
returns-clause-limits c =
    let circuit = c.args.typed.now.circuit in
    let modules = circuit.modules in
    let types = types_of circuit in
    let top = c.top_of-top.result in
    let own : c.in_ok-own.own.items ≡ own_counts types 0 modules =
    c.in_ok-own.ensures ∙ ap (λ (l : List Digest). map (λ d. length d.signals.items) l) c.as_slice.ensures.value ∙ counted types modules c.in_ok-digests.digests.items c.in_ok-digests.ensures in
    let counts : c.in_ok-counts.counts ≡ counts_of modules c.in_ok-own.own.items top =
    c.in_ok-counts.ensures ∙ ap (λ (k : CircuitTree). counts_of k.modules c.as_slice-2.result.now top) (c.circuit-circuit.ensures.circuit ∙ c.names.ensures.names) ∙ ap (λ l. counts_of modules l top) c.as_slice-2.ensures.value in
    excess-found types modules (place_of circuit.name (module_names circuit)) top c.in_ok-own.own.items c.in_ok-counts.counts None c.top_of-top.ensures own counts c.in-None.ensures
