use Rattle.std.proofs.Common.{◌≡◌, ℕ, List, take, get_or, IfSome, IfNone, ◌⊎◌, sym, ap, subst, ◌∙◌}
use Rattle.std.specs.Prelude.{Contains, flat_map}
use Rattle.gg_ast.specs.declared.statement.Stmt.{Stmt}
use Rattle.gg_ast.specs.Tree.{ModuleTree}
use Rattle.gg_shape_names.specs.Modules.{held_by, module_at}
use Rattle.gg_shape_names.proofs.FindLemmas.{module-at}
use Rattle.gg_shape_names.proofs.graph.held_from.Goals as goal

pub returns-clause-first : goal.returns-clause-first
returns-clause-first c =
    let modules = c.args.circuit.now.modules in
    let m = c.index-modules-node.result in
    let is : m ≡ get_or modules c.args.node m = c.index-modules-node.is ∙ ap (λ (l : List ModuleTree). get_or l c.args.node m) c.modules.ensures in
    let e : c.statements.result.now ≡ (module_at modules c.args.node).statements =
    c.statements.ensures ∙ ap (λ (x : ModuleTree). x.statements) (sym (module-at modules c.args.node m c.requires.node is)) in
    subst (λ (l : List Stmt). IfSome c.next_held.result (λ found. (j : ℕ) → Contains (flat_map (held_by modules) (take found.next l)) j → Contains (flat_map (held_by modules) (take c.args.place l)) j ⊎ (j ≡ found.node))) e c.next_held.ensures.first

pub returns-clause-none : goal.returns-clause-none
returns-clause-none c =
    let modules = c.args.circuit.now.modules in
    let m = c.index-modules-node.result in
    let is : m ≡ get_or modules c.args.node m = c.index-modules-node.is ∙ ap (λ (l : List ModuleTree). get_or l c.args.node m) c.modules.ensures in
    let e : c.statements.result.now ≡ (module_at modules c.args.node).statements =
    c.statements.ensures ∙ ap (λ (x : ModuleTree). x.statements) (sym (module-at modules c.args.node m c.requires.node is)) in
    subst (λ (l : List Stmt). IfNone c.next_held.result ((j : ℕ) → Contains (flat_map (held_by modules) l) j → Contains (flat_map (held_by modules) (take c.args.place l)) j)) e c.next_held.ensures.none
