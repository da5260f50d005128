use Rattle.std.proofs.Common.{◌≡◌, ℕ, IfSome, IfNone, ◌⊎◌, subst}
use Rattle.gg_ast.specs.Tree.{CircuitTree}
use Rattle.gg_shape_names.specs.Modules.{Holds}
use Rattle.gg_shape_names.specs.inside.Modules.{HoldsBelow}
use Rattle.gg_shape_names.proofs.graph.NamespaceGraph.target.Goals as goal

pub returns-clause-first : goal.returns-clause-first
returns-clause-first c =
    subst (λ (t : CircuitTree). IfSome c.held_from.result (λ found. (j : ℕ) → HoldsBelow t.modules c.args.node found.next j → HoldsBelow t.modules c.args.node c.args.place j ⊎ (j ≡ found.node))) c.circuit.ensures.circuit c.held_from.ensures.first

pub returns-clause-none : goal.returns-clause-none
returns-clause-none c =
    subst (λ (t : CircuitTree). IfNone c.held_from.result ((j : ℕ) → Holds t.modules c.args.node j → HoldsBelow t.modules c.args.node c.args.place j)) c.circuit.ensures.circuit c.held_from.ensures.none
