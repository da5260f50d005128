-- A text spells at most one circuit, which has only one flat circuit and one tree.
use Rattle.std.proofs.Common.{subst}
use Rattle.gg_ast.specs.Tree.{CircuitTree}
use Rattle.gg_elab_sites.specs.IsFlat.{IsFlat}
use Rattle.gg_elab_tree.specs.IsTreeOf.{IsTreeOf}
use Rattle.gg_front.proofs.TreeLemmas.{tree-same}
use Rattle.gg_front.proofs.laws.one_meaning.Goals as goal

pub returns-clause-flat : goal.returns-clause-flat
returns-clause-flat c = λ bytes one other a b.
    let flat = subst (λ (t : CircuitTree). IsFlat t one) (c.one_circuit.ensures bytes a.text.circuit b.text.circuit a.text.spelt b.text.spelt) a.flattened in
    c.one_flat.ensures b.text.circuit one other flat b.flattened

pub returns-clause-tree : goal.returns-clause-tree
returns-clause-tree c = λ bytes one other a b.
    let same = c.one_circuit.ensures bytes a.means.text.circuit b.means.text.circuit a.means.text.spelt b.means.text.spelt in
    tree-same b.means.text.circuit one.tree other.tree (subst (λ (t : CircuitTree). IsTreeOf t one.tree) same a.grown) b.grown
