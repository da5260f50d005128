use Rattle.gg_ast.proofs.TreeOf.{one_tree-law}
use Rattle.gg_ast.proofs.laws.one_tree.Goals as goal

pub returns : goal.returns
returns c = one_tree-law
