use Rattle.gg_elab_tree.proofs.EachTreeLemmas.{tree-there}
use Rattle.gg_elab_tree.proofs.laws.each_has_tree.Goals as goal

pub returns : goal.returns
returns c = tree-there
