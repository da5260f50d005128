use Rattle.std.proofs.Common.{take}
use Rattle.gg_elab_tree.specs.IsTreeOf.{Pairwise}
use Rattle.gg_elab_tree.specs.inside.TreeParts.{IsPortAt, signals_among}
use Rattle.gg_elab_tree.proofs.instances.ports.Given as goal

abbrev pub invariant-loop-one : goal.invariant-loop-one
invariant-loop-one l = Pairwise (IsPortAt l.paths l.outer) (signals_among (take l.one-index l.ports)) l.found.items
