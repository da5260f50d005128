use Rattle.std.proofs.Common.{take}
use Rattle.gg_elab_tree.specs.IsTreeOf.{Pairwise}
use Rattle.gg_elab_tree.specs.inside.TreeParts.{IsNumberAt}
use Rattle.gg_elab_tree.proofs.instances.numbers.Given as goal

abbrev pub invariant-loop-own : goal.invariant-loop-own
invariant-loop-own l = Pairwise (IsNumberAt l.paths l.outer) (take l.own-index l.memories) l.numbers.items
