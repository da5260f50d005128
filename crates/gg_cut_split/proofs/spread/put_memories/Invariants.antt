use Rattle.std.proofs.Common.{length}
use Rattle.gg_cut_split.specs.inside.Spread.{AreLists, memories_below}
use Rattle.gg_cut_split.proofs.spread.put_memories.Given as goal

abbrev pub invariant-loop-place : goal.invariant-loop-place
invariant-loop-place l = AreLists (memories_below l.tree l.owners l.place) (length l.initial.lists) l.lists
