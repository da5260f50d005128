use Rattle.std.proofs.Common.{length}
use Rattle.gg_build.proofs.BridgeLemmas.{ArePut}
use Rattle.gg_build.proofs.bridges.table_of.Given as goal

abbrev pub invariant-loop-name : goal.invariant-loop-name
invariant-loop-name g l = ArePut l.fn.bridges.items l.left.items l.table

abbrev pub decreases-loop-name : goal.decreases-loop-name
decreases-loop-name g l = length l.left.items
