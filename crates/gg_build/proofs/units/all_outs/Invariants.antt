use Rattle.gg_build.specs.inside.Hosts.{ArePlaced}
use Rattle.gg_build.proofs.units.all_outs.Given as goal

abbrev pub invariant-loop-thread : goal.invariant-loop-thread
invariant-loop-thread l = ArePlaced l.piece.outs l.machines l.group l.thread l.outs.items
