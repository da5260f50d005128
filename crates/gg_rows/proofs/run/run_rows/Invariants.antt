use Rattle.std.proofs.Common.{◌-◌, length}
use Rattle.gg_rows.proofs.RunLemmas.{WindowsRan}
use Rattle.gg_rows.proofs.run.run_rows.Given as goal

abbrev pub invariant-loop-begun : goal.invariant-loop-begun
invariant-loop-begun g l = WindowsRan (g.W.Rows.takes l.rows) g.Z.Streams.flow l.initial.net l.first (length l.initial.outs) l.begin l.initial.taken l.taken l.begun l.net

abbrev pub decreases-loop-begun : goal.decreases-loop-begun
decreases-loop-begun g l = l.end - l.begun
