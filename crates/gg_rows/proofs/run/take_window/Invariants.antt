use Rattle.std.proofs.Common.{length}
use Rattle.gg_rows.proofs.RunLemmas.{RowsTaken}
use Rattle.gg_rows.proofs.run.take_window.Given as goal

abbrev pub invariant-loop-cycle : goal.invariant-loop-cycle
invariant-loop-cycle g l = RowsTaken (g.W.Rows.takes l.rows) g.Z.Streams.flow l.net l.begun l.upto l.first (length l.initial.outs) l.initial.taken l.taken l.cycle
