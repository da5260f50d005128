use Rattle.std.proofs.Common.{length}
use Rattle.gg_cut_routes.proofs.PipedTables.{MarkedBy}
use Rattle.gg_cut_routes.proofs.piped.piped_of.Given as goal

abbrev pub invariant-loop-name : goal.invariant-loop-name
invariant-loop-name l = MarkedBy l.piece.paths l.names (length l.piece.signals) l.name-index l.marks.items
