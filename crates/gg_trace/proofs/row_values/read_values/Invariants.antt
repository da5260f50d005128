use Rattle.std.proofs.Common.{length}
use Rattle.gg_trace.proofs.RowLaws.{ReadsCells}
use Rattle.gg_trace.proofs.row_values.read_values.Given as goal

abbrev pub invariant-loop-text : goal.invariant-loop-text
invariant-loop-text l = ReadsCells l.ports l.places l.initial.cells l.cells l.values l.at

abbrev pub decreases-loop-text : goal.decreases-loop-text
decreases-loop-text l = length l.cells
