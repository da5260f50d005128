use Rattle.std.proofs.Common.{◌≡◌}
use Rattle.gg_trace.proofs.TableLaws.{column_in}
use Rattle.gg_trace.proofs.trace_table.column_of.Given as goal

abbrev pub invariant-loop-row : goal.invariant-loop-row
invariant-loop-row l = l.column.items ≡ column_in l.row l.inputs l.cells l.input
