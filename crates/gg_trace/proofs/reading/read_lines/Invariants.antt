use Rattle.std.proofs.Common.{length}
use Rattle.gg_trace.proofs.TraceLaws.{ReadsRows}
use Rattle.gg_trace.proofs.reading.read_lines.Given as goal

abbrev pub invariant-loop-line : goal.invariant-loop-line
invariant-loop-line l = ReadsRows l.ports l.bytes l.lines l.places.items l.values.items l.cells.items l.rows

abbrev pub decreases-loop-line : goal.decreases-loop-line
decreases-loop-line l = length l.lines
