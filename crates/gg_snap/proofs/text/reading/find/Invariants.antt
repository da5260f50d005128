use Rattle.std.proofs.Common.{length, ◌-◌, ◌≤◌}
use Rattle.gg_snap.specs.inside.Places.{Skips, behind}
use Rattle.gg_snap.proofs.text.reading.find.Given as goal

abbrev pub invariant-loop-cursor : goal.invariant-loop-cursor
invariant-loop-cursor l = (l.cursor.row ≤ length l.rows) × Skips l.line (behind l.rows l.initial.cursor) (behind l.rows l.cursor)

abbrev pub decreases-loop-cursor : goal.decreases-loop-cursor
decreases-loop-cursor l = length l.rows - l.cursor.row
