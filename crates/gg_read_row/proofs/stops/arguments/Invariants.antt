use Rattle.std.proofs.Common.{◌≡◌, ◌-◌, [], length}
use Rattle.gg_read_row.specs.inside.Reading.{arguments_at}
use Rattle.gg_read_row.proofs.stops.arguments.Given as goal

abbrev pub invariant-loop-turn : goal.invariant-loop-turn
invariant-loop-turn l =
    arguments_at (length l.fn.cursor) [] l.fn.cursor ≡ arguments_at (l._turn-end - l._turn) l.arguments l.cursor
