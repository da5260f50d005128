use Rattle.std.proofs.Common.{ℕ, ◌<◌, ◌≤◌, get_or}
use Rattle.gg_flat.specs.declared.piece.Signal.{Signal}
use Rattle.gg_order.specs.runs.Room.{line_length}
use Rattle.std.specs.Prelude.{All}
use Rattle.gg_order.proofs.runs.room.longest_driver.Given as goal

abbrev pub invariant-loop-signal : goal.invariant-loop-signal
invariant-loop-signal l =
    ((k : ℕ) (d : Signal) → k < l.signal-index → line_length (get_or l.signals k d).driver ≤ l.longest)
    × ((places : ℕ) → All (λ (signal : Signal). line_length signal.driver ≤ places) l.signals → l.longest ≤ places)
