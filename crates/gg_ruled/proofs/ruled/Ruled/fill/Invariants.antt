use Rattle.std.proofs.Common.{◌≡◌, ◌+◌, length, List, ℕ, ◌++◌}
use Rattle.std.specs.VecDeque.{deque_items, deque_len, deque_capacity}
use Rattle.crossbeam_queue.specs.Passes.{view}
use Rattle.gg_ruled.specs.inside.Seats.{IsPutSeatOf}
use Rattle.gg_ruled.proofs.ruled.Ruled.fill.Given as goal

abbrev pub invariant-loop-value : goal.invariant-loop-value
invariant-loop-value g l =
    IsPutSeatOf l.self l.seat × ((view l.seat.pass).stream ≡ (view l.initial.seat.pass).stream)
    × (l.seat.seen ≡ 0)
    × (l.seat.puts + deque_len l.held ≡ deque_len l.initial.held)
    × (deque_capacity l.held ≡ deque_capacity l.initial.held)
    × ((done : List ℕ) × (rest : List ℕ) × ((view l.seat.pass).stream ≡ done ++ (deque_items l.held ++ rest)) × (length done ≡ l.seat.puts))

abbrev pub decreases-loop-value : goal.decreases-loop-value
decreases-loop-value g l = deque_len l.held
