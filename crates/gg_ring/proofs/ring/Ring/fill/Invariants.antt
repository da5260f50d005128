use Rattle.std.proofs.Common.{◌≡◌, ◌+◌, length, List, ℕ, ◌++◌}
use Rattle.std.specs.VecDeque.{deque_items, deque_len, deque_capacity}
use Rattle.gg_ring.specs.Seats.{IsPutSeatOf}
use Rattle.gg_ring.proofs.ring.Ring.fill.Given as goal

abbrev pub invariant-loop-value : goal.invariant-loop-value
invariant-loop-value l =
    IsPutSeatOf l.self l.seat × (l.seat.seat.me.0.stream ≡ l.initial.seat.seat.me.0.stream)
    × (l.seat.seen ≡ l.initial.seat.seen)
    × (l.seat.puts + deque_len l.held ≡ deque_len l.initial.held)
    × (deque_capacity l.held ≡ deque_capacity l.initial.held)
    × ((done : List ℕ) × (rest : List ℕ) × (l.seat.seat.me.0.stream ≡ done ++ (deque_items l.held ++ rest)) × (length done ≡ l.seat.puts))

abbrev pub decreases-loop-value : goal.decreases-loop-value
decreases-loop-value l = deque_len l.held
