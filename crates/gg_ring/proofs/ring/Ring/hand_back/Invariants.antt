use Rattle.std.proofs.Common.{◌≡◌, ◌+◌, ◌-◌, ◌++◌, take, drop}
use Rattle.std.specs.VecDeque.{deque_items, deque_len, deque_capacity}
use Rattle.gg_ring.proofs.ring.Ring.hand_back.Given as goal

abbrev pub invariant-loop-k : goal.invariant-loop-k
invariant-loop-k l =
    (deque_items l.into ≡ deque_items l.initial.into ++ take (l.k - l.takes) (drop l.takes l.fn.put.seat.me.0.stream))
    × (deque_len l.into ≡ deque_len l.initial.into + (l.k - l.takes))
    × (deque_capacity l.into ≡ deque_capacity l.initial.into)
