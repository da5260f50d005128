use Rattle.std.proofs.Common.{◌≡◌, ◌≤◌, take}
use Rattle.std.specs.VecDeque.{deque_items, deque_len, deque_capacity}
use Rattle.net_tests.proofs.links.held.hold.Given as goal

abbrev pub invariant-loop-place : goal.invariant-loop-place
invariant-loop-place l = (deque_items l.held ≡ take l.place l.values) × (deque_len l.held ≡ l.place) × (l.capacity ≤ deque_capacity l.held)
