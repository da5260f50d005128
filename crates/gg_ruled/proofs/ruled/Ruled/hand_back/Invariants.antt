use Rattle.std.proofs.Common.{◌≡◌, ◌+◌, ◌-◌, ◌++◌, take, drop}
use Rattle.std.specs.VecDeque.{deque_items, deque_len, deque_capacity}
use Rattle.crossbeam_queue.specs.Passes.{view, IsPassOf}
use Rattle.gg_ruled.specs.inside.Rule.{whole}
use Rattle.gg_ruled.proofs.ruled.Ruled.hand_back.Given as goal

abbrev pub invariant-loop-k : goal.invariant-loop-k
invariant-loop-k g l =
    (deque_items l.into ≡ deque_items l.initial.into ++ take (l._k - l.takes) (drop l.takes (view l.fn.put.pass).stream))
    × (deque_len l.into ≡ deque_len l.initial.into + (l._k - l.takes))
    × (deque_capacity l.into ≡ deque_capacity l.initial.into)
    × IsPassOf l.self.queue l.pass
    × (view l.pass ≡ whole (view l.fn.put.pass).stream (view l.fn.put.pass).capacity l.puts l._k)
