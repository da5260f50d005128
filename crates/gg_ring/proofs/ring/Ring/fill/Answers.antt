use Rattle.std.proofs.Common.{arith, ap, sym, ◌∙◌, ◌++◌, ◌∷◌, [], ◌≡◌, ◌+◌}
use Rattle.std.specs.VecDeque.{deque_items}
use Rattle.gg_link.proofs.StreamLemmas.{next_of}
use Rattle.gg_ring.proofs.ring.Ring.fill.Goals as goal

pub loop-value-preserved : goal.loop-value-preserved
loop-value-preserved c =
    let inv = c.loop-value.invariant in
    let inv5 = inv.5 in
    let is : c.loop-value.seat.seat.me.0.stream ≡ inv5.0 ++ (deque_items c.loop-value.held ++ inv5.1) = inv5.2 in
    let front : deque_items c.loop-value.held ≡ c.in-Some.value ∷ deque_items c.pop_front.new.self = c.in-Some.ensures.items in
    let step = next_of _ inv5.0 _ _ inv5.1 c.in-Some.value is front in (
      c.store_value.ensures.seat.0,
      c.store_value.ensures.seat.1 ∙ inv.1,
      c.store_value.ensures.counts.1 ∙ inv.2,
      (let a = c.store_value.ensures.counts.0 in let b = inv.3 in let l = c.in-Some.ensures.len in omega arith),
      c.in-Some.ensures.capacity ∙ inv.4,
      (inv5.0 ++ c.in-Some.value ∷ [], inv5.1, c.store_value.ensures.seat.1 ∙ step.1, step.2 ∙ ap (λ n. n + 1) inv5.3 ∙ sym c.store_value.ensures.counts.0),
    )
