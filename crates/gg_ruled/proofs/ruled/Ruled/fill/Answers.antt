use Rattle.std.proofs.Common.{slice_get, arith, ap, sym, ◌∙◌, ◌++◌, ◌∷◌, [], ◌≡◌, ◌+◌}
use Rattle.std.specs.VecDeque.{deque_items}
use Rattle.crossbeam_queue.specs.Passes.{view}
use Rattle.gg_link.proofs.StreamLemmas.{next_of}
use Rattle.gg_ruled.proofs.StepLemmas.{pushes, put_learns}
use Rattle.gg_ruled.proofs.ruled.Ruled.fill.Goals as goal

pub push_as-requires-clause-rule : goal.push_as-requires-clause-rule
push_as-requires-clause-rule g c =
    let inv = c.loop-value.invariant in
    let inv5 = inv.5 in
    let seat = c.loop-value.seat in
    let v = view seat.pass in
    let is : v.stream ≡ inv5.0 ++ (deque_items c.loop-value.held ++ inv5.1) = inv5.2 in
    let front : deque_items c.loop-value.held ≡ c.in-Some.value ∷ deque_items c.pop_front.new.self = c.in-Some.ensures.items in
    let step = next_of _ inv5.0 _ _ inv5.1 c.in-Some.value is front in (
      pushes _ _ v c.in-Some.value seat.roles.0 seat.roles.1 (inv.0.1 ∙ sym c.args.self.now.sized.0) (ap (λ k. slice_get v.stream k) (seat.counted ∙ sym inv5.3) ∙ step.0),
      put_learns _ v seat.roles.0,
    )

pub loop-value-preserved : goal.loop-value-preserved
loop-value-preserved g c =
    let inv = c.loop-value.invariant in
    let inv5 = inv.5 in
    let v = view c.loop-value.seat.pass in
    let w = c.in-Ok.ensures.rule in
    let q = c.push_as.ensures.queue in
    let is : v.stream ≡ inv5.0 ++ (deque_items c.loop-value.held ++ inv5.1) = inv5.2 in
    let front : deque_items c.loop-value.held ≡ c.in-Some.value ∷ deque_items c.pop_front.new.self = c.in-Some.ensures.items in
    let step = next_of _ inv5.0 _ _ inv5.1 c.in-Some.value is front in (
      ((q.0 ∙ inv.0.0.0, q.2 ∙ inv.0.0.1), ap (λ u. u.capacity) w ∙ inv.0.1),
      ap (λ u. u.stream) w ∙ inv.1,
      inv.2,
      (let b = inv.3 in let l = c.in-Some.ensures.len in omega arith),
      c.in-Some.ensures.capacity ∙ inv.4,
      (inv5.0 ++ c.in-Some.value ∷ [], inv5.1, ap (λ u. u.stream) w ∙ step.1, step.2 ∙ ap (λ n. n + 1) inv5.3),
    )
