use Rattle.std.proofs.Common.{ap, arith, ◌∙◌, sym, ◌≡◌, slice_get, Some}
use Rattle.std.proofs.lemmas.Option.{get_or_from_slice_get, slice_get_within}
use Rattle.gg_ruled.specs.inside.Rule.{has_taken}
use Rattle.gg_link.proofs.StreamLemmas.{one_more, pushed_behind}
use Rattle.crossbeam_queue.specs.Passes.{view}
use Rattle.gg_ruled.proofs.StepLemmas.{joins, pops, take_learns}
use Rattle.gg_ruled.proofs.ruled.Ruled.hand_back.Goals as goal

pub absorb-requires-clause-rule : goal.absorb-requires-clause-rule
absorb-requires-clause-rule g c = joins _ (view c.args.put.pass) _ (view c.args.take.pass) c.args.put.roles.0 c.args.take.roles.0

pub pop_as-requires-clause-rule : goal.pop_as-requires-clause-rule
pop_as-requires-clause-rule g c =
    let is = c.loop-k.invariant.4 in
    let v = view c.loop-k.pass in (pops _ v (ap (λ w. w.takes) is), take_learns _ v (ap (λ w. w.takes) is))

pub loop-k-preserved : goal.loop-k-preserved
loop-k-preserved g c =
    let put = c.args.put in
    let take = c.args.take in
    let stream = (view put.pass).stream in
    let inv = c.loop-k.invariant in
    let is = inv.4 in
    let told = c.in-Some.ensures.rule in
    let at : slice_get stream c.loop-k._k ≡ Some c.in-Some.value = ap (λ w. slice_get w.stream w.taken) (sym is) ∙ told.1 in
    let inside = slice_get_within stream c.loop-k._k c.in-Some.value at in
    let from = c.loop-k.auto._k in
    let more = one_more stream take.takes c.loop-k._k c.in-Some.value from inside (sym (get_or_from_slice_get stream c.loop-k._k c.in-Some.value 0 at)) in
    let pushed = c.push_back_reserved.ensures in
    let q = c.pop_as.ensures.queue in (
      pushed_behind _ _ _ _ _ _ pushed.items inv.0 more,
      (let p = pushed.len in let i = inv.1 in omega arith),
      pushed.capacity ∙ inv.2,
      (q.0 ∙ inv.3.0, q.2 ∙ inv.3.1),
      told.0 ∙ ap has_taken is,
    )
