use Rattle.std.proofs.Common.{◌+◌, arith, ap, ◌∙◌}
use Rattle.std.proofs.lemmas.Option.{slice_get_within}
use Rattle.crossbeam_queue.specs.Passes.{view}
use Rattle.gg_ruled.proofs.StepLemmas.{pops, take_learns}
use Rattle.gg_ruled.proofs.ruled.Ruled.try_take.Goals as goal

pub pop_as-requires-clause-rule : goal.pop_as-requires-clause-rule
pop_as-requires-clause-rule g c =
    let seat = c.args.seat.now in
    let v = view seat.pass in (pops _ v seat.roles.0, take_learns _ v seat.roles.0)

pub invariant_of-seat : goal.invariant_of-seat
invariant_of-seat g c =
    let seat = c.args.seat.now in
    let v = view seat.pass in
    let is = c.in-Some.ensures.rule.0 in
    let o = seat.order in
    let more = slice_get_within v.stream v.taken c.in-Some.value c.in-Some.ensures.rule.1 in
    let n = seat.counted in
    record {
      roles = (ap (λ w. w.takes) is ∙ seat.roles.0, ap (λ w. w.puts) is ∙ seat.roles.1);
      counted = rw is (ap (λ k. k + 1) seat.counted);
      order = (omega arith, rw is o.1, rw is (omega arith));
    }
