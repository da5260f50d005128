use Rattle.std.proofs.Common.{slice_get, ◌+◌, arith, ap, sym, ◌∙◌}
use Rattle.std.proofs.lemmas.Option.{slice_get_within}
use Rattle.crossbeam_queue.specs.Passes.{view}
use Rattle.gg_ruled.proofs.StepLemmas.{pushes, put_learns}
use Rattle.gg_ruled.proofs.ruled.Ruled.try_put.Goals as goal

pub push_as-requires-clause-rule : goal.push_as-requires-clause-rule
push_as-requires-clause-rule g c =
    let seat = c.args.seat.now in
    let v = view seat.pass in (
      pushes _ _ v c.args.value seat.roles.0 seat.roles.1 (c.requires.seat.1 ∙ sym c.args.self.now.sized.0) (ap (λ k. slice_get v.stream k) seat.counted ∙ c.requires.value),
      put_learns _ v seat.roles.0,
    )

pub invariant_of-seat : goal.invariant_of-seat
invariant_of-seat g c =
    let seat = c.args.seat.now in
    let v = view seat.pass in
    let is = c.in-Ok.ensures.rule in
    let o = seat.order in
    let more = slice_get_within v.stream seat.puts c.args.value c.requires.value in
    record {
      roles = (ap (λ w. w.puts) is ∙ seat.roles.0, ap (λ w. w.takes) is ∙ seat.roles.1);
      counted = rw is (ap (λ k. k + 1) seat.counted);
      order = (omega arith, rw is o.1, rw is (omega arith));
    }
