use Rattle.std.proofs.Common.{ap}
use Rattle.crossbeam_queue.specs.Passes.{view}
use Rattle.gg_ruled.proofs.StepLemmas.{joins, splits_again}
use Rattle.gg_ruled.proofs.ruled.Ruled.settle.Goals as goal

pub absorb-requires-clause-rule : goal.absorb-requires-clause-rule
absorb-requires-clause-rule g c = joins _ (view c.args.put.pass) _ (view c.args.take.pass) c.args.put.roles.0 c.args.take.roles.0

pub another-other-requires-clause-rule : goal.another-other-requires-clause-rule
another-other-requires-clause-rule g c =
    let is = c.absorb.ensures.rule in
    splits_again _ (view c.absorb.new.pass) (ap (λ v. v.puts) is) (ap (λ v. v.takes) is)
