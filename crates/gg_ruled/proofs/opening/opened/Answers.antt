use Rattle.std.proofs.Common.{ap}
use Rattle.crossbeam_queue.specs.Passes.{view}
use Rattle.gg_ruled.proofs.StepLemmas.{opens, splits}
use Rattle.gg_ruled.proofs.opening.opened.Goals as goal

pub ruled-requires-clause-rule : goal.ruled-requires-clause-rule
ruled-requires-clause-rule g c = opens

pub another-other-requires-clause-rule : goal.another-other-requires-clause-rule
another-other-requires-clause-rule g c =
    let is = c.in-Ok.ensures.3 in
    splits _ (view c.in-Ok.pass) g.K.Chosen.chosen g.K.Chosen.places (ap (λ v. v.puts) is) (ap (λ v. v.takes) is) (ap (λ v. v.put) is)
