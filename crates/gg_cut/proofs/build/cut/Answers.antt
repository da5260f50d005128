use Rattle.gg_cut.proofs.PlanLemmas.{plan-same}
use Rattle.gg_cut.proofs.build.cut.Goals as goal

pub returns-clause-plan : goal.returns-clause-plan
returns-clause-plan c =
    let draft = c.in_ok-draft.draft in
    let same = c.in_ok-draft.ensures in
    plan-same draft c.args.design.now c.args.request.now c.args.models.now c.args.default_capacity c.in_ok-plan.plan same.design same.request same.models same.capacity c.in_ok-plan.ensures.plan
