use Rattle.gg_build.proofs.PlanLemmas.LayoutLemmas.{plan-layout}
use Rattle.gg_build.proofs.plan.layout.plan_has_layout.Goals as goal

pub returns : goal.returns
returns c =
    record {
      layout = λ design request models default plan columns n start rows given token starts machines built. plan-layout design request models default plan columns n start rows token starts machines given built;
    }
