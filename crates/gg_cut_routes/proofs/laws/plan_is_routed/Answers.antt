use Rattle.gg_cut_routes.proofs.RoutedLemmas.{plan-routed}
use Rattle.gg_cut_routes.proofs.laws.plan_is_routed.Goals as goal

pub returns : goal.returns
returns c = plan-routed
