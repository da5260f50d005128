use Rattle.gg_cut_routes.proofs.PlanLemmas.{plan-base}
use Rattle.gg_cut_routes.proofs.UnitLemmas.{ins-still, givens-still}
use Rattle.gg_cut_plan.specs.Direct.{hub_of}
use Rattle.gg_cut_routes.proofs.laws.units_still.Goals as goal

pub returns-clause-ins : goal.returns-clause-ins
returns-clause-ins c = λ design listed piped entries direct m is keeps apart other. ins-still (hub_of design.circuit design.tree listed piped entries direct) (plan-base design listed piped entries direct is keeps apart) m other

pub returns-clause-outs : goal.returns-clause-outs
returns-clause-outs c = λ design listed piped entries direct m s is keeps apart other. givens-still (hub_of design.circuit design.tree listed piped entries direct) (plan-base design listed piped entries direct is keeps apart) m other s
