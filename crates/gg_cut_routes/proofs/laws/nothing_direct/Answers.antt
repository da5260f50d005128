use Rattle.std.proofs.Common.{◌∙◌, ap}
use Rattle.gg_cut_plan.specs.Listed.{listed_of}
use Rattle.gg_cut_plan.specs.Direct.{hub_of, routes, is_piped}
use Rattle.gg_cut_routes.proofs.NothingLemmas.{nothing-gone, plain-routes}
use Rattle.gg_cut_routes.proofs.laws.nothing_direct.Goals as goal

pub returns-clause-channels : goal.returns-clause-channels
returns-clause-channels c = plain-routes

pub returns-clause-stays : goal.returns-clause-stays
returns-clause-stays c = nothing-gone

pub returns-clause-plan : goal.returns-clause-plan
returns-clause-plan c = λ circuit tree request off.
    ap (λ direct. routes (hub_of circuit tree (listed_of tree request) (is_piped circuit request) request.bridges direct)) off ∙ plain-routes circuit tree (listed_of tree request) (is_piped circuit request) request.bridges
