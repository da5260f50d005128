use Rattle.gg_cut_plan.specs.Direct.{hub_of}
use Rattle.gg_cut_reference.specs.Made.{holder_of, keeper_of}
use Rattle.gg_cut_reference.proofs.NothingLemmas.{nothing-piped, plan-plain}
use Rattle.gg_cut_reference.proofs.laws.nothing_piped.Goals as goal

pub returns-clause-cut : goal.returns-clause-cut
returns-clause-cut c = λ circuit tree listed piped entries direct none.
    nothing-piped (hub_of circuit tree listed piped entries direct) (holder_of (hub_of circuit tree listed piped entries direct)) (keeper_of tree listed) none

pub returns-clause-request : goal.returns-clause-request
returns-clause-request c = λ design request none. plan-plain design request none
