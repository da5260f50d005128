use Rattle.gg_snap.proofs.StandLemmas.{inside}
use Rattle.gg_snap.proofs.TokenLemmas.{everything}
use Rattle.gg_snap.proofs.laws.networks_hold_states.Goals as goal

pub returns-clause-inside : goal.returns-clause-inside
returns-clause-inside c = λ plan start columns n flow run net none fresh kept stand. inside plan start columns n flow run none net kept stand fresh

pub returns-clause-all : goal.returns-clause-all
returns-clause-all c = λ plan start columns n flow run net none fresh held kept stand. everything plan start columns n flow run none net kept stand fresh held
