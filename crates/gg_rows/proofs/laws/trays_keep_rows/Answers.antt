use Rattle.gg_rows.proofs.TrayKeepLemmas.{trays-keep, trays-only}
use Rattle.gg_rows.proofs.laws.trays_keep_rows.Goals as goal

pub returns-clause-keep : goal.returns-clause-keep
returns-clause-keep c = λ plan start columns n flow run opening net upto t opens later same stand from done near.
    trays-keep plan start columns n flow run opening opens net later same upto t stand from done near

pub returns-clause-only : goal.returns-clause-only
returns-clause-only c = λ plan start columns n flow run opening t values opens few keep. trays-only plan start columns n flow run opening opens t values few keep
