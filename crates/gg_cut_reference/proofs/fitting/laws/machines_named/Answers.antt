use Rattle.gg_cut_reference.proofs.FittingLemmas.NameLemmas.{names-count, source-named, output-named, stop-named, bridge-named}
use Rattle.gg_cut_reference.proofs.fitting.laws.machines_named.Goals as goal

pub returns-clause-total : goal.returns-clause-total
returns-clause-total c = λ design request. names-count design request

pub returns-clause-source : goal.returns-clause-source
returns-clause-source c = λ design request p lt none. source-named design request p lt none

pub returns-clause-output : goal.returns-clause-output
returns-clause-output c = λ design request p lt less none. output-named design request p lt less none

pub returns-clause-stop : goal.returns-clause-stop
returns-clause-stop c = λ design request p lt ge none. stop-named design request p lt ge none

pub returns-clause-bridge : goal.returns-clause-bridge
returns-clause-bridge c = λ design request k lt. bridge-named design request k lt
