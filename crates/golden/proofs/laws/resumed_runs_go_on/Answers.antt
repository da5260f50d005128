use Rattle.golden_commands.proofs.PartitionLemmas.{designs-agree}
use Rattle.golden.proofs.SuffixLemmas.{can-resume, goes-on, runs-go-on}
use Rattle.golden.proofs.laws.resumed_runs_go_on.Goals as goal

pub returns-clause-runs : goal.returns-clause-runs
returns-clause-runs c = λ design one other models columns n at rows rest is keeps held all faultless none alone lone pipes ratios run le own.
    runs-go-on design one other is keeps all faultless none pipes ratios held alone lone models columns n at rows rest run le own

pub returns-clause-accepted : goal.returns-clause-accepted
returns-clause-accepted c = λ models circuit partition cut trace snap one other at saved fits asks own pipes.
    let d = c.one_meaning.ensures in
    can-resume models (designs-agree d.flat d.tree) one other at saved.0 saved.1 saved.2 saved.3 saved.4 fits asks own pipes

pub returns-clause-texts : goal.returns-clause-texts
returns-clause-texts c = λ models circuit partition cut trace snap text whole one other at saved fits asks own pipes ratios resumed runs.
    let d = c.one_meaning.ensures in
    goes-on models (designs-agree d.flat d.tree) one other at saved.0 saved.1 saved.2 saved.3 saved.4 fits asks own pipes ratios text whole resumed runs
