use Rattle.golden.proofs.FrontLemmas.{unread-once}
use Rattle.golden_commands.proofs.PartitionLemmas.{designs-agree}
use Rattle.golden.proofs.RunLemmas.{order-exact, order-unique}
use Rattle.golden.proofs.laws.refusals_are_exact.Goals as goal

pub returns-clause-exact : goal.returns-clause-exact
returns-clause-exact c = λ models.
    let d = c.one_meaning.ensures in
    let s = c.one_snapshot.ensures in
    order-exact models (designs-agree d.flat d.tree) c.one_answer.ensures.apart c.one_answer.ensures.key
    d.flat c.one_first_fault.ensures.once c.one_first_fault.ensures.apart c.plans_can_save.ensures s.apart s.cycle s.first c.faults_apart.ensures.accepted

pub returns-clause-unique : goal.returns-clause-unique
returns-clause-unique c = λ models.
    let d = c.one_meaning.ensures in
    let s = c.one_snapshot.ensures in
    order-unique models (designs-agree d.flat d.tree) c.one_answer.ensures.apart c.one_answer.ensures.key
    d.flat c.one_first_fault.ensures.once c.one_first_fault.ensures.apart c.plans_can_save.ensures s.apart s.cycle s.first

pub returns-clause-unread : goal.returns-clause-unread
returns-clause-unread c = unread-once c.one_fault_line.ensures c.faults_apart.ensures.read
