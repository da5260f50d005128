use Rattle.gg_program.proofs.LawLemmas.{cone-once, cone-needs}
use Rattle.gg_program.proofs.laws.one_cone_value.Goals as goal

pub returns-clause-once : goal.returns-clause-once
returns-clause-once c = cone-once

pub returns-clause-needs : goal.returns-clause-needs
returns-clause-needs c = λ circuit state out inputs others value alike is. cone-needs circuit state inputs others out value alike is
