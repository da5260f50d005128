use Rattle.gg_cut_split.proofs.ClosedLemmas.ClosedLemmas.{closed, register-closed}
use Rattle.gg_cut_split.proofs.closed.laws.machine_closed.Goals as goal

pub returns-clause-drivers : goal.returns-clause-drivers
returns-clause-drivers c = λ design listed entries m s t is keeps apart low makes named. closed design.circuit design.tree listed entries is.formed keeps.fitting keeps.scoped apart m s t low makes named

pub returns-clause-registers : goal.returns-clause-registers
returns-clause-registers c = λ design listed entries m s r t register is keeps apart low makes held found named.
    register-closed design.circuit design.tree listed entries is.formed keeps.fitting keeps.scoped apart m s r t register low makes held found named
