use Rattle.gg_elab_sites.proofs.PassLemmas.{IsGathered}
use Rattle.gg_elab_sites.proofs.pass.gather.Given as goal

abbrev pub invariant-loop-module : goal.invariant-loop-module
invariant-loop-module l = IsGathered l.how l.circuit.modules l.initial.values.items l.order l.module-index l.values.items
