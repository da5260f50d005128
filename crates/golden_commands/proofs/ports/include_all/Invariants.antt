use Rattle.golden_commands.proofs.OpenLemmas.{HasMore}
use Rattle.golden_commands.proofs.ports.include_all.Given as goal

abbrev pub invariant-loop-name : goal.invariant-loop-name
invariant-loop-name l = HasMore l.initial.set l.names l.name-index l.set
