use Rattle.golden_commands.proofs.OpenLemmas.{HasListed}
use Rattle.golden_commands.proofs.ports.driven_by.Given as goal

abbrev pub invariant-loop-entry : goal.invariant-loop-entry
invariant-loop-entry l = HasListed (λ entry. entry.drives) l.bridges l.entry-index l.set
