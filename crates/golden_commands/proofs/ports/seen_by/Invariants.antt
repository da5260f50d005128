use Rattle.golden_commands.proofs.OpenLemmas.{HasListed}
use Rattle.golden_commands.proofs.ports.seen_by.Given as goal

abbrev pub invariant-loop-entry : goal.invariant-loop-entry
invariant-loop-entry l = HasListed (λ entry. entry.sees) l.bridges l.entry-index l.set
