use Rattle.gg_cut_split.proofs.TableLemmas.{ClaimedTo}
use Rattle.gg_cut_split.proofs.tables.claim.Given as goal

abbrev pub invariant-loop-signal : goal.invariant-loop-signal
invariant-loop-signal l = ClaimedTo l.first l.signal l.number l.initial.owners l.owners
