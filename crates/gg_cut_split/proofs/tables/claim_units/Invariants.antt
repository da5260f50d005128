use Rattle.gg_cut_split.proofs.TableLemmas.{OwnedTo}
use Rattle.gg_cut_split.proofs.tables.claim_units.Given as goal

abbrev pub invariant-loop-number : goal.invariant-loop-number
invariant-loop-number l = OwnedTo l.tree l.units l.number l.initial.owners l.owners
