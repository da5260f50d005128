use Rattle.gg_cut_split.proofs.TableLemmas.{NumberedTo}
use Rattle.gg_cut_split.proofs.tables.number_memories.Given as goal

abbrev pub invariant-loop-number : goal.invariant-loop-number
invariant-loop-number l = NumberedTo l.memories l.numbering.units l.number l.initial.found l.found
