use Rattle.std.proofs.Common.{◌∷◌, codes, length}
use Rattle.gg_trace.proofs.HeaderLaws.{ReadsNames}
use Rattle.gg_trace.proofs.heading.take_names.Given as goal

abbrev pub invariant-loop-name : goal.invariant-loop-name
invariant-loop-name l = ReadsNames l.table (codes "cycle" ∷ l.initial.rest) l.rest l.places.items l.named.items

abbrev pub decreases-loop-name : goal.decreases-loop-name
decreases-loop-name l = length l.rest
