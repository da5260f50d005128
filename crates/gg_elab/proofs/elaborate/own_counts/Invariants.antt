use Rattle.std.proofs.Common.{◌≡◌, length, map, take}
use Rattle.gg_elab.proofs.elaborate.own_counts.Given as goal

abbrev pub invariant-loop-digest : goal.invariant-loop-digest
invariant-loop-digest l = l.counts.items ≡ map (λ d. length d.signals.items) (take l.digest-index l.digests)
