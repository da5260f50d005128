use Rattle.std.proofs.Common.{◌≡◌, take}
use Rattle.gg_elab_sites.proofs.counts.copy_of.Given as goal

abbrev pub invariant-loop-value : goal.invariant-loop-value
invariant-loop-value l = l.copy.items ≡ take l.value-index l.values
