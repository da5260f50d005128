use Rattle.std.proofs.Common.{◌≡◌, ℕ, ◌<◌}
use Rattle.gg_flat.specs.Line.{value_at}
use Rattle.gg_refsim.proofs.mono.read_outs.Given as goal

abbrev pub invariant-loop-k : goal.invariant-loop-k
invariant-loop-k l = (j : ℕ) → j < l.k → value_at l.outs j ≡ value_at l.signals (value_at l.places j)
