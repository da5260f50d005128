use Rattle.std.proofs.Common.{ℕ, ◌<◌, length}
use Rattle.gg_flat.specs.Line.{value_at}
use Rattle.gg_refsim.proofs.check.are_outs.Given as goal

abbrev pub invariant-loop-out : goal.invariant-loop-out
invariant-loop-out l = (i : ℕ) → i < l.out-index → value_at l.piece.outs i < length l.piece.signals
