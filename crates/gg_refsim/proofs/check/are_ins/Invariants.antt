use Rattle.std.proofs.Common.{◌≡◌, ℕ, ◌<◌, length}
use Rattle.gg_flat.specs.declared.piece.Driver.TheVariants.{Input}
use Rattle.gg_flat.specs.Line.{value_at}
use Rattle.gg_flat.specs.Circuit.{driver_at}
use Rattle.gg_refsim.proofs.check.are_ins.Given as goal

abbrev pub invariant-loop-place : goal.invariant-loop-place
invariant-loop-place l =
    (i : ℕ) → i < l.place → (value_at l.piece.ins i < length l.piece.signals) × (driver_at l.piece (value_at l.piece.ins i) ≡ Input i)
