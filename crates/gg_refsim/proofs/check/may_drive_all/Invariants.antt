use Rattle.std.proofs.Common.{ℕ, ◌<◌}
use Rattle.gg_flat.specs.Circuit.{driver_at}
use Rattle.gg_flat.specs.WellFormed.{MayDrive}
use Rattle.gg_refsim.proofs.check.may_drive_all.Given as goal

abbrev pub invariant-loop-s : goal.invariant-loop-s
invariant-loop-s l = (i : ℕ) → i < l.s → MayDrive l.piece i (driver_at l.piece i)
