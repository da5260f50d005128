use Rattle.std.proofs.Common.{ℕ, ◌<◌}
use Rattle.gg_flat.specs.Circuit.{driver_at, readers_at, latency_at}
use Rattle.gg_flat.specs.WellFormed.{AreDriven}
use Rattle.gg_refsim.proofs.check_memory.are_read.Given as goal

abbrev pub invariant-loop-m : goal.invariant-loop-m
invariant-loop-m l = (k : ℕ) → k < l.m → AreDriven (driver_at l.piece) k (latency_at l.piece k) (readers_at l.piece k)
