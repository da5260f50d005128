use Rattle.std.proofs.Common.{◌≡◌, ℕ, ◌<◌, map, get_or}
use Rattle.gg_flat.specs.declared.piece.Driver.TheVariants.{Input}
use Rattle.gg_flat.specs.Circuit.{reader_at}
use Rattle.gg_flat.specs.WellFormed.{reader_driver}
use Rattle.gg_refsim.proofs.check_memory.are_driven.Given as goal

abbrev pub invariant-loop-r : goal.invariant-loop-r
invariant-loop-r l =
    (k : ℕ) → k < l.r → get_or (map (λ signal. signal.driver) l.signals) (reader_at l.readers k).word (Input 0) ≡ reader_driver l.latency l.m k (reader_at l.readers k)
