use Rattle.std.proofs.Common.{ℕ, ◌<◌, ◌^◌, [], length, slice_index_or}
use Rattle.gg_cut_parts.proofs.domains.check_few.Given as goal

abbrev pub invariant-loop-own : goal.invariant-loop-own
invariant-loop-own l = (k : ℕ) → k < l.own-index → length (slice_index_or l.clocks k []) < 2 ^ 32
