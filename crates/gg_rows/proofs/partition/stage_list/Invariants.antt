use Rattle.std.proofs.Common.{◌≡◌, ◌+◌, ◌*◌, map, string_bytes}
use Rattle.std.specs.List.{range_with_len}
use Rattle.gg_rows.specs.PartitionText.{quoted_stage}
use Rattle.gg_rows.proofs.partition.stage_list.Given as goal

abbrev pub invariant-loop-k : goal.invariant-loop-k
invariant-loop-k l = map string_bytes l.names.items ≡ map (λ k. quoted_stage (l.first + l.step * k)) (range_with_len 0 l.k)
