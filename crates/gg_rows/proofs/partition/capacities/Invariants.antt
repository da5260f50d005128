use Rattle.std.proofs.Common.{◌≡◌, ◌++◌, codes, string_bytes}
use Rattle.std.specs.List.{range_with_len, flat_map}
use Rattle.gg_rows.specs.PartitionText.{stage_capacities}
use Rattle.gg_rows.proofs.partition.capacities.Given as goal

abbrev pub invariant-loop-i : goal.invariant-loop-i
invariant-loop-i l = string_bytes l.text ≡ codes "{\"x\":1,\"y\":1,\"z\":1" ++ flat_map stage_capacities (range_with_len 0 l.i-counter)
