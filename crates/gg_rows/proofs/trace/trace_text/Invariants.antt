use Rattle.std.proofs.Common.{◌≡◌, ◌++◌, codes, string_bytes}
use Rattle.std.specs.List.{range_with_len, flat_map}
use Rattle.gg_rows.specs.TraceText.{number_at, number_line}
use Rattle.gg_rows.proofs.trace.trace_text.Given as goal

abbrev pub invariant-loop-row : goal.invariant-loop-row
invariant-loop-row l = (string_bytes l.text ≡ codes "cycle x\n" ++ flat_map (number_line l.seed) (range_with_len 0 l.row-counter)) × (l.number ≡ number_at l.seed l.row-counter)
