use Rattle.std.proofs.Common.{◌≡◌, ◌++◌, drop, decimal, string_bytes}
use Rattle.gg_trace.specs.Printing.{values_text}
use Rattle.gg_trace.proofs.printing.row_text.Given as goal

abbrev pub invariant-loop-i : goal.invariant-loop-i
invariant-loop-i l = string_bytes l.text ++ values_text (drop l.i l.ports) (drop l.i l.values) ≡ decimal l.row ++ values_text l.ports l.values
