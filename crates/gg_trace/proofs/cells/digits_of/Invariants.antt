use Rattle.std.proofs.Common.{drop}
use Rattle.gg_trace.proofs.DigitLaws.{ReadsDigits}
use Rattle.gg_trace.proofs.cells.digits_of.Given as goal

abbrev pub invariant-loop-byte : goal.invariant-loop-byte
invariant-loop-byte l = ReadsDigits l.field (drop l.byte-index l.field) l.value
