use Rattle.std.proofs.Common.{◌↔◌, length}
use Rattle.gg_lex.specs.Lines.{IsEnd}
use Rattle.gg_lex.proofs.ends.is_end.Given as goal

abbrev pub invariant-loop-length : goal.invariant-loop-length
invariant-loop-length l = IsEnd l.bytes ↔ IsEnd l.rest

abbrev pub decreases-loop-length : goal.decreases-loop-length
decreases-loop-length l = length l.rest
