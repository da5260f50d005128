use Rattle.std.proofs.Common.{◌+◌, ◌-◌, length}
use Rattle.gg_lex.proofs.Quotes.{QuotedBefore}
use Rattle.gg_lex.proofs.longest.closing_quote.Given as goal

abbrev pub invariant-loop-at : goal.invariant-loop-at
invariant-loop-at l = QuotedBefore l.bytes l.at

abbrev pub decreases-loop-at : goal.decreases-loop-at
decreases-loop-at l = length l.bytes + 1 - l.at
