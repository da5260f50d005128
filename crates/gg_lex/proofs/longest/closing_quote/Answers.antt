use Rattle.std.proofs.Common.{rules}
use Rattle.gg_lex.proofs.Quotes.{quote_here, escape_here, plain_here, no_quote}
use Rattle.gg_lex.proofs.longest.closing_quote.Goals as goal

pub returns-in-34 : goal.returns-in-34
returns-in-34 c = quote_here _ _ c.loop-at-test.true c.loop-at.invariant c.in-34.is

pub loop-at-preserved-in-92 : goal.loop-at-preserved-in-92
loop-at-preserved-in-92 c = escape_here _ _ c.loop-at-test.true c.loop-at.invariant c.in-92.is

pub loop-at-preserved : goal.loop-at-preserved
loop-at-preserved c = plain_here _ _ c.loop-at-test.true c.loop-at.invariant (search rules) (search rules)

pub returns : goal.returns
returns c = no_quote _ _ c.loop-at-test.false c.loop-at.invariant
