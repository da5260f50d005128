use Rattle.std.proofs.Common.{Some, None}
use Rattle.gg_lex.proofs.line.tokens.Goals as goal

pub returns-in-None-clause-only_tokens : goal.returns-in-None-clause-only_tokens
returns-in-None-clause-only_tokens c = λ ts tokens. (c.in-Ok.ensures.only ts None tokens).0

pub returns-in-None-clause-only_fault : goal.returns-in-None-clause-only_fault
returns-in-None-clause-only_fault c = λ ts place fails.
    let other = (c.in-Ok.ensures.only ts (Some place) fails).1 in
    cc (other, c.in-None.is)

pub returns-in-Some-clause-only_tokens : goal.returns-in-Some-clause-only_tokens
returns-in-Some-clause-only_tokens c = λ ts tokens.
    let other = (c.in-Ok.ensures.only ts None tokens).1 in
    cc (other, c.in-Some.is)

pub returns-in-Some-clause-only_fault : goal.returns-in-Some-clause-only_fault
returns-in-Some-clause-only_fault c = λ ts place fails.
    let other = (c.in-Ok.ensures.only ts (Some place) fails).1 in
    cc (other, c.in-Some.is)
