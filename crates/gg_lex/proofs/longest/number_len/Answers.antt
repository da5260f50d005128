use Rattle.gg_lex.proofs.Numbers.{with_radix, without_radix}
use Rattle.gg_lex.proofs.longest.number_len.Goals as goal

pub returns-in-Some : goal.returns-in-Some
returns-in-Some c = with_radix c.args.bytes.now _ c.in-Some.ensures

pub returns-in-None : goal.returns-in-None
returns-in-None c = without_radix c.args.bytes.now _ c.in-None.ensures c.decimal_len.ensures
