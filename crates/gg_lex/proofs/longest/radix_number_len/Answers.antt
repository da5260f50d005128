use Rattle.std.proofs.Common.{sym}
use Rattle.std.proofs.lemmas.List.{take_rest}
use Rattle.gg_lex.proofs.Numbers.{radix_front, no_radix_digits}
use Rattle.gg_lex.proofs.longest.radix_number_len.Goals as goal

pub returns-in-Some : goal.returns-in-Some
returns-in-Some c = radix_front c.args.bytes.now _ _ _ (sym c.in_ok-head.ensures) (simp take_rest at c.in-Some.ensures)

pub returns-in-None : goal.returns-in-None
returns-in-None c = no_radix_digits c.args.bytes.now _ _ (sym c.in_ok-head.ensures) (simp take_rest at c.in-None.ensures)
