use Rattle.std.proofs.lemmas.List.{take_rest}
use Rattle.gg_lex.proofs.Numbers.{unsigned_front, signed_decimal, no_signed_decimal}
use Rattle.gg_lex.proofs.longest.decimal_len.Goals as goal

pub returns-then-bytes-ne45 : goal.returns-then-bytes-ne45
returns-then-bytes-ne45 c = unsigned_front c.args.bytes.now _ c.requires c.if-bytes-ne45.true c.some_run_len.ensures

pub returns-in-Some : goal.returns-in-Some
returns-in-Some c =
    signed_decimal c.args.bytes.now _ c.requires c.if-bytes-ne45.false (simp take_rest at c.in-Some.ensures)

pub returns-in-None : goal.returns-in-None
returns-in-None c =
    no_signed_decimal c.args.bytes.now c.requires c.if-bytes-ne45.false (simp take_rest at c.in-None.ensures)
