use Rattle.std.proofs.Common.{get_or, refl, arith}
use Rattle.gg_types.proofs.LiteralLemmas.{digits_number-next}
use Rattle.gg_types.proofs.literals.digits_number.Goals as goal

pub returns-in_default-clause-none : goal.returns-in_default-clause-none
returns-in_default-clause-none c =
    let next = digits_number-next c.args.radix c.loop-byte.number c.loop-byte.byte-index (get_or c.args.digits.now c.loop-byte.byte-index 0) c.args.digits.now (omega arith) (omega arith) c.loop-byte.invariant refl in
    omega (arith, next, c.in_default.ensures.none, c.digit_value.ensures)
