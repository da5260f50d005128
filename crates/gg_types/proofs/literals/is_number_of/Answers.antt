use Rattle.std.proofs.Common.{arith}
use Rattle.gg_types.proofs.LiteralLemmas.{natural_unsigned_test, natural_signed_test, negative_signed_test}
use Rattle.gg_types.proofs.literals.is_number_of.Goals as goal

pub returns-else-width-eq128-clause-exact : goal.returns-else-width-eq128-clause-exact
returns-else-width-eq128-clause-exact c =
    natural_unsigned_test c.args.kind c.args.width c.args.size c.args.negative c.in-UInt-2.is c.if-negative.false (omega (arith, c.if-width-eq128.false))

pub returns-in-SInt-clause-exact : goal.returns-in-SInt-clause-exact
returns-in-SInt-clause-exact c =
    negative_signed_test c.args.kind c.args.width c.args.size c.args.negative c.in-SInt.is c.if-negative-2.true c.requires.positive c.requires.bounded

pub returns-in-SInt-2-clause-exact : goal.returns-in-SInt-2-clause-exact
returns-in-SInt-2-clause-exact c =
    natural_signed_test c.args.kind c.args.width c.args.size c.args.negative c.in-SInt-2.is c.if-negative-2.false c.requires.positive c.requires.bounded
