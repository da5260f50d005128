use Rattle.std.proofs.Common.{arith}
use Rattle.gg_words.proofs.NumberLaws.{parse-refuses}
use Rattle.gg_words.proofs.numbers.number_in.Goals as goal

pub returns-in_default-3 : goal.returns-in_default-3
returns-in_default-3 c = parse-refuses c.args.least c.args.most c.args.text.now c.in_default.field-0 c.ranges.most.fits (grind (arith, c.if-not-are_digits.false)) (rw c.in_default.is at c.parse.ensures.value.0)
