use Rattle.std.proofs.Common.{◌∙◌}
use Rattle.std.proofs.lemmas.Result.{IfOk-weaker}
use Rattle.gg_rows.proofs.DigitLemmas.{eight-digits}
use Rattle.gg_rows.proofs.digits.eight_digits.Goals as goal

pub returns : goal.returns
returns c = IfOk-weaker c.format.result _ _ (λ text e. rw (c.in_radix.ensures, c.laid_out.ensures) at e ∙ eight-digits c.args.value) c.format.ensures.ok
