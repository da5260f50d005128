use Rattle.std.proofs.Common.{◌≡◌, ◌∙◌, sym, ap, true}
use Rattle.gg_ast.specs.declared.expression.Radix.TheVariants.{Decimal}
use Rattle.gg_read_row.specs.Forms.{are_digits}
use Rattle.gg_read_row.proofs.DigitRuns.{natural_parsed}
use Rattle.gg_read_row.proofs.digits.natural_value.Goals as goal

pub returns : goal.returns
returns c =
    let digits : are_digits Decimal c.args.digits.now ≡ true =
    ap (are_digits Decimal) (sym c.as_bytes.ensures.value) ∙ sym c.are_digits.ensures ∙ c.if-not-are_digits.false in
    c.ok.ensures.value ∙ natural_parsed c.args.digits.now c.parse.result digits c.parse.ensures.value.0
