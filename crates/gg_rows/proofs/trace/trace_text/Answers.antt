use Rattle.std.proofs.Common.{◌≡◌, ◌+◌, suc, arith, ap, ◌∙◌, ◌++◌, codes, decimal, string_bytes}
use Rattle.gg_rows.specs.TraceText.{eight_digits, next_number, number_at, number_line}
use Rattle.gg_rows.proofs.RangeLemmas.{line-more}
use Rattle.gg_rows.proofs.trace.trace_text.Goals as goal

pub loop-row-preserved : goal.loop-row-preserved
loop-row-preserved c =
    let row = c.loop-row.row-counter in
    let one : row + 1 ≡ suc row = omega arith in
    let place : 0 + row ≡ row = omega arith in
    let digits : string_bytes c.in_ok-digits.digits ≡ eight_digits (number_at c.args.seed row) = c.in_ok-digits.ensures ∙ ap eight_digits (c.from.ensures ∙ c.loop-row.invariant.1) in
    let line : string_bytes c.in_ok-line.line ≡ number_line c.args.seed row = c.in_ok-line.ensures.ok ∙ ap (λ t. decimal row ++ (codes " " ++ (t ++ codes "\n"))) digits in (
      line-more (number_line c.args.seed) 0 row _ row (codes "cycle x\n") _ _ _ c.loop-row.invariant.0 one place line
          (c.in_ok-push_str.ensures.bytes ∙ ap (λ t. string_bytes c.loop-row.text ++ t) c.as_str.ensures.value),
      c.next_number-number.ensures ∙ ap next_number c.loop-row.invariant.1 ∙ ap (number_at c.args.seed) (let e : suc row ≡ row + 1 = omega arith in e),
    )
