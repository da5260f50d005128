use Rattle.std.proofs.Common.{◌≡◌, ◌<◌, ◌∙◌, sym, ap, subst, arith}
use Rattle.std.specs.Char.{digit_value}
use Rattle.gg_types.proofs.LiteralLemmas.{digit-of_digit, digit-of_other}
use Rattle.gg_types.proofs.literals.digit_value.Goals as goal

pub returns-in-Some : goal.returns-in-Some
returns-in-Some c =
    let same : c.from.result ≡ c.args.byte = c.from.ensures in
    let small = subst (λ x. digit_value x < 16) same c.in-Some.ensures.value.0 in
    let is = ap digit_value same in
    c.from-in-Some.ensures ∙ c.in-Some.ensures.value.1 ∙ is ∙ sym (digit-of_digit c.args.byte (omega arith) small)

pub returns-in-None : goal.returns-in-None
returns-in-None c =
    let same : c.from.result ≡ c.args.byte = c.from.ensures in
    sym (digit-of_other c.args.byte (omega arith) (subst (λ x. ¬ (digit_value x < 16)) same c.in-None.ensures.value))
