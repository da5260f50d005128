use Rattle.std.proofs.Common.{◌≤◌, ◌^◌, ℕ, List, sym, ap, ◌∙◌, arith}
use Rattle.std.proofs.Math.Nat.{pow-le-pow_right}
use Rattle.gg_types.specs.Literal.{base, digits_number, signed_number, is_number_of}
use Rattle.gg_types.proofs.LiteralLemmas.{too_large, literal_shape-none, literal-no_other}
use Rattle.gg_types.proofs.literals.literal.Goals as goal

pub returns-in_default-clause-none : goal.returns-in_default-clause-none
returns-in_default-clause-none c =
    let l = c.args.constant.now in
    let same = ap (λ (r : ℕ). digits_number r c.as_bytes.result.now) c.radix_base.ensures.exact ∙ ap (λ (d : List ℕ). digits_number (base l.radix) d) c.as_bytes.ensures in
    let few : 2 ^ l.width ≤ 2 ^ 128 = pow-le-pow_right {n = 2} (omega arith) {i = l.width} {j = 128} (omega arith) in
    literal_shape-none l (too_large l.kind l.width (digits_number (base l.radix) l.digits) l.negative (omega arith) (omega (arith, few, same, c.in_default.ensures.none)))

pub returns-in_default-clause-no_other : goal.returns-in_default-clause-no_other
returns-in_default-clause-no_other c = λ wide p small is.
    let l = c.args.constant.now in
    let same = ap (λ (r : ℕ). digits_number r c.as_bytes.result.now) c.radix_base.ensures.exact ∙ ap (λ (d : List ℕ). digits_number (base l.radix) d) c.as_bytes.ensures in
    let few : 2 ^ l.width ≤ 2 ^ 128 = pow-le-pow_right {n = 2} (omega arith) {i = l.width} {j = 128} (omega arith) in
    literal-no_other l (too_large l.kind l.width (digits_number (base l.radix) l.digits) l.negative (omega arith) (omega (arith, few, same, c.in_default.ensures.none))) p small is

pub returns-then-not-is_number_of-clause-no_other : goal.returns-then-not-is_number_of-clause-no_other
returns-then-not-is_number_of-clause-no_other c = λ wide p small is.
    let l = c.args.constant.now in
    let spelt = c.in-Some.ensures.some ∙ ap (λ (r : ℕ). digits_number r c.as_bytes.result.now) c.radix_base.ensures.exact ∙ ap (λ (d : List ℕ). digits_number (base l.radix) d) c.as_bytes.ensures in
    let own = ap (λ (m : ℕ). is_number_of l.kind l.width (signed_number l.negative m)) (sym spelt) in
    literal-no_other l (own ∙ sym c.is_number_of.ensures.exact ∙ c.if-not-is_number_of.true) p small is
