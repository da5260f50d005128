use Rattle.std.proofs.Common.{◌≡◌, ◌<◌, ◌+◌, ℕ, List, ◌∷◌, length, drop, get_or, Option, refl, ap, ◌∙◌, arith, subst}
use Rattle.std.specs.Char.{digit_value}
use Rattle.gg_trace.specs.inside.Cells.{AppendsDigit}
use Rattle.std.proofs.lemmas.Bool.Decides.{nat_tests}
use Rattle.std.proofs.lemmas.List.{drop_more, drop_all}
use Rattle.gg_trace.proofs.DigitLaws.{ReadsDigits, reads_nothing, reads_digit, reads_all, not_hexadecimal, empty_not_hexadecimal}
use Rattle.gg_trace.proofs.cells.digits_of.Goals as goal

pub returns-then-is_empty : goal.returns-then-is_empty
returns-then-is_empty c =
    let none : length c.args.field.now ≡ 0 = grind (arith, nat_tests) in
    (refl, empty_not_hexadecimal c.args.field.now none)

at_byte : (field : List ℕ) (i : ℕ) (value : Option ℕ) → i < length field → ReadsDigits field (drop i field) value → ReadsDigits field (get_or field i 0 ∷ drop (i + 1) field) value
at_byte field i value h reads = subst (λ rest. ReadsDigits field rest value) (drop_more field i 0 h) reads

pub loop-byte-init : goal.loop-byte-init
loop-byte-init c = reads_nothing c.args.field.now

pub returns-in_default : goal.returns-in_default
returns-in_default c =
    let field = c.args.field.now in
    let i = c.loop-byte.byte-index in (
      refl,
      not_hexadecimal field (drop (i + 1) field) (get_or field i 0) c.loop-byte.value
          (at_byte field i c.loop-byte.value (omega arith) c.loop-byte.invariant)
          (subst (λ b. digit_value b < 16 → ⊥) c.from.ensures c.in_default.ensures.value),
    )

pub loop-byte-preserved : goal.loop-byte-preserved
loop-byte-preserved c =
    let field = c.args.field.now in
    let i = c.loop-byte.byte-index in
    let digit = c.in-Some.ensures.value in
    let is = digit.1 ∙ ap digit_value c.from.ensures in
    reads_digit field (drop (i + 1) field) (get_or field i 0) c.loop-byte.value c.with_digit-value.result
    (at_byte field i c.loop-byte.value (omega arith) c.loop-byte.invariant)
    (subst (λ b. digit_value b < 16) c.from.ensures digit.0)
    (subst (λ d. AppendsDigit c.loop-byte.value d c.with_digit-value.result) is c.with_digit-value.ensures)

pub returns : goal.returns
returns c =
    let field = c.args.field.now in
    let i = c.loop-byte.byte-index in
    let some : 0 < length field = grind (arith, nat_tests) in
    reads_all field c.loop-byte.value some
    (subst (λ rest. ReadsDigits field rest c.loop-byte.value) (drop_all i field (omega arith)) c.loop-byte.invariant)
