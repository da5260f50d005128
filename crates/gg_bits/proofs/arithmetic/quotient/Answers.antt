use Rattle.std.proofs.Common.{ℤ, ◌^◌, ◌<◌, FitsSigned, ap, sym, subst, ◌∙◌}
use Rattle.std.specs.Prelude.{unsigned_abs}
use Rattle.std.specs.Int.{w128}
use Rattle.std.proofs.lemmas.Int.{to_z-of_z}
use Rattle.gg_bits.specs.Value.{number_of}
use Rattle.gg_bits.proofs.PatternLaws.{number_of-abs}
use Rattle.gg_bits.proofs.arithmetic.quotient.Goals as goal

pub signed_quotient-requires : goal.signed_quotient-requires
signed_quotient-requires c =
    let Small : ℤ → Type 0 = λ z. unsigned_abs z < 2 ^ 127 in
    let fits : FitsSigned w128 c.signed_number.result = record { sfits = c.signed_number.type_inv } in
    let is = to_z-of_z w128 c.signed_number.result fits ∙ c.signed_number.ensures ∙ ap (λ kind. number_of kind c.args.ta.width c.args.a.0) c.in-SInt.is in
    subst Small (sym is)
    (number_of-abs c.args.ta.width c.args.a.0 c.args.ta.positive (c.requires.room c.in-SInt.is) c.requires.first)
