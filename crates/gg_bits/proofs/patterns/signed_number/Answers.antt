use Rattle.std.proofs.Common.{ap, ◌∙◌, to_z, of_z, FitsSigned}
use Rattle.std.specs.Int.{w128}
use Rattle.std.proofs.lemmas.Int.{to_z-of_z}
use Rattle.gg_bits.specs.Shape.{shape, number}
use Rattle.gg_bits.proofs.PatternLaws.{signed_pattern, number_of-fits}
use Rattle.gg_bits.proofs.patterns.signed_number.Goals as goal

pub returns : goal.returns
returns c =
    let z = number (shape c.args.ty) c.args.v.0 in
    let fits : FitsSigned w128 z = rw c.requires.kind (number_of-fits c.args.ty.width c.args.v.0 c.args.ty.positive c.args.ty.bounded c.requires.typed) in
    ap (λ y. to_z w128 (of_z w128 y)) (c.cast_signed.ensures ∙ signed_pattern z c.wide.result fits c.wide.ensures) ∙ to_z-of_z w128 z fits
