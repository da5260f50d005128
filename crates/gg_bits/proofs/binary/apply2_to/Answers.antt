use Rattle.std.proofs.Common.{◌≡◌, ◌∙◌, ap, sym}
use Rattle.std.specs.Prelude.{true}
use Rattle.gg_bits.specs.Value.{pattern_of}
use Rattle.gg_bits.specs.Shape.{Shape, shape}
use Rattle.gg_bits.specs.ResultType.{kinds2, shape2}
use Rattle.gg_bits.specs.Meaning.{meaning2}
use Rattle.gg_bits.proofs.ResultLaws.{answered_shape}
use Rattle.gg_bits.proofs.binary.apply2_to.Goals as goal

pub pattern2-requires-clause-width : goal.pattern2-requires-clause-width
pattern2-requires-clause-width c =
    let s = shape c.args.ta in
    let t = shape c.args.tb in
    ap (λ (s : Shape). s.width) (sym (answered_shape (kinds2 c.args.op s t) true (shape2 c.args.op s t) (shape c.args.to) c.requires.accepted))

pub returns-clause-value : goal.returns-clause-value
returns-clause-value c =
    let s = shape c.args.ta in
    let t = shape c.args.tb in
    let is : shape c.args.to ≡ shape2 c.args.op s t = sym (answered_shape (kinds2 c.args.op s t) true (shape2 c.args.op s t) (shape c.args.to) c.requires.accepted) in
    c.pattern2.ensures ∙ ap (λ (r : Shape). pattern_of r.width (meaning2 c.args.op s c.args.a.0 t c.args.b.0)) is
