use Rattle.std.proofs.Common.{◌≡◌, ◌+◌, ◌-◌, ◌/◌, ◌^◌, ◌∙◌, ap}
use Rattle.gg_bits.specs.declared.ops.OpN.{OpN}
use Rattle.gg_bits.specs.Shape.{shape}
use Rattle.gg_bits.specs.ResultType.{shape_const}
use Rattle.gg_bits.proofs.PatternLaws.{low_pattern, head_pattern}
use Rattle.gg_bits.proofs.parametric.pattern_const.Goals as goal

pub returns-in-Bits : goal.returns-in-Bits
returns-in-Bits c =
    let same : c.args.width ≡ c.args.n - c.args.m + 1 = c.requires.width ∙ ap (λ (op : OpN). (shape_const op (shape c.args.ty) c.args.n c.args.m).width) c.in-Bits.is in
    rw c.in-Bits.is (c.fit-in-Bits.ensures.low ∙ low_pattern (c.args.v.0 / 2 ^ c.args.m) c.args.width (c.args.n - c.args.m + 1) same)

pub returns-in-Head : goal.returns-in-Head
returns-in-Head c =
    let same : c.args.width ≡ c.args.n = c.requires.width ∙ ap (λ (op : OpN). (shape_const op (shape c.args.ty) c.args.n c.args.m).width) c.in-Head.is in
    rw c.in-Head.is (head_pattern c.args.v.0 c.args.ty.width c.args.width c.args.n same c.requires.typed)
