use Rattle.std.proofs.Common.{◌≡◌, ◌∙◌, ap, sym}
use Rattle.gg_bits.specs.declared.ops.Op2.{Op2}
use Rattle.gg_bits.specs.Shape.{shape}
use Rattle.gg_bits.specs.ResultType.{shape2}
use Rattle.gg_bits.proofs.PatternLaws.{same_extended}
use Rattle.gg_bits.proofs.binary.pattern2.Goals as goal

pub returns-in-Validif : goal.returns-in-Validif
returns-in-Validif c =
    let same : c.args.width ≡ c.args.tb.width = c.requires.width ∙ ap (λ (op : Op2). (shape2 op (shape c.args.ta) (shape c.args.tb)).width) c.in-Validif.is in
    rw c.in-Validif.is (same_extended c.args.tb.kind c.args.tb.width c.args.width c.args.b.0 (sym same) c.requires.second)
