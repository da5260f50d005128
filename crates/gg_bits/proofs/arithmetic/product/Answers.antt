use Rattle.gg_bits.specs.Shape.{shape, number}
use Rattle.gg_bits.proofs.PatternLaws.{product_wraps}
use Rattle.gg_bits.proofs.arithmetic.product.Goals as goal

pub returns : goal.returns
returns c =
    product_wraps 128 (number (shape c.args.ta) c.args.a.0) (number (shape c.args.tb) c.args.b.0) c.wide.result c.wide-2.result
    c.wide.ensures c.wide-2.ensures
