use Rattle.std.proofs.Common.{◌<◌, ◌^◌}
use Rattle.std.specs.Prelude.{true}
use Rattle.gg_bits.specs.Shape.{shape}
use Rattle.gg_bits.specs.ResultType.{kinds2, shape2}
use Rattle.gg_bits.proofs.PatternLaws.{pattern_of-lt}
use Rattle.gg_bits.proofs.ResultLaws.{answered_fits}
use Rattle.gg_bits.proofs.binary.apply2.Goals as goal

pub returns-clause-typed : goal.returns-clause-typed
returns-clause-typed c =
    let s = shape c.args.ta in
    let t = shape c.args.tb in
    let width = c.kind_and_width2-width.result.1 in
    let small : c.pattern2.result < 2 ^ width = rw c.pattern2.ensures (pattern_of-lt _ _) in
    answered_fits (kinds2 c.args.op s t) true (shape2 c.args.op s t) width c.pattern2.result c.kind_and_width2-width.ensures.width small
