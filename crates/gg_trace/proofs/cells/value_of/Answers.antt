use Rattle.std.proofs.Common.{◌≤◌, ◌^◌, arith}
use Rattle.std.proofs.Math.Pow.{pow_mono}
use Rattle.gg_trace.proofs.cells.value_of.Goals as goal

pub returns-in-None : goal.returns-in-None
returns-in-None c =
    let read = rw c.in-None.is at c.in_ok-value.ensures in
    let narrower : 2 ^ c.args.width ≤ 2 ^ 128 = pow_mono c.requires in
    (read.0, omega (arith, read.1, narrower))
