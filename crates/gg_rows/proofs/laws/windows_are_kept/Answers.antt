use Rattle.std.proofs.Common.{arith}
use Rattle.gg_rows.proofs.laws.windows_are_kept.Goals as goal

pub returns : goal.returns
returns c = λ begun n t low. omega (arith, low)
