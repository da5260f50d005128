use Rattle.std.proofs.Common.{length, ap, arith}
use Rattle.net_tests.proofs.circuits.begins.is_cut_from.Goals as goal

pub cut-requires-clause-models : goal.cut-requires-clause-models
cut-requires-clause-models c = λ k d lt. absurd (omega (arith, lt, ap length c.new-models.ensures))
