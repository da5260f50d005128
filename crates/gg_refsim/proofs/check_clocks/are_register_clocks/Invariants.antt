use Rattle.std.proofs.Common.{ℕ, ◌<◌, get_or}
use Rattle.gg_flat.specs.declared.piece.Register.{Register}
use Rattle.gg_flat.specs.WellFormed.{IsClock}
use Rattle.gg_refsim.proofs.check_clocks.are_register_clocks.Given as goal

abbrev pub invariant-loop-register : goal.invariant-loop-register
invariant-loop-register l = (k : ℕ) (d : Register) → k < l.register-index → IsClock l.count (get_or l.registers k d).clock
