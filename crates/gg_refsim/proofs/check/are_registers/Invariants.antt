use Rattle.std.proofs.Common.{ℕ, ◌<◌, map, get_or}
use Rattle.gg_bits.specs.Shape.{shape}
use Rattle.gg_flat.specs.declared.piece.Register.{Register}
use Rattle.gg_flat.specs.Line.{HasType}
use Rattle.gg_flat.specs.WellFormed.{IsRegister}
use Rattle.gg_refsim.proofs.check.are_registers.Given as goal

abbrev pub invariant-loop-register : goal.invariant-loop-register
invariant-loop-register l =
    (k : ℕ) (d : Register) → k < l.register-index → IsRegister (HasType (map (λ s. shape s.ty) l.signals)) (get_or l.registers k d)
