use Rattle.std.proofs.Common.{◌≡◌, take, map}
use Rattle.gg_cut_parts.proofs.whole.clocks_of_registers.Given as goal

abbrev pub invariant-loop-register : goal.invariant-loop-register
invariant-loop-register l = l.clocks.items ≡ map (λ register. register.clock) (take l.register-index l.registers)
