use Rattle.std.proofs.Common.{◌≡◌, ◌++◌, take}
use Rattle.gg_bridge.proofs.joining.copy_registers.Given as goal

abbrev pub invariant-loop-register : goal.invariant-loop-register
invariant-loop-register l = l.piece ≡ record l.initial.piece { registers = l.initial.piece.registers ++ take l.register-index l.register-items }
