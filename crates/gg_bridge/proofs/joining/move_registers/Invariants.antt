use Rattle.std.proofs.Common.{◌≡◌, ◌++◌, map, take}
use Rattle.gg_bridge.specs.Joined.{behind_by}
use Rattle.gg_flat.specs.Renaming.{renamed_register}
use Rattle.gg_bridge.proofs.joining.move_registers.Given as goal

abbrev pub invariant-loop-register : goal.invariant-loop-register
invariant-loop-register l = l.piece ≡ record l.initial.piece { registers = l.initial.piece.registers ++ map (λ register. renamed_register (behind_by l.behind.globals.items l.behind.held.items l.behind.memories.items) register) (take l.register-index l.register-items) }
