use Rattle.std.proofs.Common.{◌≡◌, take}
use Rattle.gg_cut_parts.proofs.moved_piece.add_registers.Given as goal

abbrev pub invariant-loop-register : goal.invariant-loop-register
invariant-loop-register l =
    record {
      only : l.piece ≡ record l.initial.piece { registers = l.piece.registers };
      registers : l.piece.registers ≡ take l.register-index l.registers;
    }
