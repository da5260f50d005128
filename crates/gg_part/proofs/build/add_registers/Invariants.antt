use Rattle.std.proofs.Common.{◌≡◌}
use Rattle.gg_part.specs.inside.Building.{AreRegisters}
use Rattle.gg_part.specs.inside.Clocking.{RegistersFollow}
use Rattle.gg_part.proofs.build.add_registers.Given as goal

abbrev pub invariant-loop-number : goal.invariant-loop-number
invariant-loop-number l =
    record {
      only : l.piece ≡ record l.initial.piece { registers = l.piece.registers };
      registers : AreRegisters l.whole l.frame.globals l.frame.held l.frame.clocks l.number-index l.piece.registers;
      own : RegistersFollow l.frame.held l.clocking.registers l.number-index l.piece.registers;
    }
