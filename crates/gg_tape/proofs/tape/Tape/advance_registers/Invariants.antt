use Rattle.std.proofs.Common.{◌≡◌}
use Rattle.gg_flat.proofs.AdvanceLemmas.{Advanced}
use Rattle.gg_tape.proofs.tape.Tape.advance_registers.Given as goal

abbrev pub invariant-loop-r : goal.invariant-loop-r
invariant-loop-r l =
    Advanced l.piece.registers l.edges l.fn.cells.values l.fn.state.registers l.r l.state.registers
    × (l.state.banks ≡ l.fn.state.banks)
    × (l.cells ≡ l.fn.cells)
