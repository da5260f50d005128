use Rattle.std.proofs.Common.{◌≡◌, length}
use Rattle.gg_tape.specs.inside.Tape.{AreTapedSignals, AreTapedRegisters}
use Rattle.gg_tape.proofs.tape.Tape.add_registers.Given as goal

abbrev pub invariant-loop-register : goal.invariant-loop-register
invariant-loop-register l =
    AreTapedSignals l.piece l.self
    × AreTapedRegisters l.piece l.self.code l.self.registers.items
    × (length l.self.registers.items ≡ l.register-index)
    × (l.self.signals ≡ l.fn.self.signals)
