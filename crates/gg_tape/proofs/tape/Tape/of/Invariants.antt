use Rattle.std.proofs.Common.{◌≡◌, [], take}
use Rattle.gg_tape.specs.inside.Tape.{signals_of, AreTapedSignals}
use Rattle.gg_tape.proofs.tape.Tape.of.Given as goal

abbrev pub invariant-loop-signal : goal.invariant-loop-signal
invariant-loop-signal l = AreTapedSignals l.piece l.tape × (signals_of l.tape ≡ take l.signal-index l.signals) × (l.tape.registers.items ≡ [])
