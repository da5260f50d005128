use Rattle.std.proofs.Common.{◌≡◌, []}
use Rattle.gg_tape.specs.inside.Tape.{signals_of, AreTapedSignals, AreNumbers}
use Rattle.gg_tape.proofs.tape.Tape.whole.Given as goal

abbrev pub invariant-loop-signal : goal.invariant-loop-signal
invariant-loop-signal l = AreTapedSignals l.piece l.tape × AreNumbers l.signal (signals_of l.tape) × (l.tape.registers.items ≡ [])
