use Rattle.std.proofs.Common.{◌≡◌, ◌++◌, take}
use Rattle.gg_bridge.proofs.joining.add_ins.Given as goal

abbrev pub invariant-loop-signal : goal.invariant-loop-signal
invariant-loop-signal l = l.piece ≡ record l.initial.piece { ins = l.initial.piece.ins ++ take l.signal-index l.ins }
