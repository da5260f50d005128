use Rattle.std.proofs.Common.{◌≡◌, ◌++◌, take}
use Rattle.gg_bridge.proofs.joining.add_outs.Given as goal

abbrev pub invariant-loop-signal : goal.invariant-loop-signal
invariant-loop-signal l = l.piece ≡ record l.initial.piece { outs = l.initial.piece.outs ++ take l.signal-index l.outs }
