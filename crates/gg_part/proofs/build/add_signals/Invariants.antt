use Rattle.std.proofs.Common.{◌≡◌}
use Rattle.gg_flat.specs.Circuit.{no_circuit}
use Rattle.gg_part.specs.inside.Building.{AreSignals}
use Rattle.gg_part.proofs.build.add_signals.Given as goal

abbrev pub invariant-loop-signal : goal.invariant-loop-signal
invariant-loop-signal l =
    record {
      only : l.piece ≡ record no_circuit { paths = l.piece.paths; signals = l.piece.signals };
      signals : AreSignals l.whole l.frame.globals l.frame.ins l.frame.held l.frame.memories l.signal-index l.piece;
    }
