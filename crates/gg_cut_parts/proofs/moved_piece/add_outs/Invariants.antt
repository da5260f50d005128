use Rattle.std.proofs.Common.{◌≡◌, take}
use Rattle.gg_cut_parts.proofs.moved_piece.add_outs.Given as goal

abbrev pub invariant-loop-signal : goal.invariant-loop-signal
invariant-loop-signal l =
    record {
      only : l.piece ≡ record l.initial.piece { outs = l.piece.outs };
      outs : l.piece.outs ≡ take l.signal-index l.outs;
    }
