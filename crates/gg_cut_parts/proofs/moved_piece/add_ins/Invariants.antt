use Rattle.std.proofs.Common.{◌≡◌, take}
use Rattle.gg_cut_parts.proofs.moved_piece.add_ins.Given as goal

abbrev pub invariant-loop-signal : goal.invariant-loop-signal
invariant-loop-signal l =
    record {
      only : l.piece ≡ record l.initial.piece { ins = l.piece.ins };
      ins : l.piece.ins ≡ take l.signal-index l.ins;
    }
