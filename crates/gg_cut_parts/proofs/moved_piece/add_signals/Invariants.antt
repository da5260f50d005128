use Rattle.std.proofs.Common.{◌≡◌, map, take}
use Rattle.gg_flat.specs.Circuit.{no_circuit}
use Rattle.gg_flat_tree.specs.Tree.{path_at}
use Rattle.gg_cut_parts.proofs.moved_piece.add_signals.Given as goal

abbrev pub invariant-loop-place : goal.invariant-loop-place
invariant-loop-place l =
    record {
      only : l.piece ≡ record no_circuit { paths = l.piece.paths; signals = l.piece.signals };
      paths : l.piece.paths ≡ map (path_at l.whole.paths) (take l.place l.globals);
      signals : l.piece.signals ≡ take l.place l.other.signals;
    }
