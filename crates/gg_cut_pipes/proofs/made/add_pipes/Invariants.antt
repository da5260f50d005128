use Rattle.std.proofs.Common.{◌≡◌, ◌++◌, codes, length, map, take}
use Rattle.gg_flat_tree.specs.Tree.{path_at}
use Rattle.gg_cut_reference.specs.Made.{pipe_signals}
use Rattle.gg_cut_pipes.proofs.made.add_pipes.Given as goal

abbrev pub invariant-loop-place : goal.invariant-loop-place
invariant-loop-place l =
    l.piece ≡ record l.initial.piece { paths = l.initial.piece.paths ++ map (λ c. codes "pipe:" ++ path_at l.one.paths c) (take l.place l.pipes); signals = l.initial.piece.signals ++ pipe_signals l.one.signals (length l.one.registers) (take l.place l.pipes) }
