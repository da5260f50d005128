use Rattle.std.proofs.Common.{◌≡◌, map, take}
use Rattle.gg_flat_tree.specs.Tree.{path_at}
use Rattle.gg_front.proofs.front_end.paths.Given as goal

abbrev pub invariant-loop-signal : goal.invariant-loop-signal
invariant-loop-signal l = l.paths.items ≡ map (path_at l.piece.paths) (take l.signal-index l.signals)
