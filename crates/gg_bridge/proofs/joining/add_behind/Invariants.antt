use Rattle.std.proofs.Common.{◌≡◌, ◌++◌, map, take}
use Rattle.gg_bridge.specs.Joined.{signal_behind}
use Rattle.gg_bridge.proofs.joining.add_behind.Given as goal

abbrev pub invariant-loop-place : goal.invariant-loop-place
invariant-loop-place l =
    l.piece ≡ record l.initial.piece { paths = l.initial.piece.paths ++ map (λ path. l.front ++ path) (take l.place l.model.paths); signals = l.initial.piece.signals ++ map (signal_behind l.behind.globals.items l.behind.held.items l.behind.memories.items l.sees) (take l.place l.model.signals) }
