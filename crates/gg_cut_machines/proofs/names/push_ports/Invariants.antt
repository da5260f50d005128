use Rattle.std.proofs.Common.{◌≡◌, ◌++◌, take, map}
use Rattle.gg_flat_tree.specs.Tree.{path_at}
use Rattle.gg_cut_machines.proofs.names.push_ports.Given as goal

abbrev pub invariant-loop-signal : goal.invariant-loop-signal
invariant-loop-signal l = l.names.items ≡ l.initial.names.items ++ map (λ s. l.word ++ path_at l.piece.paths s) (take l.signal-index l.signals)
