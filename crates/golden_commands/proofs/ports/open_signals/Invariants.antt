use Rattle.std.proofs.Common.{◌≡◌, take}
use Rattle.std.specs.Prelude.{filter, not}
use Rattle.gg_cut_plan.specs.Listed.{is_among}
use Rattle.gg_flat_tree.specs.Tree.{path_at}
use Rattle.golden_commands.proofs.ports.open_signals.Given as goal

abbrev pub invariant-loop-signal : goal.invariant-loop-signal
invariant-loop-signal l = l.kept.items ≡ filter (λ s. not (is_among l.set (path_at l.piece.paths s))) (take l.signal-index l.signals)
