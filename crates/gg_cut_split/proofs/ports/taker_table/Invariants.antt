use Rattle.std.proofs.Common.{◌≡◌, ℕ, ◌<◌, ◌-◌, length, drop}
use Rattle.gg_flat.specs.Line.{value_at}
use Rattle.gg_flat_tree.specs.Tree.{path_at}
use Rattle.gg_cut_plan.specs.Ports.{lister}
use Rattle.gg_cut_split.specs.inside.Ends.{entry_ports}
use Rattle.gg_cut_split.proofs.TakerLemmas.{one_behind}
use Rattle.gg_cut_split.proofs.ports.taker_table.Given as goal

abbrev pub invariant-loop-step : goal.invariant-loop-step
invariant-loop-step l =
    (length l.table.items ≡ length l.piece.signals)
    × ((s : ℕ) → s < length l.piece.signals → value_at l.table.items s ≡ one_behind (length l.entries - l.step) (lister (entry_ports l.seen) (drop (length l.entries - l.step) l.entries) (path_at l.piece.paths s)))
