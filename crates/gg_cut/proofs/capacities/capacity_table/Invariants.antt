use Rattle.std.proofs.Common.{◌≡◌, ℕ, ◌<◌, ◌-◌, length, drop}
use Rattle.gg_flat.specs.Line.{value_at}
use Rattle.gg_flat_tree.specs.Tree.{path_at}
use Rattle.gg_cut_plan.specs.Channels.{capacity_of}
use Rattle.gg_cut.proofs.capacities.capacity_table.Given as goal

abbrev pub invariant-loop-step : goal.invariant-loop-step
invariant-loop-step l =
    (length l.table.items ≡ length l.piece.signals)
    × ((s : ℕ) → s < length l.piece.signals → value_at l.table.items s ≡ capacity_of (drop (length l.capacities - l.step) l.capacities) l.default (path_at l.piece.paths s))
