use Rattle.std.proofs.Common.{◌≡◌, ℕ, ◌<◌, ◌-◌, length, drop}
use Rattle.gg_flat.specs.Line.{value_at}
use Rattle.gg_flat_tree.specs.Tree.{path_at}
use Rattle.gg_cut_plan.specs.Listed.{place_of}
use Rattle.gg_cut_machines.proofs.PortLemmas.{or_behind}
use Rattle.gg_cut_machines.proofs.bridges.put_places.Given as goal

abbrev pub invariant-loop-step : goal.invariant-loop-step
invariant-loop-step l =
    (length l.table.items ≡ length l.piece.signals)
    × ((s : ℕ) → s < length l.piece.signals → value_at l.table.items s ≡ or_behind (length l.ports - l.step) (place_of (drop (length l.ports - l.step) l.ports) (path_at l.piece.paths s)))
