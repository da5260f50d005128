use Rattle.std.proofs.Common.{◌≡◌, ℕ, ◌<◌, length, take}
use Rattle.std.specs.Prelude.{if◌then◌else◌}
use Rattle.gg_flat.specs.Line.{value_at}
use Rattle.gg_flat_tree.specs.Tree.{path_at}
use Rattle.gg_cut_plan.specs.Listed.{is_among}
use Rattle.gg_cut_split.proofs.ports.put_ports.Given as goal

abbrev pub invariant-loop-port : goal.invariant-loop-port
invariant-loop-port l =
    (length l.table.items ≡ length l.initial.table.items)
    × ((s : ℕ) → s < length l.piece.signals → value_at l.table.items s ≡ (if is_among (take l.port-index l.ports) (path_at l.piece.paths s) then l.«number» else value_at l.initial.table.items s))
