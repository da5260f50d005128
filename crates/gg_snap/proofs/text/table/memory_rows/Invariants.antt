use Rattle.std.proofs.Common.{◌≡◌, ◌<◌, ◌^◌, map}
use Rattle.std.specs.Prelude.{All}
use Rattle.std.specs.List.{range_with_len}
use Rattle.gg_flat_tree.specs.Tree.{path_at, memory_at}
use Rattle.gg_snap.specs.declared.text.row.Row.{Row}
use Rattle.gg_snap.specs.text.Table.{memory_row}
use Rattle.gg_snap.proofs.text.table.memory_rows.Given as goal

abbrev pub invariant-loop-place : goal.invariant-loop-place
invariant-loop-place l =
    (l.rows.items ≡ map (λ place. memory_row l.piece (path_at l.tree.memory_paths place) (memory_at l.tree place).memory) (range_with_len 0 l.place))
    × All (λ (row : Row). row.count < 2 ^ 32) l.rows.items
