use Rattle.std.proofs.Common.{◌≡◌}
use Rattle.std.specs.List.{flat_map, range_with_len}
use Rattle.gg_flat.specs.Circuit.{signal_shapes, driver_at}
use Rattle.gg_flat.specs.Line.{shape_at}
use Rattle.gg_flat_tree.specs.Tree.{path_at}
use Rattle.gg_snap.specs.text.Table.{signal_row}
use Rattle.gg_snap.proofs.text.table.signal_rows.Given as goal

abbrev pub invariant-loop-s : goal.invariant-loop-s
invariant-loop-s l = l.rows.items ≡ flat_map (λ s. signal_row l.kind (path_at l.piece.paths s) (shape_at (signal_shapes l.piece) s).width (driver_at l.piece s)) (range_with_len 0 l.s)
