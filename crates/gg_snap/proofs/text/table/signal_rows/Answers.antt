use Rattle.std.proofs.Common.{◌≡◌, length, ap, ◌∙◌, arith}
use Rattle.std.specs.List.{flat_map, range_with_len}
use Rattle.gg_flat.specs.Circuit.{signal_shapes, driver_at}
use Rattle.gg_flat.specs.Line.{shape_at}
use Rattle.gg_flat_tree.specs.Tree.{path_at}
use Rattle.gg_snap.specs.text.Table.{signal_row}
use Rattle.gg_snap.proofs.TextLemmas.WriteLemmas.{signals-more}
use Rattle.gg_snap.proofs.text.table.signal_rows.Goals as goal

pub loop-s-preserved : goal.loop-s-preserved
loop-s-preserved c =
    let low = c.loop-s-test.true in
    let count = c.signal_count-count.ensures.count in
    signals-more (signal_row c.args.kind) c.args.piece.now c.loop-s.s c.loop-s.rows.items c.add_row.new.rows.items c.path_of-path.result.now c.signals.result.now _ c.index-signals-s.result c.signals.ensures c.index-signals-s.is (omega (arith, low, count)) c.path_of-path.ensures c.loop-s.invariant c.in_ok-add_row.ensures

pub returns : goal.returns
returns c =
    let high = c.loop-s-test.false in
    let e : c.loop-s.s ≡ length c.args.piece.now.signals = omega (arith, high, c.loop-s.auto.s-end, c.signal_count-count.ensures.count) in
    c.loop-s.invariant ∙ ap (λ n. flat_map (λ s. signal_row c.args.kind (path_at c.args.piece.now.paths s) (shape_at (signal_shapes c.args.piece.now) s).width (driver_at c.args.piece.now s)) (range_with_len 0 n)) e
