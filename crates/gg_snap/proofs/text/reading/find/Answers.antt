use Rattle.std.proofs.Common.{◌+◌, ◌++◌, refl, sym, ap, ◌∙◌, arith}
use Rattle.gg_snap.specs.declared.text.reading.Cursor.{Cursor}
use Rattle.gg_snap.specs.declared.text.row.Row.{Row}
use Rattle.gg_snap.specs.text.Lines.{head_of}
use Rattle.gg_snap.specs.inside.Places.{behind}
use Rattle.gg_snap.proofs.TextLemmas.FindLemmas.{skip-row, skips-then}
use Rattle.gg_snap.proofs.text.reading.find.Goals as goal

pub loop-cursor-preserved : goal.loop-cursor-preserved
loop-cursor-preserved c =
    let rows = c.args.rows.now in
    let line = c.args.line.now in
    let lt = c.loop-cursor-test.true in
    let next : Cursor = record { row = c.loop-cursor.cursor.row + 1; address = 0 } in (
      omega (arith, lt),
      skips-then line (behind rows c.args.cursor.now) (behind rows c.loop-cursor.cursor) (behind rows next) c.loop-cursor.invariant.1
          (skip-row rows line c.loop-cursor.cursor next c.index-rows-cursor.result lt (λ rest e. c.in_default.ensures rest (e ∙ ap (λ (r : Row). head_of r ++ rest) (sym c.index-rows-cursor.is))) refl),
    )
