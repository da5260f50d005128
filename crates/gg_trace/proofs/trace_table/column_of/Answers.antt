use Rattle.std.proofs.Common.{◌++◌, ◌∷◌, [], ◌+◌, ◌*◌, get_or, sym, ap, ◌∙◌}
use Rattle.gg_trace.proofs.TableLaws.{column_more}
use Rattle.gg_trace.proofs.trace_table.column_of.Goals as goal

pub loop-row-preserved : goal.loop-row-preserved
loop-row-preserved c =
    let value = get_or c.args.cells.now (c.loop-row.row * c.args.inputs + c.args.input) 0 in
    c.in_ok-push.ensures.items ∙ ap (λ column. column ++ value ∷ []) c.loop-row.invariant
    ∙ sym (column_more c.loop-row.row c.args.inputs c.args.cells.now c.args.input)
