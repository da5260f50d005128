use Rattle.std.proofs.Common.{◌≤◌, map, take, sym, ap, ◌∙◌, subst}
use Rattle.gg_trace.specs.inside.Table.{Table, table_of}
use Rattle.gg_trace.proofs.TableLaws.{first-rows}
use Rattle.gg_trace.proofs.trace_table.Trace.first_rows.Goals as goal

pub returns : goal.returns
returns c =
    let a = c.self.inside in
    let rows = c.args.rows in
    let first : Table → Table = λ t. record { rows = rows; columns = map (take rows) t.columns } in
    let within = subst (λ (t : Table). rows ≤ t.rows) (sym c.self.view_is) c.requires in
    ap (table_of rows a.inputs) c.truncate.ensures.items
    ∙ first-rows a.rows a.inputs a.cells.items rows within
    ∙ ap first c.self.view_is
