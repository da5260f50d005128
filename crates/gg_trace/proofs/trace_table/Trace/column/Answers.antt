use Rattle.std.proofs.Common.{◌<◌, [], get_or, length, sym, ap, ◌∙◌, subst, arith}
use Rattle.std.proofs.lemmas.Result.{IfOk-weaker}
use Rattle.gg_trace.specs.inside.Table.{Table}
use Rattle.gg_trace.proofs.TableLaws.{length-columns, column_at, column_in}
use Rattle.gg_trace.proofs.trace_table.Trace.column.Goals as goal

pub column_of-requires-clause-within : goal.column_of-requires-clause-within
column_of-requires-clause-within c =
    let a = c.self.inside in
    let inside = subst (λ (t : Table). c.args.input < length t.columns) (sym c.self.view_is) c.requires in
    omega (arith, inside, length-columns a.rows a.inputs a.cells.items)

pub returns : goal.returns
returns c =
    let a = c.self.inside in
    let input = c.args.input in
    let inside = subst (λ (t : Table). input < length t.columns) (sym c.self.view_is) c.requires in
    let within : input < a.inputs = omega (arith, inside, length-columns a.rows a.inputs a.cells.items) in
    let same = sym (column_at a.rows a.inputs a.cells.items input within) ∙ ap (λ (t : Table). get_or t.columns input []) c.self.view_is in
    IfOk-weaker c.column_of.result _ _ (λ column is. is ∙ ap (λ cells. column_in a.rows a.inputs cells input) c.as_slice.ensures.value ∙ same) c.column_of.ensures
