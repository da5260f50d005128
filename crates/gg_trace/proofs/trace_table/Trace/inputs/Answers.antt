use Rattle.std.proofs.Common.{◌≡◌, length, sym, subst}
use Rattle.gg_trace.specs.inside.Table.{Table}
use Rattle.gg_trace.proofs.TableLaws.{length-columns}
use Rattle.gg_trace.proofs.trace_table.Trace.inputs.Goals as goal

pub returns : goal.returns
returns c =
    let a = c.self.inside in
    subst (λ (t : Table). a.inputs ≡ length t.columns) c.self.view_is (sym (length-columns a.rows a.inputs a.cells.items))
