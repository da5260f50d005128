use Rattle.std.proofs.Common.{[], ◌∷◌, sym, subst}
use Rattle.std.specs.Prelude.{IfSome}
use Rattle.gg_ast.specs.Row.{numbered}
use Rattle.gg_read_row.specs.declared.row.LineRow.{LineRow}
use Rattle.gg_read_row.specs.inside.LineRows.{row_of}
use Rattle.gg_read.specs.inside.Stages.{stage_place, Advances}
use Rattle.gg_read.specs.Text.{place_after}
use Rattle.gg_read.proofs.Builds.{statement_advances}
use Rattle.gg_read.proofs.stage.advance.Goals as goal

pub returns-in-Version : goal.returns-in-Version
returns-in-Version c =
    let to : LineRow → Type 0 = λ r. IfSome (row_of r) (λ held. Advances c.args.stage (place_after (stage_place c.args.stage) held) c.args.line (numbered c.args.line held ∷ []) c.version.result) in
    subst to (sym c.in-Version.is) (c.version.ensures c.args.line c.in-Version.field-0 c.in-Version.field-1 c.in-Version.field-2)

pub returns-in-Statement : goal.returns-in-Statement
returns-in-Statement c =
    let to : LineRow → Type 0 = λ r. IfSome (row_of r) (λ held. Advances c.args.stage (place_after (stage_place c.args.stage) held) c.args.line (numbered c.args.line held ∷ []) c.statement.result) in
    subst to (sym c.in-Statement.is) (statement_advances c.args.stage c.args.line c.in-Statement.kind c.statement.result c.statement.ensures)
