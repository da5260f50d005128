use Rattle.std.proofs.Common.{List, subst, refl}
use Rattle.gg_ast.specs.declared.statement.Reset.{Reset}
use Rattle.gg_ast.specs.Row.{Numbered}
use Rattle.gg_read.specs.inside.Stages.{stage_place, Advances}
use Rattle.gg_read.specs.Text.{after_statement}
use Rattle.gg_read.proofs.Builds.{inline_rows}
use Rattle.gg_read.proofs.stage.register.Goals as goal

pub returns : goal.returns
returns c =
    let reset : Reset = record { line = c.args.line; condition = c.args.condition; init = c.args.init } in
    subst (λ (rows : List Numbered). Advances c.args.stage (after_statement (stage_place c.args.stage)) c.args.line rows c.statement.result)
    (inline_rows c.args.line c.args.name c.args.ty c.args.clock reset refl) c.statement.ensures
