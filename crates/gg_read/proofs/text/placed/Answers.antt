use Rattle.gg_read_row.specs.inside.LineRows.{row_of}
use Rattle.gg_read.specs.inside.Stages.{line_of}
use Rattle.gg_read.proofs.TextSteps.{placed_held}
use Rattle.gg_read.proofs.text.placed.Goals as goal

pub returns-in-Ok : goal.returns-in-Ok
returns-in-Ok c =
    placed_held c.args.stage c.args.number (line_of c.args.lexed.now) (row_of c.in-Ok.row) c.advance.result c.in-Ok.ensures.row c.advance.ensures
