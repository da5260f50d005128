use Rattle.gg_read_row.proofs.RowLaws.{row_told, row_named}
use Rattle.gg_read_row.proofs.row.read_row.Goals as goal

pub returns-clause-row : goal.returns-clause-row
returns-clause-row c = row_told c.args.tokens.now c.row.result c.row.ensures

pub returns-clause-named : goal.returns-clause-named
returns-clause-named c = row_named c.args.tokens.now c.row.result (row_told c.args.tokens.now c.row.result c.row.ensures)
