-- The two laws of a line's row: what is read is spelt so, and what is spelt so is read.
use Rattle.std.proofs.Common.{◌≡◌, List, [], Option, None, Some, Result, Ok, Err, refl}
use Rattle.std.specs.Prelude.{MatchOption, IfOk}
use Rattle.gg_lex.specs.declared.token.Tok.{Tok}
use Rattle.gg_ast.specs.Row.{Row}
use Rattle.gg_read_row.specs.declared.cursor.RowFault.{RowFault}
use Rattle.gg_read_row.specs.declared.cursor.RowFault.TheVariants.{NoForm, NoMemory}
use Rattle.gg_read_row.specs.declared.row.LineRow.{LineRow}
use Rattle.gg_read_row.specs.Forms.{SpellsRow}
use Rattle.gg_read_row.specs.inside.LineRows.{row_of, AreNamesOfLine, FindsRow, TellsRow}
use Rattle.gg_read_row.proofs.NamesSpelt.{line-named}
use Rattle.gg_read_row.specs.inside.Reading.{row_at}
use Rattle.gg_read_row.proofs.RowsRead.{row-read}
use Rattle.gg_read_row.proofs.RowsSpelt.{row-spells}

pub spelt-row_at : (ts : List Tok) (r : Row) → SpellsRow r ts → row_at ts ≡ Some r
spelt-row_at ts r spelt = row-read r ts spelt

pub row_at-nothing : row_at [] ≡ None
row_at-nothing = refl

held : (ts : List Tok) (o : Option Row) → MatchOption o ⊥ (λ row. row_at ts ≡ Some row) → MatchOption o ⊥ (λ row. SpellsRow row ts)
held ts None found = found
held ts (Some row) found = row-spells ts row found

-- the answer of the reader of rows tells of the row that is spelt
pub row_told : (ts : List Tok) (result : Result LineRow RowFault) → FindsRow result (row_at ts) → TellsRow ts result
row_told ts (Ok row) found = held ts (row_of row) found
row_told ts (Err NoForm) found = λ r h. let there = spelt-row_at ts r h in cc
row_told ts (Err NoMemory) found = tt

pub row_named : (ts : List Tok) (result : Result LineRow RowFault) → TellsRow ts result → IfOk result AreNamesOfLine
row_named ts (Ok row) told = line-named row ts told
row_named ts (Err fault) told = tt
