use Rattle.std.proofs.Common.{◌≡◌, List, false, subst}
use Rattle.std.specs.Prelude.{is_some}
use Rattle.gg_lex.specs.declared.token.Tok.{Tok}
use Rattle.gg_read_row.specs.inside.LineRows.{TellsRow}
use Rattle.gg_read.specs.inside.Stages.{line_of}
use Rattle.gg_read.specs.Text.{LineTokens, IsTooDeep}
use Rattle.gg_read.proofs.TextSteps.{none_there, row_found}
use Rattle.gg_read.proofs.text.whole_row.Goals as goal

pub returns-clause-row : goal.returns-clause-row
returns-clause-row c =
    let line : LineTokens = line_of c.args.lexed.now in
    let none : is_some line.bad ≡ false = cc (c.if-is_some.ensures) in
    let shallow = subst (λ (ts : List Tok). IsTooDeep ts → ⊥) c.as_slice.ensures.value c.if-is_too_deep.ensures in
    let found = subst (λ (ts : List Tok). TellsRow ts c.read_row.result) c.as_slice-2.ensures.value c.read_row.ensures.row in
    row_found line c.read_row.result (none_there line.bad none) shallow found
