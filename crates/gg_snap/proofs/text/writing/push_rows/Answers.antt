use Rattle.std.proofs.Common.{◌++◌, take, string_bytes, sym, ap, ◌∙◌, append_assoc}
use Rattle.std.specs.List.{concat}
use Rattle.gg_snap.specs.text.Lines.{row_lines, value_lines}
use Rattle.gg_snap.proofs.TextLemmas.WriteLemmas.{rows-more}
use Rattle.gg_snap.proofs.text.writing.push_rows.Goals as goal

pub loop-row-preserved : goal.loop-row-preserved
loop-row-preserved c =
    let state = c.args.state.now in
    let rows = c.args.rows.now in
    let start = string_bytes c.args.text.now in
    let i = c.loop-row.row-index in
    let row = c.row-item.result in
    c.in_ok-push_row.ensures
    ∙ ap (λ t. t ++ concat (row_lines state row)) c.loop-row.invariant
    ∙ append_assoc start (concat (value_lines state (take i rows))) (concat (row_lines state row))
    ∙ ap (λ r. start ++ (concat (value_lines state (take i rows)) ++ concat (row_lines state r))) c.row-item.is
    ∙ ap (λ t. start ++ t) (sym (rows-more state rows i _ c.loop-row-test.true))
