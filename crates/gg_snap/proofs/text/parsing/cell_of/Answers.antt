use Rattle.std.proofs.Common.{◌∷◌, [], ◌++◌, decimal, sym, ap, ◌∙◌, arith, append_assoc}
use Rattle.gg_trace.specs.Printing.{hex_digits, digit_count}
use Rattle.gg_snap.specs.text.Lines.{address_text}
use Rattle.gg_snap.proofs.text.parsing.cell_of.Goals as goal

pub returns-in_err-text : goal.returns-in_err-text
returns-in_err-text c = λ address value low fits is.
    let row = c.args.row.now in
    absurd (c.in_err-text.ensures (address_text row.at address ++ hex_digits (digit_count row.width) value) 10 (is ∙ sym (append_assoc (address_text row.at address) (hex_digits (digit_count row.width) value) (10 ∷ []))))

pub returns-in-Words : goal.returns-in-Words
returns-in-Words c = λ address value low fits is.
    let row = c.args.row.now in
    let known = c.requires.1 in
    let digits = hex_digits (digit_count row.width) value in
    let text = c.in_ok-text.ensures (address_text row.at address ++ digits) 10 (is ∙ sym (append_assoc (address_text row.at address) digits (10 ∷ []))) in
    let few = known.few in
    c.addressed.ensures address row.width value (omega (arith, low, few)) known.some known.narrow fits
    (text ∙ ap (λ at. address_text at address ++ digits) c.in-Words.is ∙ append_assoc (decimal address) (32 ∷ []) digits)
