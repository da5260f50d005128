use Rattle.std.proofs.Common.{◌≡◌, ◌+◌, ◌<◌, ◌≤◌, ◌∷◌, [], ◌∙◌, sym, ap, arith, length, drop, length-drop}
use Rattle.std.proofs.lemmas.Bool.Decides.{nat_tests}
use Rattle.std.proofs.lemmas.List.{take_all, drop-drop, nil_from_length}
use Rattle.std.specs.Str.Lines.{strip_carriage_return}
use Rattle.gg_trace.specs.Fields.{text_lines}
use Rattle.gg_trace.proofs.LineLaws.{text_lines-last, text_lines-first, text_lines-nil}
use Rattle.gg_trace.proofs.line_cuts.cut_line.Goals as goal

pub returns-then-is_empty : goal.returns-then-is_empty
returns-then-is_empty c =
    let text = c.args.text.now in
    let n = c.line_len.result in
    let none : length c.split_at.result.1.now ≡ 0 = grind (arith, nat_tests) in
    let long : length text ≤ n = omega (arith, length-drop n text, ap length c.split_at.ensures.back) in
    text_lines-last text c.requires (λ k h. c.line_len.ensures.before k (omega arith))
    ∙ ap (λ line. line ∷ []) (sym (take_all n text long) ∙ sym c.split_at.ensures.front)
    ∙ ap (λ rest. c.split_at.result.0.now ∷ rest) (sym (ap text_lines (nil_from_length _ none) ∙ text_lines-nil))

pub returns : goal.returns
returns c =
    let text = c.args.text.now in
    let n = c.line_len.result in
    let after = c.split_at.ensures.back in
    let some : 0 < length c.split_at.result.1.now = grind (arith, nat_tests) in
    let inside : n < length text = omega (arith, length-drop n text, ap length after) in
    text_lines-first text n inside c.line_len.ensures.before (c.line_len.ensures.ends inside)
    ∙ ap (λ line. line ∷ text_lines (drop (n + 1) text)) (ap strip_carriage_return (sym c.split_at.ensures.front) ∙ sym c.without_return.ensures)
    ∙ ap (λ rest. c.without_return.result.now ∷ text_lines rest) (sym (drop-drop 1 n text) ∙ ap (drop 1) (sym after) ∙ sym c.split_at-2.ensures.back)
