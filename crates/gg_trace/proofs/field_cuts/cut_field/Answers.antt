use Rattle.std.proofs.Common.{◌≡◌, ◌<◌, ◌≤◌, ◌∷◌, [], ℕ, ◌∙◌, sym, ap, subst, arith, length, drop, length-drop, false, true, get_or}
use Rattle.std.proofs.lemmas.Bool.Decides.{nat_tests}
use Rattle.gg_trace.specs.Fields.{is_blank, fields_of_text}
use Rattle.gg_trace.proofs.FieldLaws.{fields_of_text-last, fields_of_text-first}
use Rattle.gg_trace.proofs.field_cuts.cut_field.Goals as goal

pub returns-then-is_empty : goal.returns-then-is_empty
returns-then-is_empty c =
    let text = c.args.text.now in
    let n = c.run_len.result in
    let none : length c.split_at.result.1.now ≡ 0 = grind (arith, nat_tests) in
    let long : length text ≤ n = omega (arith, length-drop n text, ap length c.split_at.ensures.back) in
    fields_of_text-last text n long c.run_len.ensures.within c.run_len.ensures.same ∙ ap (λ field. field ∷ []) (sym c.split_at.ensures.front)

pub returns : goal.returns
returns c =
    let text = c.args.text.now in
    let n = c.run_len.result in
    let m = c.run_len-2.result in
    let after = c.split_at.ensures.back in
    let run = c.run_len-2.ensures in
    let some : 0 < length c.split_at.result.1.now = grind (arith, nat_tests) in
    let inside : n < length text = omega (arith, length-drop n text, ap length after) in
    fields_of_text-first text n m inside c.run_len.ensures.same (c.run_len.ensures.ends inside)
    (subst (λ xs. m ≤ length xs) after run.within)
    (subst (λ xs. (k : ℕ) → k < m → is_blank (get_or xs k 0) ≡ true) after run.same)
    (subst (λ xs. m < length xs → is_blank (get_or xs m 0) ≡ false) after run.ends)
    ∙ ap (λ field. field ∷ fields_of_text (drop m (drop n text))) (sym c.split_at.ensures.front)
    ∙ ap (λ rest. c.split_at.result.0.now ∷ fields_of_text rest) (ap (drop m) (sym after) ∙ sym c.split_at-2.ensures.back)
