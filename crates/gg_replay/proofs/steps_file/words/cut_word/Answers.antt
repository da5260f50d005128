use Rattle.std.proofs.Common.{◌≡◌, ◌+◌, ◌<◌, ◌≤◌, ◌∷◌, [], ◌∙◌, sym, ap, arith, length, drop, length-drop}
use Rattle.std.proofs.lemmas.Bool.Decides.{nat_tests}
use Rattle.std.proofs.lemmas.List.{take_all, drop-drop}
use Rattle.gg_replay.specs.steps_file.Words.{words}
use Rattle.gg_replay.proofs.StepsFileLemmas.WordLaws.{words-last, words-first}
use Rattle.gg_replay.proofs.steps_file.words.cut_word.Goals as goal

pub returns-then-is_empty : goal.returns-then-is_empty
returns-then-is_empty c =
    let line = c.args.line.now in
    let n = c.run_len.result in
    let none : length c.split_at.result.1.now ≡ 0 = grind (arith, nat_tests) in
    let long : length line ≤ n = omega (arith, length-drop n line, ap length c.split_at.ensures.back) in
    words-last line (λ k h. c.run_len.ensures.same k (omega arith))
    ∙ ap (λ word. word ∷ []) (sym (take_all n line long) ∙ sym c.split_at.ensures.front)

pub returns : goal.returns
returns c =
    let line = c.args.line.now in
    let n = c.run_len.result in
    let after = c.split_at.ensures.back in
    let some : 0 < length c.split_at.result.1.now = grind (arith, nat_tests) in
    let inside : n < length line = omega (arith, length-drop n line, ap length after) in
    words-first line n inside c.run_len.ensures.same (c.run_len.ensures.ends inside)
    ∙ ap (λ word. word ∷ words (drop (n + 1) line)) (sym c.split_at.ensures.front)
    ∙ ap (λ rest. c.split_at.result.0.now ∷ words rest) (sym (drop-drop 1 n line) ∙ ap (drop 1) (sym after) ∙ sym c.split_at-2.ensures.back)
