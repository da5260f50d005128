-- The words of a line: its first word, and the words of what follows it.
use Rattle.std.proofs.Common.{◌≡◌, ℕ, ◌+◌, ◌<◌, true, false, List, [], ◌∷◌, ◌++◌, length, get_or, take, drop, ap, ◌∙◌, subst, arith}
use Rattle.std.specs.List.{slice_split}
use Rattle.std.proofs.lemmas.List.Splits.{slice_split_at, slice_split_first, slice_split_none}
use Rattle.std.proofs.lemmas.List.Sums.{position_or_len_is}
use Rattle.std.proofs.lemmas.List.{get_or_default}
use Rattle.gg_trace.specs.Fields.{is_blank}
use Rattle.gg_trace.specs.inside.Parted.{HasNoBlank}
use Rattle.gg_replay.specs.steps_file.Words.{words}

-- a line without a blank is one word
pub words-last : (line : List ℕ) → HasNoBlank line → words line ≡ line ∷ []
unfolding words
words-last line plain = slice_split_none is_blank line (λ k d h. ap is_blank (get_or_default line k d 0 h) ∙ plain k h)

-- the first word, and then the words of what follows the blank after it
pub words-first : (line : List ℕ) (n : ℕ) → n < length line → ((k : ℕ) → k < n → is_blank (get_or line k 0) ≡ false) → is_blank (get_or line n 0) ≡ true
    → words line ≡ take n line ∷ words (drop (n + 1) line)
unfolding words
words-first line n inside before ends =
    let e = position_or_len_is is_blank line n 0 (omega arith) before (λ _. ends) in
    subst (λ i. slice_split is_blank line ≡ take i line ∷ slice_split is_blank (drop (i + 1) line)) e (slice_split_first is_blank line 0 (omega arith))

-- a line that begins with a word and a blank
pub words-front : (word : List ℕ) (blank : ℕ) (rest : List ℕ) → HasNoBlank word → is_blank blank ≡ true → words (word ++ blank ∷ rest) ≡ word ∷ words rest
unfolding words
words-front word blank rest plain splits =
    slice_split_at is_blank word blank rest (λ k d h. ap is_blank (get_or_default word k d 0 h) ∙ plain k h) splits
