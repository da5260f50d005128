-- The lines of a text: its first line, and the lines of what follows it.
use Rattle.std.proofs.Common.{◌≡◌, ℕ, ◌+◌, ◌<◌, false, eqb, List, [], ◌∷◌, length, get_or, take, drop, refl, ap, ◌∙◌, subst, arith, eq-eqb}
use Rattle.std.specs.List.{slice_split}
use Rattle.std.specs.Str.Lines.{lines_of_parts, strip_carriage_return}
use Rattle.std.proofs.lemmas.List.Splits.{slice_split_first, slice_split_none, length-slice_split}
use Rattle.std.proofs.lemmas.List.Sums.{position_or_len_is}
use Rattle.std.proofs.lemmas.List.{get_or_default}
use Rattle.std.proofs.lemmas.Bool.{ne_eqb}
use Rattle.gg_trace.specs.Fields.{text_lines}

pub text_lines-nil : text_lines [] ≡ []
unfolding text_lines
text_lines-nil = refl

last_part : (x : List ℕ) → 0 < length x → lines_of_parts (x ∷ []) ≡ x ∷ []
last_part x some =
    let e : eqb (length x) 0 ≡ false = ne_eqb (length x) 0 (λ none. omega arith) in
    rw e refl

-- a text that isn't empty and has no line feed is one line
pub text_lines-last : (text : List ℕ) → 0 < length text → ((k : ℕ) → k < length text → get_or text k 0 ≡ 10 → ⊥) → text_lines text ≡ text ∷ []
unfolding text_lines
text_lines-last text some none =
    ap lines_of_parts (slice_split_none (λ c. eqb c 10) text (λ k d h. ne_eqb _ 10 (λ e. none k h (get_or_default text k 0 d h ∙ e))))
    ∙ last_part text some

-- the first line, and then the lines of what follows its line end
parts_first : (x : List ℕ) (parts : List (List ℕ)) → 0 < length parts → lines_of_parts (x ∷ parts) ≡ strip_carriage_return x ∷ lines_of_parts parts
parts_first x [] h = absurd (omega arith)
parts_first x (y ∷ parts) h = refl

pub text_lines-first : (text : List ℕ) (n : ℕ) → n < length text → ((k : ℕ) → k < n → get_or text k 0 ≡ 10 → ⊥) → get_or text n 0 ≡ 10
    → text_lines text ≡ strip_carriage_return (take n text) ∷ text_lines (drop (n + 1) text)
unfolding text_lines
text_lines-first text n inside before ends =
    let p = λ (c : ℕ). eqb c 10 in
    let e = position_or_len_is p text n 0 (omega arith) (λ k h. ne_eqb _ 10 (before k h)) (λ _. eq-eqb _ 10 ends) in
    let rest = drop (n + 1) text in
    ap lines_of_parts (subst (λ i. slice_split p text ≡ take i text ∷ slice_split p (drop (i + 1) text)) e (slice_split_first p text 0 (omega arith)))
    ∙ parts_first (take n text) (slice_split p rest) (omega (arith, length-slice_split p rest))
