-- A number that is printed with eight hexadecimal digits.
use Rattle.std.proofs.Common.{◌≡◌, ℕ, ◌+◌, ◌-◌, ◌/◌, ◌%◌, ◌^◌, ◌<◌, ◌≤◌, zero, suc, List, [], ◌∷◌, ◌++◌, length, refl, sym, ap, ap₂, ◌∙◌, append_assoc, arith, eq-eqb, true-eqb}
use Rattle.std.specs.Prelude.{replicate, Bool, true, false, ◌==◌}
use Rattle.std.specs.Char.{digit_char}
use Rattle.std.specs.Fmt.{digits, digits_onto, digit_glyph, padded_integral, format_spec, char_count}
use Rattle.std.proofs.lemmas.List.{append-nil, replicate_more}
use Rattle.std.proofs.Math.Nat.{pow-succ'}
use Rattle.gg_rows.specs.TraceText.{eight_digits}

-- the last k digits of a number, in front of others
abbrev last_digits : ℕ → ℕ → List ℕ → List ℕ
last_digits zero n more = more
last_digits (suc k) n more = last_digits k (n / 16) (digit_glyph false (n % 16) ∷ more)

zeros : (k : ℕ) (more : List ℕ) → last_digits k 0 more ≡ replicate k 48 ++ more
zeros zero more = refl
zeros (suc k) more =
    let one : k + 1 ≡ suc k = omega arith in
    zeros k (48 ∷ more) ∙ sym (append_assoc (replicate k 48) (48 ∷ []) more) ∙ ap (λ l. l ++ more) (replicate_more k 48 ∙ ap (λ j. replicate j 48) one)

-- what stands in front of the digits that `{:x}` writes, and these, are the last k digits
abbrev Filled : (k n : ℕ) (more written : List ℕ) → Type 0
Filled k n more written = replicate (k + length more - length written) 48 ++ written ≡ last_digits k n more

filled-one : (k n : ℕ) (more : List ℕ) → n / 16 ≡ 0 → replicate (suc k + length more - length (digit_glyph false (n % 16) ∷ more)) 48 ++ digit_glyph false (n % 16) ∷ more ≡ last_digits (suc k) n more
filled-one k n more none =
    let count : suc k + length more - suc (length more) ≡ k = omega arith in
    ap (λ j. replicate j 48 ++ digit_glyph false (n % 16) ∷ more) count ∙ sym (zeros k (digit_glyph false (n % 16) ∷ more)) ∙ ap (λ m. last_digits k m (digit_glyph false (n % 16) ∷ more)) (sym none)

filled : (k fuel n : ℕ) (more : List ℕ) → n < 16 ^ suc k → suc k ≤ fuel
    → replicate (suc k + length more - length (digits_onto fuel 16 false n more)) 48 ++ digits_onto fuel 16 false n more ≡ last_digits (suc k) n more
filled k zero n more small enough = absurd (omega (arith, enough))
filled zero (suc fuel) n more small enough =
    let none : n / 16 ≡ 0 = omega (arith, small) in
    let test : n / 16 == 0 ≡ true = eq-eqb (n / 16) 0 none in
    rw test (filled-one 0 n more none)
filled (suc k) (suc fuel) n more small enough = by (λ less. filled k fuel (n / 16) (digit_glyph false (n % 16) ∷ more) less (omega (arith, enough))) (n / 16 == 0) refl
  where
    by : (n / 16 < 16 ^ suc k → Filled (suc k) (n / 16) (digit_glyph false (n % 16) ∷ more) (digits_onto fuel 16 false (n / 16) (digit_glyph false (n % 16) ∷ more)))
        → (b : Bool) → (n / 16 == 0) ≡ b
        → replicate (suc (suc k) + length more - length (digits_onto (suc fuel) 16 false n more)) 48 ++ digits_onto (suc fuel) 16 false n more ≡ last_digits (suc (suc k)) n more
    by next true e = rw e (filled-one (suc k) n more (true-eqb (n / 16) 0 (sym e)))
    by next false e =
        let count : suc (suc k) + length more ≡ suc k + length (digit_glyph false (n % 16) ∷ more) = omega arith in
        let less : n / 16 < 16 ^ suc k = omega (arith, small, pow-succ' 16 (suc k)) in
        rw (e, count) (next less)

padded-eight : (ds : List ℕ) → padded_integral (format_spec 32 0 4 8 (2 ^ 64 - 1)) false [] ds ≡ replicate (8 - length ds) 48 ++ ds
unfolding padded_integral char_count
padded-eight ds =
    let count : 8 - length ds - 0 - 0 ≡ 8 - length ds = omega arith in
    ap₂ (λ n t. replicate n 48 ++ t) count (append-nil ds)

-- the digits of the last 32 bits are those of the number
shifted : (value : ℕ) → last_digits 8 (value % 2 ^ 32) [] ≡ eight_digits value
shifted value =
    let low = value % 2 ^ 32 in
    let d0 : digit_glyph false (low % 16) ≡ digit_char (value / 16 ^ 0 % 16) = ap digit_char (let e : low % 16 ≡ value / 16 ^ 0 % 16 = omega arith in e) in
    let d1 : digit_glyph false (low / 16 % 16) ≡ digit_char (value / 16 ^ 1 % 16) = ap digit_char (let e : low / 16 % 16 ≡ value / 16 ^ 1 % 16 = omega arith in e) in
    let d2 : digit_glyph false (low / 16 / 16 % 16) ≡ digit_char (value / 16 ^ 2 % 16) = ap digit_char (let e : low / 16 / 16 % 16 ≡ value / 16 ^ 2 % 16 = omega arith in e) in
    let d3 : digit_glyph false (low / 16 / 16 / 16 % 16) ≡ digit_char (value / 16 ^ 3 % 16) = ap digit_char (let e : low / 16 / 16 / 16 % 16 ≡ value / 16 ^ 3 % 16 = omega arith in e) in
    let d4 : digit_glyph false (low / 16 / 16 / 16 / 16 % 16) ≡ digit_char (value / 16 ^ 4 % 16) = ap digit_char (let e : low / 16 / 16 / 16 / 16 % 16 ≡ value / 16 ^ 4 % 16 = omega arith in e) in
    let d5 : digit_glyph false (low / 16 / 16 / 16 / 16 / 16 % 16) ≡ digit_char (value / 16 ^ 5 % 16) = ap digit_char (let e : low / 16 / 16 / 16 / 16 / 16 % 16 ≡ value / 16 ^ 5 % 16 = omega arith in e) in
    let d6 : digit_glyph false (low / 16 / 16 / 16 / 16 / 16 / 16 % 16) ≡ digit_char (value / 16 ^ 6 % 16) = ap digit_char (let e : low / 16 / 16 / 16 / 16 / 16 / 16 % 16 ≡ value / 16 ^ 6 % 16 = omega arith in e) in
    let d7 : digit_glyph false (low / 16 / 16 / 16 / 16 / 16 / 16 / 16 % 16) ≡ digit_char (value / 16 ^ 7 % 16) = ap digit_char (let e : low / 16 / 16 / 16 / 16 / 16 / 16 / 16 % 16 ≡ value / 16 ^ 7 % 16 = omega arith in e) in
    rw (d0, d1, d2, d3, d4, d5, d6, d7) refl

pub eight-digits : (value : ℕ) → padded_integral (format_spec 32 0 4 8 (2 ^ 64 - 1)) false [] (digits 16 false (value % 2 ^ 32)) ≡ eight_digits value
unfolding digits
eight-digits value =
    let low = value % 2 ^ 32 in
    let small : low < 16 ^ 8 = omega arith in
    padded-eight (digits 16 false low) ∙ filled 7 64 low [] small (omega arith) ∙ shifted value
