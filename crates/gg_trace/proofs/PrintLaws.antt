-- The hexadecimal digits of a value.
use Rattle.std.proofs.Common.{◌≡◌, ℕ, ◌+◌, ◌-◌, ◌*◌, ◌/◌, ◌%◌, ◌^◌, ◌<◌, ◌≤◌, zero, suc, List, [], ◌∷◌, ◌++◌, refl, sym, ap, ◌∙◌, subst, arith, append_assoc, length}
use Rattle.std.proofs.Math.Nat.{pow-succ', mod-eq_of_lt}
use Rattle.std.proofs.lemmas.Nat.{pow-add, mod-pow-add}
use Rattle.std.proofs.Math.Pow.{pow_mono}
use Rattle.std.proofs.lemmas.Str.{digit_value-digit_char}
use Rattle.std.specs.Str.Parse.{AllDigits, digits_value, digits_value_after}
use Rattle.gg_trace.specs.Cells.{IsHexadecimal, hexadecimal, IsCell}
use Rattle.std.proofs.lemmas.Bool.Decides.{nat_tests}
use Rattle.std.specs.Char.{digit_char}
use Rattle.gg_trace.specs.Printing.{hex_digits, digit_count}

sixteen : (k : ℕ) → 2 ^ (4 * k) ≡ 16 ^ k
sixteen zero = refl
sixteen (suc k) =
    let e : 4 * suc k ≡ 4 + 4 * k = omega arith in
    ap (λ n. 2 ^ n) e ∙ pow-add 2 4 (4 * k) ∙ ap (λ n. 16 * n) (sixteen k) ∙ sym (pow-succ' 16 k)

pub digit_is_ascii : (d : ℕ) → d < 16 → digit_char d < 128
digit_is_ascii d h = grind (arith, nat_tests)

-- the digit at the highest place, and then the others
pub next_digit : (p value : ℕ) → 0 < p → hex_digits p value ≡ digit_char (value / 2 ^ (4 * (p - 1)) % 16) ∷ hex_digits (p - 1) value
next_digit zero value h = absurd (omega arith)
next_digit (suc k) value h =
    let e : suc k - 1 ≡ k = omega arith in
    rw e (ap (λ n. digit_char (value / n % 16) ∷ hex_digits k value) (sym (sixteen k)))

-- the next digit goes from what is left to the text, so that both together stay the same
pub push_digit : (text new whole : List ℕ) (p value d : ℕ) → 0 < p → d ≡ digit_char (value / 2 ^ (4 * (p - 1)) % 16) → new ≡ text ++ d ∷ [] → text ++ hex_digits p value ≡ whole
    → new ++ hex_digits (p - 1) value ≡ whole
push_digit text new whole p value d some digit longer before =
    ap (λ t. t ++ hex_digits (p - 1) value) longer ∙ append_assoc text (d ∷ []) (hex_digits (p - 1) value)
    ∙ ap (λ c. text ++ c ∷ hex_digits (p - 1) value) digit ∙ ap (λ t. text ++ t) (sym (next_digit p value some)) ∙ before

carry : (n d p v w : ℕ) → w ≡ d * p + v → (n * 16 + d) * p + v ≡ n * (16 * p) + w
carry n d p v w e = omega (arith, e)

-- the number that is read if the last k digits of a value follow the number n
digits_after : (k n value : ℕ) → digits_value_after 16 n (hex_digits k value) ≡ n * 16 ^ k + value % 16 ^ k
digits_after zero n value = omega arith
digits_after (suc k) n value =
    let d = value / 16 ^ k % 16 in
    let small : d < 36 = omega arith in
    let split : value % 16 ^ suc k ≡ d * 16 ^ k + value % 16 ^ k = split_last k value in
    ap (λ c. digits_value_after 16 (n * 16 + c) (hex_digits k value)) (digit_value-digit_char d small)
    ∙ digits_after k (n * 16 + d) value
    ∙ carry n d (16 ^ k) (value % 16 ^ k) (value % 16 ^ suc k) split
    ∙ ap (λ p. n * p + value % 16 ^ suc k) (sym (pow-succ' 16 k))
  where
    split_last : (k v : ℕ) → v % 16 ^ suc k ≡ v / 16 ^ k % 16 * 16 ^ k + v % 16 ^ k
    split_last k v =
        let e : 4 + 4 * k ≡ 4 * suc k = omega arith in
        let long : 2 ^ (4 + 4 * k) ≡ 16 ^ suc k = ap (λ n. 2 ^ n) e ∙ sixteen (suc k) in
        subst (λ p. v % 16 ^ suc k ≡ v / p % 16 * p + v % p) (sixteen k)
        (subst (λ q. v % q ≡ v / 2 ^ (4 * k) % 16 * 2 ^ (4 * k) + v % 2 ^ (4 * k)) long (mod-pow-add v 4 (4 * k)))

are_digits : (k value : ℕ) → AllDigits 16 (hex_digits k value)
are_digits zero value = tt
are_digits (suc k) value =
    let d = value / 16 ^ k % 16 in
    let small : d < 36 = omega arith in
    (omega (arith, digit_value-digit_char d small), are_digits k value)

length-hex_digits : (k value : ℕ) → length (hex_digits k value) ≡ k
length-hex_digits zero value = refl
length-hex_digits (suc k) value = ap (λ n. suc n) (length-hex_digits k value)

-- a value is read back as it was printed
pub printed_value : (width value : ℕ) → 0 < width → value < 2 ^ width → IsCell width (hex_digits (digit_count width) value) × (hexadecimal (hex_digits (digit_count width) value) ≡ value)
unfolding IsHexadecimal hexadecimal
printed_value width value some fits = (
  record {
    digits = (omega (arith, length-hex_digits (digit_count width) value), are_digits (digit_count width) value);
    fits = subst (λ n. n < 2 ^ width) (sym same) fits;
  },
  same,
)
  where
    room : value < 16 ^ digit_count width
    room =
        let enough : width ≤ 4 * digit_count width = omega arith in
        let wider : 2 ^ width ≤ 2 ^ (4 * digit_count width) = pow_mono enough in
        omega (arith, wider, sixteen (digit_count width))

    same : digits_value 16 (hex_digits (digit_count width) value) ≡ value
    same = digits_after (digit_count width) 0 value ∙ (let e : value % 16 ^ digit_count width ≡ value = mod-eq_of_lt room in omega (arith, e))
