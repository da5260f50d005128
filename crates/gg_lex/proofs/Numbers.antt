-- The longest number at the front of some bytes: with its radix or decimal, a sign or none, and the run of digits after it.
use Rattle.std.proofs.Common.{◌≡◌, ◌≢◌, ℕ, zero, suc, ◌+◌, ◌<◌, ◌≤◌, inl, inr, Bool, true, false, Option, Some, None, List, [], ◌∷◌, ◌++◌, length, get_or, take, drop, sym, ap, ◌∙◌, subst, arith, refl, take-append-drop, length-take-le, length-drop, get_or-take, ⊎_elim}
use Rattle.std.specs.Prelude.{if◌then◌else◌, ◌==◌, ◌&&◌}
use Rattle.std.specs.List.{prefix_len, AllPass}
use Rattle.std.specs.Char.{is_ascii_digit}
use Rattle.std.proofs.lemmas.Bool.{ne_eqb, eqb-true, eqb-false, MatchBool-at_false, MatchBool-at_true, both_ways, cases_eq, cases_lt, cases_Bool, eq-eqb}
use Rattle.std.proofs.lemmas.Bool.Decides.{nat_tests}
use Rattle.std.proofs.lemmas.Option.{same_Some}
use Rattle.std.proofs.lemmas.List.Sums.{prefix_len-le-length}
use Rattle.gg_lex.specs.Bytes.{is_digit_behind}
use Rattle.gg_lex.specs.Tokens.{IsDecimal, IsDigits, AreDigitsBehind, IsRadixNumber, IsNumber}
use Rattle.gg_lex.specs.inside.Fronts.{IsLongest, HasNoFront, FindsFront, radix_head}
use Rattle.gg_lex.proofs.Runs.{length-le-prefix_len, AllPass-take-prefix_len, AllPass-head}

-- ---- digits, by a test of each

-- one or more bytes that pass the test
abbrev pub IsRun : (ℕ → Bool) → List ℕ → Type 0
IsRun p bs = (0 < length bs) × AllPass p bs

-- bytes at the front that pass are no more than the run of them
run_le : (p : ℕ → Bool) (bs : List ℕ) (m : ℕ) → m ≤ length bs → IsRun p (take m bs) → m ≤ prefix_len p bs
run_le p bs m within run =
    let most : length (take m bs) ≤ prefix_len p (take m bs ++ drop m bs) = length-le-prefix_len p (take m bs) (drop m bs) run.1 in
    let here : length (take m bs) ≤ prefix_len p bs = subst (λ (l : List ℕ). length (take m bs) ≤ prefix_len p l) (take-append-drop m bs) most in
    omega (arith, here, length-take-le m bs within)

pub longest_run : (p : ℕ → Bool) (bs : List ℕ) (n : ℕ) → n ≡ prefix_len p bs → n ≢ 0 → IsLongest (IsRun p) bs n
longest_run p bs n n_is some =
    let fits : n ≤ length bs = omega (arith, prefix_len-le-length p bs) in
    record {
      within = fits;
      has = (omega (arith, length-take-le n bs fits), subst (λ (k : ℕ). AllPass p (take k bs)) (sym n_is) (AllPass-take-prefix_len p bs));
      longest = λ m within run. omega (arith, run_le p bs m within run);
    }

pub no_run : (p : ℕ → Bool) (bs : List ℕ) (n : ℕ) → n ≡ prefix_len p bs → n ≡ 0 → HasNoFront (IsRun p) bs
no_run p bs n n_is none m within run = absurd (omega (arith, run_le p bs m within run, run.0, length-take-le m bs within))

-- ---- decimal numbers

-- a decimal number with no sign is its digits
from_unsigned : (bs : List ℕ) → get_or bs 0 0 ≢ 45 → IsDecimal bs → IsDigits bs
from_unsigned [] plain number = absurd number
from_unsigned (b ∷ bs) plain number = MatchBool-at_false _ _ (ne_eqb b 45 plain) number

to_unsigned : (bs : List ℕ) → get_or bs 0 0 ≢ 45 → IsDigits bs → IsDecimal bs
to_unsigned [] plain digits = omega (arith, digits.0)
to_unsigned (b ∷ bs) plain digits = rw (ne_eqb b 45 plain) digits

first_of_take : (bs : List ℕ) (m : ℕ) → 0 < length bs → get_or bs 0 0 ≢ 45 → get_or (take m bs) 0 0 ≢ 45
first_of_take [] m nonempty plain = absurd (omega arith)
first_of_take (b ∷ bs) zero nonempty plain = λ e. omega (arith, e)
first_of_take (b ∷ bs) (suc m) nonempty plain = plain

pub unsigned_front : (bs : List ℕ) (found : Option ℕ) → 0 < length bs → get_or bs 0 0 ≢ 45 → FindsFront IsDigits bs found → FindsFront IsDecimal bs found
unsigned_front bs None nonempty plain none = λ m within number.
    none m within (from_unsigned (take m bs) (first_of_take bs m nonempty plain) number)
unsigned_front bs (Some n) nonempty plain digits = record {
  within = digits.within;
  has = to_unsigned (take n bs) (first_of_take bs n nonempty plain) digits.has;
  longest = λ m within number. digits.longest m within (from_unsigned (take m bs) (first_of_take bs m nonempty plain) number);
}

-- with a sign, the longest number is the sign and the longest digits after it
signed_longest : (bs : List ℕ) (n : ℕ) → IsLongest IsDigits bs n → IsLongest IsDecimal (45 ∷ bs) (suc n)
signed_longest bs n digits = record {
  within = omega (arith, digits.within);
  has = digits.has;
  longest = λ m. longest m;
}
  where
    longest : (m : ℕ) → m ≤ length (45 ∷ bs) → IsDecimal (take m (45 ∷ bs)) → m ≤ suc n
    longest zero within number = absurd number
    longest (suc m) within number = omega (arith, digits.longest m (omega arith) number)

pub signed_decimal : (bs : List ℕ) (n : ℕ) → 0 < length bs → get_or bs 0 0 ≡ 45 → IsLongest IsDigits (drop 1 bs) n → IsLongest IsDecimal bs (n + 1)
signed_decimal [] n nonempty sign digits = absurd (omega arith)
signed_decimal (b ∷ bs) n nonempty sign digits =
    let counted : suc n ≡ n + 1 = omega arith in
    subst (λ (k : ℕ). IsLongest IsDecimal (b ∷ bs) k) counted (subst (λ (a : ℕ). IsLongest IsDecimal (a ∷ bs) (suc n)) (sym sign) (signed_longest bs n digits))

no_signed : (bs : List ℕ) → HasNoFront IsDigits bs → HasNoFront IsDecimal (45 ∷ bs)
no_signed bs none zero within number = absurd number
no_signed bs none (suc m) within number = none m (omega arith) number

pub no_signed_decimal : (bs : List ℕ) → 0 < length bs → get_or bs 0 0 ≡ 45 → HasNoFront IsDigits (drop 1 bs) → HasNoFront IsDecimal bs
no_signed_decimal [] nonempty sign none = absurd (omega arith)
no_signed_decimal (b ∷ bs) nonempty sign none =
    subst (λ (a : ℕ). HasNoFront IsDecimal (a ∷ bs)) (sym sign) (no_signed bs none)

-- ---- numbers with their radix

-- a `-` is a digit of no radix
no_dash_digit : (w x y z : Bool) → (if w then false else (if x then false else (if y then false else (if z then false else false)))) ≡ false
no_dash_digit true x y z = refl
no_dash_digit false true y z = refl
no_dash_digit false false true z = refl
no_dash_digit false false false true = refl
no_dash_digit false false false false = refl

no_dash_first : (letter : ℕ) (ds : List ℕ) → AreDigitsBehind letter (45 ∷ ds) → ⊥
no_dash_first letter ds are =
    let none : is_digit_behind letter 45 ≡ false = no_dash_digit (letter == 98) (letter == 111) (letter == 100) (letter == 104) in
    both_ways (is_digit_behind letter 45) none (AllPass-head (is_digit_behind letter) 45 ds are.1)

-- such a number has three bytes or more
pub radix_long : (bs : List ℕ) → IsRadixNumber bs → 3 ≤ length bs
radix_long bs number =
    let some = number.are.0 in
    ⊎_elim
    (λ plain. omega (arith, some, ap length plain))
    (λ signed. ⊎_elim (λ inner. omega (arith, some, ap length inner)) (λ outer. omega (arith, some, ap length outer)) signed)
    number.spelt

-- what is in front of the digits, and the digits, where such a number begins with a `-`
pub outer_has : (letter : ℕ) (ds : List ℕ) → IsRadixNumber (45 ∷ 48 ∷ letter ∷ ds) → AreDigitsBehind letter ds
outer_has letter ds number =
    ⊎_elim
    (λ plain. absurd (cc))
    (λ signed. ⊎_elim (λ inner. absurd (cc)) (λ outer. let l : number.letter ≡ letter = cc in let d : number.digits ≡ ds = cc in subst (λ (x : List ℕ). AreDigitsBehind letter x) d (subst (λ (x : ℕ). AreDigitsBehind x number.digits) l number.are)) signed)
    number.spelt

pub inner_has : (letter : ℕ) (ds : List ℕ) → IsRadixNumber (48 ∷ letter ∷ 45 ∷ ds) → AreDigitsBehind letter ds
inner_has letter ds number =
    ⊎_elim
    (λ plain. let d : number.digits ≡ 45 ∷ ds = cc in absurd (no_dash_first number.letter ds (subst (λ (x : List ℕ). AreDigitsBehind number.letter x) d number.are)))
    (λ signed. ⊎_elim (λ inner. let l : number.letter ≡ letter = cc in let d : number.digits ≡ ds = cc in subst (λ (x : List ℕ). AreDigitsBehind letter x) d (subst (λ (x : ℕ). AreDigitsBehind x number.digits) l number.are)) (λ outer. absurd (cc)) signed)
    number.spelt

pub plain_has : (letter : ℕ) (ds : List ℕ) → get_or ds 0 0 ≢ 45 → IsRadixNumber (48 ∷ letter ∷ ds) → AreDigitsBehind letter ds
plain_has letter ds other number =
    ⊎_elim
    (λ plain. let l : number.letter ≡ letter = cc in let d : number.digits ≡ ds = cc in subst (λ (x : List ℕ). AreDigitsBehind letter x) d (subst (λ (x : ℕ). AreDigitsBehind x number.digits) l number.are))
    (λ signed. ⊎_elim (λ inner. let d : ds ≡ 45 ∷ number.digits = cc in absurd (other (ap (λ (x : List ℕ). get_or x 0 0) d))) (λ outer. absurd (cc)) signed)
    number.spelt

-- the fronts that are such numbers are these bytes and then the digits behind this letter
record IsHead (bs : List ℕ) (n letter : ℕ) : Type 0 where
  within : n ≤ length bs
  to : (m : ℕ) → AreDigitsBehind letter (take m (drop n bs)) → IsRadixNumber (take (n + m) bs)
  from : (m : ℕ) → m ≤ length bs → IsRadixNumber (take m bs) → (j : ℕ) × (m ≡ n + j) × AreDigitsBehind letter (take j (drop n bs))

radix_size : (bs : List ℕ) (m : ℕ) → m ≤ length bs → IsRadixNumber (take m bs) → 3 ≤ m
radix_size bs m within number = omega (arith, radix_long (take m bs) number, length-take-le m bs within)

outer_head : (letter : ℕ) (ds : List ℕ) → IsHead (45 ∷ 48 ∷ letter ∷ ds) 3 letter
outer_head letter ds = record { within = omega arith; to = to; from = from }
  where
    to : (m : ℕ) → AreDigitsBehind letter (take m ds) → IsRadixNumber (take (3 + m) (45 ∷ 48 ∷ letter ∷ ds))
    to m are =
        let count : suc (suc (suc m)) ≡ 3 + m = omega arith in
        subst (λ (k : ℕ). IsRadixNumber (take k (45 ∷ 48 ∷ letter ∷ ds))) count (record { letter = letter; digits = take m ds; are = are; spelt = inr (inr refl) })

    from : (m : ℕ) → m ≤ length (45 ∷ 48 ∷ letter ∷ ds) → IsRadixNumber (take m (45 ∷ 48 ∷ letter ∷ ds)) → (j : ℕ) × (m ≡ 3 + j) × AreDigitsBehind letter (take j ds)
    from (suc (suc (suc j))) within number = (j, omega arith, outer_has letter (take j ds) number)
    from m within number = absurd (omega (arith, radix_size (45 ∷ 48 ∷ letter ∷ ds) m within number))

inner_head : (letter : ℕ) (ds : List ℕ) → IsHead (48 ∷ letter ∷ 45 ∷ ds) 3 letter
inner_head letter ds = record { within = omega arith; to = to; from = from }
  where
    to : (m : ℕ) → AreDigitsBehind letter (take m ds) → IsRadixNumber (take (3 + m) (48 ∷ letter ∷ 45 ∷ ds))
    to m are =
        let count : suc (suc (suc m)) ≡ 3 + m = omega arith in
        subst (λ (k : ℕ). IsRadixNumber (take k (48 ∷ letter ∷ 45 ∷ ds))) count (record { letter = letter; digits = take m ds; are = are; spelt = inr (inl refl) })

    from : (m : ℕ) → m ≤ length (48 ∷ letter ∷ 45 ∷ ds) → IsRadixNumber (take m (48 ∷ letter ∷ 45 ∷ ds)) → (j : ℕ) × (m ≡ 3 + j) × AreDigitsBehind letter (take j ds)
    from (suc (suc (suc j))) within number = (j, omega arith, inner_has letter (take j ds) number)
    from m within number = absurd (omega (arith, radix_size (48 ∷ letter ∷ 45 ∷ ds) m within number))

plain_head : (letter c : ℕ) (ds : List ℕ) → c ≢ 45 → IsHead (48 ∷ letter ∷ c ∷ ds) 2 letter
plain_head letter c ds other = record { within = omega arith; to = to; from = from }
  where
    to : (m : ℕ) → AreDigitsBehind letter (take m (c ∷ ds)) → IsRadixNumber (take (2 + m) (48 ∷ letter ∷ c ∷ ds))
    to m are =
        let count : suc (suc m) ≡ 2 + m = omega arith in
        subst (λ (k : ℕ). IsRadixNumber (take k (48 ∷ letter ∷ c ∷ ds))) count (record { letter = letter; digits = take m (c ∷ ds); are = are; spelt = inl refl })

    from : (m : ℕ) → m ≤ length (48 ∷ letter ∷ c ∷ ds) → IsRadixNumber (take m (48 ∷ letter ∷ c ∷ ds)) → (j : ℕ) × (m ≡ 2 + j) × AreDigitsBehind letter (take j (c ∷ ds))
    from (suc (suc (suc j))) within number = (suc j, omega arith, plain_has letter (c ∷ take j ds) other number)
    from m within number = absurd (omega (arith, radix_size (48 ∷ letter ∷ c ∷ ds) m within number))

-- so many bytes before the digits, and this letter
abbrev before : ℕ → ℕ → Option (ℕ × ℕ)
before n letter = Some (n, letter)

-- what the head of such a number says, by its first three bytes
head_found : (bs : List ℕ) (n letter : ℕ) → radix_head bs ≡ before n letter → IsHead bs n letter
head_found [] n letter e = absurd (cc)
head_found (a ∷ []) n letter e = absurd (cc)
head_found (a ∷ b ∷ []) n letter e = absurd (cc)
head_found (a ∷ b ∷ c ∷ ds) n letter e = by (a == 45) (b == 48) (a == 48) (c == 45) refl refl refl refl e
  where
    here : (k l : ℕ) → IsHead (a ∷ b ∷ c ∷ ds) k l → before k l ≡ before n letter → IsHead (a ∷ b ∷ c ∷ ds) n letter
    here k l head same = subst (λ (p : ℕ × ℕ). IsHead (a ∷ b ∷ c ∷ ds) p.0 p.1) (same_Some (k, l) (n, letter) same) head

    zero_first : (y z : Bool) → (a == 48) ≡ y → (c == 45) ≡ z → (if y then (if z then before 3 b else before 2 b) else None) ≡ before n letter → IsHead (a ∷ b ∷ c ∷ ds) n letter
    zero_first false z p q f = absurd (cc)
    zero_first true true p q f =
        here 3 b (subst (λ (x : ℕ). IsHead (x ∷ b ∷ c ∷ ds) 3 b) (sym (eqb-true a 48 p)) (subst (λ (x : ℕ). IsHead (48 ∷ b ∷ x ∷ ds) 3 b) (sym (eqb-true c 45 q)) (inner_head b ds))) f
    zero_first true false p q f =
        here 2 b (subst (λ (x : ℕ). IsHead (x ∷ b ∷ c ∷ ds) 2 b) (sym (eqb-true a 48 p)) (plain_head b c ds (eqb-false c 45 q))) f

    by : (w x y z : Bool) → (a == 45) ≡ w → (b == 48) ≡ x → (a == 48) ≡ y → (c == 45) ≡ z → (if w && x then before 3 c else (if y then (if z then before 3 b else before 2 b) else None)) ≡ before n letter → IsHead (a ∷ b ∷ c ∷ ds) n letter
    by true true y z o p q r f =
        here 3 c (subst (λ (x : ℕ). IsHead (x ∷ b ∷ c ∷ ds) 3 c) (sym (eqb-true a 45 o)) (subst (λ (x : ℕ). IsHead (45 ∷ x ∷ c ∷ ds) 3 c) (sym (eqb-true b 48 p)) (outer_head c ds))) f
    by true false y z o p q r f = zero_first y z q r f
    by false x y z o p q r f = zero_first y z q r f

-- bytes without such a head begin with no such number
pub no_head : (bs : List ℕ) → radix_head bs ≡ None → HasNoFront IsRadixNumber bs
no_head [] e m within number = absurd (omega (arith, radix_size [] m within number))
no_head (a ∷ []) e m within number = absurd (omega (arith, radix_size (a ∷ []) m within number))
no_head (a ∷ b ∷ []) e m within number = absurd (omega (arith, radix_size (a ∷ b ∷ []) m within number))
no_head (a ∷ b ∷ c ∷ ds) e (suc (suc (suc m))) within number =
    ⊎_elim
    (λ plain. let first : a ≡ 48 = cc in zero_first (a == 45 && b == 48) (c == 45) first e)
    (λ signed. ⊎_elim (λ inner. let first : a ≡ 48 = cc in zero_first (a == 45 && b == 48) (c == 45) first e) (λ outer. let first : a ≡ 45 = cc in let second : b ≡ 48 = cc in both_first (a == 48) (c == 45) first second e) signed)
    number.spelt
  where
    zero_first : (w z : Bool) → a ≡ 48 → (if w then before 3 c else (if a == 48 then (if z then before 3 b else before 2 b) else None)) ≡ None → ⊥
    zero_first true z first f = cc
    zero_first false true first f = let g : before 3 b ≡ None = ap (λ (t : Bool). if t then before 3 b else None) (sym (eq-eqb a 48 first)) ∙ f in cc
    zero_first false false first f = let g : before 2 b ≡ None = ap (λ (t : Bool). if t then before 2 b else None) (sym (eq-eqb a 48 first)) ∙ f in cc

    both_first : (y z : Bool) → a ≡ 45 → b ≡ 48 → (if a == 45 && b == 48 then before 3 c else (if y then (if z then before 3 b else before 2 b) else None)) ≡ None → ⊥
    both_first y z first second f =
        let other = if y then (if z then before 3 b else before 2 b) else None in
        let g : before 3 c ≡ None = sym (ap (λ (t : Bool). if t && b == 48 then before 3 c else other) (eq-eqb a 45 first) ∙ ap (λ (t : Bool). if t then before 3 c else other) (eq-eqb b 48 second)) ∙ f in
        cc
no_head (a ∷ b ∷ c ∷ ds) e m within number = absurd (omega (arith, radix_size (a ∷ b ∷ c ∷ ds) m within number))

pub head_within : (bs : List ℕ) (n letter : ℕ) → radix_head bs ≡ Some (n, letter) → n ≤ length bs
head_within bs n letter e = (head_found bs n letter e).within

-- behind such a head, the longest digits end the longest number; without digits there is none
pub radix_front : (bs : List ℕ) (n letter k : ℕ) → radix_head bs ≡ Some (n, letter) → IsLongest (AreDigitsBehind letter) (drop n bs) k → IsLongest IsRadixNumber bs (n + k)
radix_front bs n letter k e digits =
    let head = head_found bs n letter e in
    record {
      within = omega (arith, head.within, digits.within, length-drop n bs);
      has = head.to k digits.has;
      longest = λ m within number. let part = head.from m within number in omega (arith, part.1, digits.longest part.0 (omega (arith, part.1, within, head.within, length-drop n bs)) part.2);
    }

pub no_radix_digits : (bs : List ℕ) (n letter : ℕ) → radix_head bs ≡ Some (n, letter) → HasNoFront (AreDigitsBehind letter) (drop n bs) → HasNoFront IsRadixNumber bs
no_radix_digits bs n letter e none m within number =
    let head = head_found bs n letter e in
    let part = head.from m within number in
    none part.0 (omega (arith, part.1, within, head.within, length-drop n bs)) part.2

-- ---- any number

-- no decimal digit is the letter of a radix
digit_no_letter : (letter b : ℕ) → is_ascii_digit letter ≡ true → is_digit_behind letter b ≡ false
digit_no_letter letter b digit = rw (no_b, no_o, no_d, no_h) refl
  where
    no_b : (letter == 98) ≡ false
    no_b = grind (arith, nat_tests)

    no_o : (letter == 111) ≡ false
    no_o = grind (arith, nat_tests)

    no_d : (letter == 100) ≡ false
    no_d = grind (arith, nat_tests)

    no_h : (letter == 104) ≡ false
    no_h = grind (arith, nat_tests)

letter_no_digit : (letter : ℕ) (ds : List ℕ) → AreDigitsBehind letter ds → is_ascii_digit letter ≡ false
letter_no_digit letter [] are = absurd (omega (arith, are.0))
letter_no_digit letter (d ∷ ds) are =
    ⊎_elim
    (λ digit. absurd (both_ways (is_digit_behind letter d) (digit_no_letter letter d digit) (AllPass-head (is_digit_behind letter) d ds are.1)))
    (λ other. other)
    (cases_Bool (is_ascii_digit letter))

-- each byte of a decimal number but its first is a digit
decimal_digit : (bs : List ℕ) (k : ℕ) → IsDecimal bs → 1 ≤ k → k < length bs → is_ascii_digit (get_or bs k 0) ≡ true
decimal_digit [] k number from within = absurd number
decimal_digit (b ∷ bs) zero number from within = absurd (omega (arith, from))
decimal_digit (b ∷ bs) (suc k) number from within =
    ⊎_elim
    (λ sign. (MatchBool-at_true _ _ (eq-eqb b 45 sign) number).1 k 0 (omega (arith, within)))
    (λ plain. (MatchBool-at_false _ _ (ne_eqb b 45 plain) number).1 (suc k) 0 within)
    (cases_eq b 45)

-- the letter of the radix is the second or the third byte
letter_place : (bs : List ℕ) → IsRadixNumber bs → (k : ℕ) × (1 ≤ k) × (k < 3) × (is_ascii_digit (get_or bs k 0) ≡ false)
letter_place bs number =
    let other = letter_no_digit number.letter number.digits number.are in
    ⊎_elim
    (λ plain. (1, omega arith, omega arith, ap (λ (l : List ℕ). is_ascii_digit (get_or l 1 0)) plain ∙ other))
    (λ signed. ⊎_elim
    (λ inner. (1, omega arith, omega arith, ap (λ (l : List ℕ). is_ascii_digit (get_or l 1 0)) inner ∙ other))
    (λ outer. (2, omega arith, omega arith, ap (λ (l : List ℕ). is_ascii_digit (get_or l 2 0)) outer ∙ other))
    signed)
    number.spelt

-- a decimal number at the front of bytes that begin with a number with its radix is shorter than that
decimal_shorter : (bs : List ℕ) (n m : ℕ) → n ≤ length bs → m ≤ length bs → IsRadixNumber (take n bs) → IsDecimal (take m bs) → m ≤ n
decimal_shorter bs n m n_within m_within number decimal =
    ⊎_elim
    (λ short. omega (arith, short, radix_size bs n n_within number))
    (λ long.
    let at = letter_place (take n bs) number in
    let digit : is_ascii_digit (get_or (take m bs) at.0 0) ≡ true = decimal_digit (take m bs) at.0 decimal at.1 (omega (arith, at.2, long, length-take-le m bs m_within)) in
    let same : get_or (take m bs) at.0 0 ≡ get_or (take n bs) at.0 0 = get_or-take m bs at.0 0 (omega (arith, at.2, long)) ∙ sym (get_or-take n bs at.0 0 (omega (arith, at.2, radix_size bs n n_within number))) in
    absurd (both_ways _ at.3 (ap is_ascii_digit (sym same) ∙ digit)))
    (cases_lt m 3)

pub with_radix : (bs : List ℕ) (n : ℕ) → IsLongest IsRadixNumber bs n → IsLongest IsNumber bs n
with_radix bs n radix = record {
  within = radix.within;
  has = inr radix.has;
  longest = λ m within number. ⊎_elim (decimal_shorter bs n m radix.within within radix.has) (radix.longest m within) number;
}

pub without_radix : (bs : List ℕ) (found : Option ℕ) → HasNoFront IsRadixNumber bs → FindsFront IsDecimal bs found → FindsFront IsNumber bs found
without_radix bs None no_radix none = λ m within number. ⊎_elim (none m within) (no_radix m within) number
without_radix bs (Some n) no_radix decimal = record {
  within = decimal.within;
  has = inl decimal.has;
  longest = λ m within number. ⊎_elim (decimal.longest m within) (λ radix. absurd (no_radix m within radix)) number;
}
