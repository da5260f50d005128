-- The number that digits spell, and the types that it belongs to.
use Rattle.std.proofs.Common.{◌≡◌, ◌≢◌, ℕ, zero, suc, ◌+◌, ◌-◌, ◌*◌, ◌%◌, ◌<◌, ◌≤◌, ◌^◌, List, [], ◌∷◌, length, take, get_or, Bool, true, false, ◌&&◌, Some, None, refl, sym, ap, ◌∙◌, subst, arith, if◌then◌else◌, nat_le, le-ltb, lt-ltb, ne_eqb, pos, negsuc, neg_ℤ, true≢false, ⊎_elim}
use Rattle.std.specs.Prelude.{ℤ, ◌-ℤ◌, ◌==◌, fold, nat_lt, unsigned_abs}
use Rattle.std.specs.Bool.{one_answer}
use Rattle.std.specs.Cmp.{signed_Decides}
use Rattle.std.specs.Char.{digit_value}
use Rattle.std.proofs.Math.Nat.{mul-le-mul_left, mod-lt, mod-eq_of_lt}
use Rattle.std.proofs.lemmas.Bool.{cases_lt, lt-leb, le-leb, ltb-true, ltb-false, leb-true, eqb-true, and_parts}
use Rattle.std.proofs.lemmas.Int.{ints}
use Rattle.std.proofs.lemmas.Nat.{pow_pos}
use Rattle.std.proofs.lemmas.Grind.{one_shifted}
use Rattle.std.proofs.Common.{pow-suc}
use Rattle.gg_bits.specs.declared.types.Kind.{Kind}
use Rattle.gg_bits.specs.declared.types.Kind.TheVariants.{UInt, SInt}
use Rattle.gg_bits.specs.Value.{number_of, pattern_of}
use Rattle.gg_bits.specs.Shape.{of_kind}
use Rattle.gg_ast.specs.declared.expression.Literal.{Literal}
use Rattle.gg_types.specs.Literal.{digit, digits_number, signed_number, is_number_of, literal_number, literal_fits}
use Rattle.gg_types.specs.Types.{is_width, literal_shape}

-- ---- digits

-- further digits don't make a number smaller
fold-grows : (radix n : ℕ) (digits : List ℕ) → 1 ≤ radix → n ≤ fold (λ m c. m * radix + digit c) n digits
fold-grows radix n [] some = omega arith
fold-grows radix n (c ∷ digits) some =
    let rest = fold-grows radix (n * radix + digit c) digits some in
    let more : n * 1 ≤ n * radix = mul-le-mul_left n some in
    omega arith

fold-next : (radix a n i c : ℕ) (digits : List ℕ) → 1 ≤ radix → i < length digits → n ≡ fold (λ m b. m * radix + digit b) a (take i digits) → c ≡ get_or digits i 0 → n * radix + digit c ≤ fold (λ m b. m * radix + digit b) a digits
fold-next radix a n i c [] some lt is at = absurd (omega arith)
fold-next radix a n zero c (d ∷ digits) some lt is at =
    let rest = fold-grows radix (a * radix + digit d) digits some in
    let same : n * radix + digit c ≡ a * radix + digit d = ap (λ m. m * radix + digit c) is ∙ ap (λ b. a * radix + digit b) at in
    omega arith
fold-next radix a n (suc i) c (d ∷ digits) some lt is at =
    fold-next radix (a * radix + digit d) n i c digits some (omega arith) is at

-- the number of the digits so far and the next one is at most the number of all digits
pub digits_number-next : (radix n i c : ℕ) (digits : List ℕ) → 1 ≤ radix → i < length digits → n ≡ digits_number radix (take i digits) → c ≡ get_or digits i 0 → n * radix + digit c ≤ digits_number radix digits
digits_number-next radix n i c digits some lt is at = fold-next radix 0 n i c digits some lt is at

-- whether each number below n passes a test
abbrev below : (p : ℕ → Bool) (n : ℕ) → Bool
below p zero = true
below p (suc n) = p n && below p n

of_below : (p : ℕ → Bool) (n c : ℕ) → below p n ≡ true → c < n → p c ≡ true
of_below p zero c h lt = absurd (omega arith)
of_below p (suc n) c h lt = ⊎_elim
    (λ (l : c < n). of_below p n c (and_parts (p n) (below p n) h).1 l)
    (λ (l : n ≤ c). let e : n ≡ c = omega arith in subst (λ k. p k ≡ true) e (and_parts (p n) (below p n) h).0)
    (cases_lt c n)

-- the value of a digit by the library's `digit_value`, and 16 for any other byte
abbrev ranged : ℕ → ℕ
ranged c = if nat_lt (digit_value c) 16 then digit_value c else 16

all_bytes : below (λ c. digit c == ranged c) 256 ≡ true
unfolding digit
all_bytes = refl

digit-ranged : (c : ℕ) → c < 256 → digit c ≡ ranged c
digit-ranged c lt = let h = of_below (λ b. digit b == ranged b) 256 c all_bytes lt in eqb-true (digit c) (ranged c) h

pub digit-of_digit : (c : ℕ) → c < 256 → digit_value c < 16 → digit c ≡ digit_value c
digit-of_digit c lt small = digit-ranged c lt ∙ rw (lt-ltb (digit_value c) 16 small) refl

pub digit-of_other : (c : ℕ) → c < 256 → ¬ (digit_value c < 16) → digit c ≡ 16
digit-of_other c lt large = digit-ranged c lt ∙ rw (le-ltb (digit_value c) 16 (omega arith)) refl

-- ---- numbers of a type

-- 2 ^ w is twice 2 ^ (w - 1)
twice : (w : ℕ) → 1 ≤ w → 2 ^ w ≡ 2 ^ (w - 1) * 2
twice zero some = absurd (omega arith)
twice (suc v) some = let same : suc v - 1 ≡ v = omega arith in pow-suc 2 v ∙ ap (λ (k : ℕ). 2 ^ k * 2) (sym same)

-- the natural numbers of a UInt of w bits are those below 2 ^ w
pub natural_unsigned : (w m : ℕ) → is_number_of UInt w (pos m) ≡ nat_lt m (2 ^ w)
natural_unsigned w m = one_answer (is_number_of UInt w (pos m)) (nat_lt m (2 ^ w)) (signed_Decides (pos (m % 2 ^ w)) (pos m)) (to, from)
  where
    to : nat_lt m (2 ^ w) ≡ true → pos (m % 2 ^ w) ≡ pos m
    to h = ap pos (mod-eq_of_lt (ltb-true m (2 ^ w) h))

    from : pos (m % 2 ^ w) ≡ pos m → nat_lt m (2 ^ w) ≡ true
    from e =
        let small = mod-lt m (pow_pos w) in
        let same : m % 2 ^ w ≡ m = ap unsigned_abs e in
        lt-ltb m (2 ^ w) (omega arith)

pub negative_unsigned : (w m : ℕ) → is_number_of UInt w (neg_ℤ (pos m)) ≡ (m == 0)
negative_unsigned w zero = natural_unsigned w 0 ∙ lt-ltb 0 (2 ^ w) (pow_pos w)
negative_unsigned w (suc m) = sym (ne_eqb (suc m) 0 (λ e. absurd (omega (arith, e))))

-- a natural number that a pattern of an SInt stands for is below 2 ^ (w - 1)
signed_number_of : (w p m : ℕ) → 1 ≤ w → p < 2 ^ w → number_of SInt w p ≡ pos m → m < 2 ^ (w - 1)
signed_number_of w p m some small e = by (nat_lt p (2 ^ (w - 1))) refl e
  where
    by : (t : Bool) → nat_lt p (2 ^ (w - 1)) ≡ t → (if t then pos p else (pos p -ℤ pos (2 ^ w))) ≡ pos m → m < 2 ^ (w - 1)
    by true h is = let same : p ≡ m = ap unsigned_abs is in let lt = ltb-true p (2 ^ (w - 1)) h in omega arith
    by false h is = absurd (omega (arith, ints, is, small))

-- a negative number that a pattern of an SInt stands for is at least -2 ^ (w - 1)
signed_negative_of : (w p k : ℕ) → 1 ≤ w → number_of SInt w p ≡ negsuc k → suc k ≤ 2 ^ (w - 1)
signed_negative_of w p k some e = by (nat_lt p (2 ^ (w - 1))) refl e
  where
    by : (t : Bool) → nat_lt p (2 ^ (w - 1)) ≡ t → (if t then pos p else (pos p -ℤ pos (2 ^ w))) ≡ negsuc k → suc k ≤ 2 ^ (w - 1)
    by true h is = absurd (omega (arith, ints, is))
    by false h is = let le = ltb-false p (2 ^ (w - 1)) h in omega (arith, ints, is, le, twice w some)

pub natural_signed : (w m : ℕ) → 1 ≤ w → is_number_of SInt w (pos m) ≡ nat_lt m (2 ^ (w - 1))
natural_signed w m some = one_answer (is_number_of SInt w (pos m)) (nat_lt m (2 ^ (w - 1))) (signed_Decides (number_of SInt w (m % 2 ^ w)) (pos m)) (to, from)
  where
    to : nat_lt m (2 ^ (w - 1)) ≡ true → number_of SInt w (m % 2 ^ w) ≡ pos m
    to h =
        let lt = ltb-true m (2 ^ (w - 1)) h in
        let same : m % 2 ^ w ≡ m = mod-eq_of_lt (omega (arith, twice w some, lt)) in
        rw same (rw h refl)

    from : number_of SInt w (m % 2 ^ w) ≡ pos m → nat_lt m (2 ^ (w - 1)) ≡ true
    from e = lt-ltb m (2 ^ (w - 1)) (signed_number_of w (m % 2 ^ w) m some (mod-lt m (pow_pos w)) e)

pub negative_signed : (w m : ℕ) → 1 ≤ w → is_number_of SInt w (neg_ℤ (pos m)) ≡ nat_le m (2 ^ (w - 1))
negative_signed w zero some = natural_signed w 0 some ∙ lt-ltb 0 (2 ^ (w - 1)) (pow_pos (w - 1)) ∙ sym (le-leb 0 (2 ^ (w - 1)) (omega arith))
negative_signed w (suc k) some = one_answer (is_number_of SInt w (negsuc k)) (nat_le (suc k) (2 ^ (w - 1))) (signed_Decides (number_of SInt w (pattern_of w (negsuc k))) (negsuc k)) (to, from)
  where
    to : nat_le (suc k) (2 ^ (w - 1)) ≡ true → number_of SInt w (2 ^ w - 1 - k % 2 ^ w) ≡ negsuc k
    to h =
        let le = leb-true (suc k) (2 ^ (w - 1)) h in
        let same : k % 2 ^ w ≡ k = mod-eq_of_lt (omega (arith, twice w some, le)) in
        rw same (rw (le-ltb (2 ^ w - 1 - k) (2 ^ (w - 1)) (omega (arith, twice w some, le))) (omega (arith, ints, twice w some, le)))

    from : number_of SInt w (2 ^ w - 1 - k % 2 ^ w) ≡ negsuc k → nat_le (suc k) (2 ^ (w - 1)) ≡ true
    from e = le-leb (suc k) (2 ^ (w - 1)) (signed_negative_of w (2 ^ w - 1 - k % 2 ^ w) k some e)

-- a number of size 2 ^ w or more belongs to no type of w bits
pub too_large : (kind : Kind) (w m : ℕ) (negative : Bool) → 1 ≤ w → 2 ^ w ≤ m → is_number_of kind w (signed_number negative m) ≡ false
too_large UInt w m true some large = negative_unsigned w m ∙ ne_eqb m 0 (λ e. absurd (omega (arith, e, pow_pos w)))
too_large UInt w m false some large = natural_unsigned w m ∙ le-ltb m (2 ^ w) large
too_large SInt w m true some large = negative_signed w m some ∙ lt-leb m (2 ^ (w - 1)) (omega (arith, twice w some, pow_pos (w - 1)))
too_large SInt w m false some large = natural_signed w m some ∙ le-ltb m (2 ^ (w - 1)) (omega (arith, twice w some))

-- ---- the pattern of a number

-- the pattern of the number that a pattern stands for is that pattern
pub pattern_of-number : (kind : Kind) (w p : ℕ) → p < 2 ^ w → pattern_of w (number_of kind w p) ≡ p
pattern_of-number UInt w p small = mod-eq_of_lt small
pattern_of-number SInt w p small = by (nat_lt p (2 ^ (w - 1)))
  where
    less : pos p -ℤ pos (2 ^ w) ≡ negsuc (2 ^ w - 1 - p)
    less = omega (arith, ints)

    back : pattern_of w (negsuc (2 ^ w - 1 - p)) ≡ p
    back = let same : (2 ^ w - 1 - p) % 2 ^ w ≡ 2 ^ w - 1 - p = mod-eq_of_lt (omega (arith, pow_pos w)) in rw same (omega arith)

    by : (t : Bool) → pattern_of w (if t then pos p else (pos p -ℤ pos (2 ^ w))) ≡ p
    by true = mod-eq_of_lt small
    by false = ap (pattern_of w) less ∙ back

-- a number that a pattern of a type stands for belongs to the type
pub stands_for : (kind : Kind) (w p : ℕ) (z : ℤ) → p < 2 ^ w → number_of kind w p ≡ z → is_number_of kind w z ≡ true
stands_for kind w p z small is =
    let own : pattern_of w z ≡ p = ap (pattern_of w) (sym is) ∙ pattern_of-number kind w p small in
    (signed_Decides (number_of kind w (pattern_of w z)) z).1 (ap (number_of kind w) own ∙ is)

-- ---- literals

pub literal_shape-none : (l : Literal) → literal_fits l ≡ false → literal_shape l ≡ None
literal_shape-none l e = go (is_width l.width)
  where
    go : (b : Bool) → (if b && literal_fits l then Some (of_kind l.kind l.width) else None) ≡ None
    go true = rw e refl
    go false = refl

-- no pattern of a literal's type stands for its number if the literal doesn't fit
pub literal-no_other : (l : Literal) → literal_fits l ≡ false → (p : ℕ) → p < 2 ^ l.width → number_of l.kind l.width p ≢ literal_number l
literal-no_other l e p small is = true≢false (sym (stands_for l.kind l.width p (literal_number l) small is) ∙ e)

-- ---- the tests of the code, by kind and sign

-- in a u128, 1 shifted left by k places, k below 128, is 2 ^ k
shifted : (k : ℕ) → k < 128 → 1 * 2 ^ k % 340282366920938463463374607431768211456 ≡ 2 ^ k
shifted k lt = (one_shifted k 340282366920938463463374607431768211455 refl (omega arith)).0

module _ (kind : Kind) (w m : ℕ) (negative : Bool) where
  pub natural_unsigned_test : kind ≡ UInt → negative ≡ false → w < 128 → nat_lt m (1 * 2 ^ w % 340282366920938463463374607431768211456) ≡ is_number_of kind w (signed_number negative m)
  natural_unsigned_test k n lt = rw (k, n) (ap (nat_lt m) (shifted w lt) ∙ sym (natural_unsigned w m))

  pub natural_signed_test : kind ≡ SInt → negative ≡ false → 1 ≤ w → w ≤ 128 → nat_lt m (1 * 2 ^ (w - 1) % 340282366920938463463374607431768211456) ≡ is_number_of kind w (signed_number negative m)
  natural_signed_test k n some few = rw (k, n) (ap (nat_lt m) (shifted (w - 1) (omega arith)) ∙ sym (natural_signed w m some))

  pub negative_signed_test : kind ≡ SInt → negative ≡ true → 1 ≤ w → w ≤ 128 → nat_le m (1 * 2 ^ (w - 1) % 340282366920938463463374607431768211456) ≡ is_number_of kind w (signed_number negative m)
  negative_signed_test k n some few = rw (k, n) (ap (nat_le m) (shifted (w - 1) (omega arith)) ∙ sym (negative_signed w m some))
