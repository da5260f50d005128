-- Patterns of whole numbers: two numbers that differ by a multiple of 2 ^ k have the same pattern of k bits.
use Rattle.std.proofs.Common.{◌≡◌, ℕ, ◌+◌, ◌-◌, ◌*◌, ◌/◌, ◌%◌, ◌^◌, ◌<◌, ◌≤◌, min, ⊎_elim, refl, sym, ap, ap₂, subst, ◌∙◌, arith}
use Rattle.std.specs.Prelude.{ℤ, pos, negsuc, ◌+ℤ◌, ◌-ℤ◌, ◌*ℤ◌, unsigned_abs}
use Rattle.std.proofs.lemmas.Int.{int_rem_euclid_is, int_wrap_fits, to_z-of_z}
use Rattle.std.specs.Prelude.{bit_and, bit_or, bit_xor, Bool, true, false, nat_lt, if◌then◌else◌, FitsSigned}
use Rattle.std.proofs.Common.{lit≤, to_z, of_z}
use Rattle.std.specs.Int.{w128, int_wrap, int_shr}
use Rattle.std.specs.Int.Bits.{and_lt}
use borrow.Author.Tests.{ltb-true, ltb-false}
use Rattle.gg_bits.specs.declared.types.Kind.{Kind}
use Rattle.gg_bits.specs.declared.types.Kind.TheVariants.{UInt, SInt}
use Rattle.std.proofs.lemmas.Nat.{pow_pos, pow-add, div-add-mod', and_mask, shr_high, shr_le, pow_below, shl_below, or_shifted, or_lt, xor_lt}
use Rattle.std.proofs.lemmas.Bool.{cases_lt}
use lib.Pow.{ones_split, ones_lt}
use Rattle.std.proofs.Math.Nat.{mod-lt, mod-eq_of_lt, mul-le-mul_left, pow-le-pow_right, div-eq_of_lt}
use Rattle.std.proofs.Math.Pow.{shr_lt}
use Rattle.std.proofs.Math.IntN.{*ℤ_comm}
use borrow.Author.Differences.{up, down, ints, same_in, same_out, sum_is_lem, product_is}
use Rattle.gg_bits.specs.Value.{number_of, pattern_of}
use Rattle.gg_bits.specs.Meaning.{floor_by}

-- if a and b differ by a multiple of 2 ^ k, they have the same pattern of k bits
pub same_pattern : (k : ℕ) (a b : ℤ) (i j : ℕ) → a +ℤ pos (i * 2 ^ k) ≡ b +ℤ pos (j * 2 ^ k) → pattern_of k a ≡ pattern_of k b
same_pattern k a b i j e =
    let m = 2 ^ k in
    let some = pow_pos k in
    let t = down a + down b in
    let far : t * 1 ≤ t * m = mul-le-mul_left t some in
    let n = up a + (i + t) * m - down a in
    let from : (z : ℤ) (h : ℕ) → z +ℤ pos ((h + t) * m) ≡ pos n → pattern_of k z ≡ n % m = λ z h is. ap unsigned_abs (int_rem_euclid_is z (pos m) m (h + t) n some refl is) in
    from a i (omega (arith, ints)) ∙ sym (from b j (omega (arith, ints)))

times : (k : ℕ) (a b c : ℤ) (i j : ℕ) → a +ℤ pos (i * 2 ^ k) ≡ b +ℤ pos (j * 2 ^ k) → pattern_of k (a *ℤ c) ≡ pattern_of k (b *ℤ c)
times k a b c i j e =
    let sum : up a + i * 2 ^ k + down b ≡ up b + j * 2 ^ k + down a = omega (arith, same_out, sum_is_lem) in
    let above = ap (λ x. x * up c) sum in
    let below = ap (λ x. x * down c) sum in
    same_pattern k (a *ℤ c) (b *ℤ c) (i * up c + j * down c) (j * up c + i * down c) (omega (arith, same_in, sum_is_lem, product_is))

-- a number and its pattern differ by a multiple of 2 ^ k
pub left_over : (k : ℕ) (z : ℤ) → (i : ℕ) × (j : ℕ) × (pos (pattern_of k z) +ℤ pos (i * 2 ^ k) ≡ z +ℤ pos (j * 2 ^ k))
left_over k (pos a) = (a / 2 ^ k, 0, omega (arith, same_in, same_out, sum_is_lem, div-add-mod' a (2 ^ k)))
left_over k (negsuc a) =
    let small = mod-lt a (pow_pos k) in
    (0, a / 2 ^ k + 1, omega (arith, same_in, same_out, sum_is_lem, div-add-mod' a (2 ^ k)))

-- the wrapping product of two patterns is the pattern of the product
module _ (k : ℕ) (a b : ℤ) (x y : ℕ) (p : x ≡ pattern_of k a) (q : y ≡ pattern_of k b) where
  pub product_wraps : (x * y) % 2 ^ k ≡ pattern_of k (a *ℤ b)
  product_wraps =
      let l = left_over k a in
      let r = left_over k b in
      let first : pos x +ℤ pos (l.0 * 2 ^ k) ≡ a +ℤ pos (l.1 * 2 ^ k) = ap (λ n. pos n +ℤ pos (l.0 * 2 ^ k)) p ∙ l.2 in
      let second : pos y +ℤ pos (r.0 * 2 ^ k) ≡ b +ℤ pos (r.1 * 2 ^ k) = ap (λ n. pos n +ℤ pos (r.0 * 2 ^ k)) q ∙ r.2 in
      times k (pos x) a (pos y) l.0 l.1 first
      ∙ ap (pattern_of k) (*ℤ_comm a (pos y))
      ∙ times k (pos y) b a r.0 r.1 second
      ∙ ap (pattern_of k) (*ℤ_comm b a)

-- the low k bits of a pattern in j + k bits are the pattern in k bits
pub pattern_of-mod : (j k : ℕ) (z : ℤ) → pattern_of (j + k) z % 2 ^ k ≡ pattern_of k z
pattern_of-mod j k z =
    let l = left_over (j + k) z in
    let split = pow-add 2 j k in
    let low = ap (λ m. l.0 * m) split in
    let high = ap (λ m. l.1 * m) split in
    same_pattern k (pos (pattern_of (j + k) z)) z (l.0 * 2 ^ j) (l.1 * 2 ^ j) (omega (arith, same_in, same_out, sum_is_lem, l.2, low, high))

-- the pattern of a natural that fits is the natural
pub pattern_of-pos : (k n : ℕ) → n < 2 ^ k → pattern_of k (pos n) ≡ n
pattern_of-pos k n h = mod-eq_of_lt h

-- the mask of w bits, as the code makes it: n ones, shifted right by the j that are too many
pub ones_shr : (w j n : ℕ) → j + w ≡ n → (2 ^ n - 1) / 2 ^ j ≡ 2 ^ w - 1
ones_shr w j n e =
    ap (λ m. (2 ^ m - 1) / 2 ^ j) (omega arith) ∙ ap (λ m. m / 2 ^ j) (ones_split w j) ∙ shr_high (2 ^ w - 1) j (2 ^ j - 1) (ones_lt j)

-- this mask takes the low w bits
pub masked : (x w m : ℕ) → m ≡ 2 ^ w - 1 → bit_and x m ≡ x % 2 ^ w
masked x w m f = ap (bit_and x) f ∙ and_mask x w

-- the low w bits of the pattern of a number in n bits are its pattern in w bits
pub pattern_of-low : (x w j n : ℕ) → j + w ≡ n → (z : ℤ) → x ≡ pattern_of n z → x % 2 ^ w ≡ pattern_of w z
pattern_of-low x w j n e z p = ap (λ y. y % 2 ^ w) (p ∙ ap (λ y. pattern_of y z) (sym e)) ∙ pattern_of-mod j w z

-- ---- signed numbers of 128 bits

-- a number that fits is read back from its pattern
pub signed_pattern : (z : ℤ) (x : ℕ) → FitsSigned w128 z → x ≡ pattern_of 128 z → to_z w128 x ≡ z
unfolding int_wrap
signed_pattern z x f e = ap (to_z w128) e ∙ int_wrap_fits w128 z f

-- the bits of a number that fits are its pattern
pub unsigned_pattern : (z : ℤ) → FitsSigned w128 z → of_z w128 z ≡ pattern_of 128 z
unsigned_pattern (pos n) f = sym (pattern_of-pos 128 n (omega (arith, f.sfits)))
unsigned_pattern (negsuc n) f = omega (arith, f.sfits)

-- the number of an SInt fits in 128 bits
pub number_of-fits : (w p : ℕ) → 1 ≤ w → w ≤ 128 → p < 2 ^ w → FitsSigned w128 (number_of SInt w p)
number_of-fits w p some few h = by (nat_lt p (2 ^ (w - 1))) refl
  where
    half : 2 ^ (w - 1) ≤ 2 ^ 127
    half = let le : w - 1 ≤ 127 = omega arith in pow-le-pow_right (lit≤ tt) le

    double : 2 ^ w ≡ 2 ^ (w - 1) * 2 ^ 1
    double = ap (λ (k : ℕ). 2 ^ k) (omega arith) ∙ pow-add 2 (w - 1) 1

    by : (t : Bool) → nat_lt p (2 ^ (w - 1)) ≡ t → FitsSigned w128 (if t then pos p else (pos p -ℤ pos (2 ^ w)))
    by true e = omega (arith, ints, ltb-true, half, double)
    by false e = omega (arith, ints, ltb-false, half, double)

-- ---- shifts

-- 2 ^ k is its own pattern
pub pattern_of-pow : (k n : ℕ) → k < n → pattern_of n (pos (2 ^ k)) ≡ 2 ^ k
pattern_of-pow k n h = pattern_of-pos n (2 ^ k) (pow_below k n h)

-- a number of n bits is 0 once it is shifted by n or more
pub shr_all : (a n k : ℕ) → a < 2 ^ n → n ≤ k → a / 2 ^ k ≡ 0
shr_all a n k h l = let le : 2 ^ n ≤ 2 ^ k = pow-le-pow_right (lit≤ tt) l in let lt : a < 2 ^ k = omega arith in div-eq_of_lt lt

-- for a number of n bits, a shift by more than n is the same as a shift by n
shr_capped : (a n k : ℕ) → a < 2 ^ n → a / 2 ^ min k n ≡ a / 2 ^ k
shr_capped a n k h = ⊎_elim
    (λ (l : k < n). ap (λ m. a / 2 ^ m) (omega arith))
    (λ (l : n ≤ k). let is : min k n ≡ n = omega arith in ap (λ m. a / 2 ^ m) is ∙ shr_all a n n h (omega arith) ∙ sym (shr_all a n k h l))
    (cases_lt k n)

pub floor_capped : (x : ℤ) (k : ℕ) → FitsSigned w128 x → int_shr x (min k 127) ≡ floor_by x k
floor_capped (pos a) k f = ap pos (shr_capped a 127 k f.sfits)
floor_capped (negsuc a) k f = ap negsuc (shr_capped a 127 k f.sfits)

-- a number that fits still fits after it is shifted and rounded down
floor_fits : (x : ℤ) (k : ℕ) → FitsSigned w128 x → FitsSigned w128 (floor_by x k)
floor_fits (pos a) k f = record { sfits = let le = shr_le a k in let lt = f.sfits in omega arith }
floor_fits (negsuc a) k f = record { sfits = let le = shr_le a k in let lt = f.sfits in omega arith }

-- the signed shift as the code computes it gives the pattern of the rounded number
pub floor_pattern : (x : ℤ) (k c : ℕ) → FitsSigned w128 x → c ≡ min k 127
    → of_z w128 (to_z w128 (of_z w128 (int_shr (to_z w128 (of_z w128 x)) c))) ≡ pattern_of 128 (floor_by x k)
floor_pattern x k c f e =
    let fits : FitsSigned w128 (floor_by x k) = floor_fits x k f in
    ap (λ y. of_z w128 (to_z w128 (of_z w128 y))) (ap (λ y. int_shr y c) (to_z-of_z w128 x f) ∙ ap (int_shr x) e ∙ floor_capped x k f)
    ∙ ap (of_z w128) (to_z-of_z w128 (floor_by x k) fits)
    ∙ unsigned_pattern (floor_by x k) fits

-- nothing of a natural of at most 128 bits is left after a shift by 128 or more
pub floor_none : (a w k : ℕ) → a < 2 ^ w → w ≤ 128 → 128 ≤ k → 0 ≡ pattern_of 128 (floor_by (pos a) k)
floor_none a w k h few far = sym (ap (λ y. y % 2 ^ 128) (shr_all a w k h (omega arith)))

-- the absolute value of an SInt with less than 128 bits is below 2 ^ 127
pub number_of-abs : (w p : ℕ) → 1 ≤ w → w < 128 → p < 2 ^ w → unsigned_abs (number_of SInt w p) < 2 ^ 127
number_of-abs w p some few h = by (nat_lt p (2 ^ (w - 1))) refl
  where
    half : 2 ^ (w - 1) ≤ 2 ^ 126
    half = let le : w - 1 ≤ 126 = omega arith in pow-le-pow_right (lit≤ tt) le

    double : 2 ^ w ≡ 2 ^ (w - 1) * 2 ^ 1
    double = ap (λ (k : ℕ). 2 ^ k) (omega arith) ∙ pow-add 2 (w - 1) 1

    by : (t : Bool) → nat_lt p (2 ^ (w - 1)) ≡ t → unsigned_abs (if t then pos p else (pos p -ℤ pos (2 ^ w))) < 2 ^ 127
    by true e = omega (arith, ints, ltb-true, half, double)
    by false e = omega (arith, ints, ltb-false, half, double)

-- ---- bits

-- a pattern has no bit beyond a wider width
pub below_wider : (x v w : ℕ) → v ≤ w → x < 2 ^ v → x < 2 ^ w
below_wider x v w longer h = let whole : 2 ^ v ≤ 2 ^ w = pow-le-pow_right (lit≤ tt) longer in omega arith

-- the pattern of two patterns, one above the other
pub joined_pattern : (a b v w : ℕ) → a < 2 ^ v → b < 2 ^ w → v + w ≤ 128 → bit_or (a * 2 ^ w % 2 ^ 128) b ≡ pattern_of (v + w) (pos (a * 2 ^ w + b))
joined_pattern a b v w h k few =
    let above : a * 2 ^ w < 2 ^ (v + w) = shl_below a v w h in
    let fits : a * 2 ^ w < 2 ^ 128 = below_wider (a * 2 ^ w) (v + w) 128 few above in
    let is : bit_or (a * 2 ^ w) b ≡ a * 2 ^ w + b = or_shifted a w b k in
    let some : bit_or (a * 2 ^ w) b < 2 ^ (v + w) = or_lt (v + w) (a * 2 ^ w) b above (below_wider b w (v + w) (omega arith) k) in
    ap (λ x. bit_or x b) (mod-eq_of_lt fits) ∙ is ∙ sym (pattern_of-pos (v + w) (a * 2 ^ w + b) (rw (← is) some))

-- and, or and exclusive or on patterns of w bits
module _ (w r s x y : ℕ) (h : r < 2 ^ w) (k : s < 2 ^ w) (p : r ≡ x) (q : s ≡ y) where
  pub and_pattern : bit_and r s ≡ pattern_of w (pos (bit_and x y))
  and_pattern = sym (pattern_of-pos w (bit_and r s) (and_lt w r s h k)) ∙ ap (λ z. z % 2 ^ w) (ap₂ bit_and p q)

  pub or_pattern : bit_or r s ≡ pattern_of w (pos (bit_or x y))
  or_pattern = sym (pattern_of-pos w (bit_or r s) (or_lt w r s h k)) ∙ ap (λ z. z % 2 ^ w) (ap₂ bit_or p q)

  pub xor_pattern : bit_xor r s ≡ pattern_of w (pos (bit_xor x y))
  xor_pattern = sym (pattern_of-pos w (bit_xor r s) (xor_lt w r s h k)) ∙ ap (λ z. z % 2 ^ w) (ap₂ bit_xor p q)

-- ---- patterns that stay as they are

-- the pattern of a number is below 2 ^ w
pub pattern_of-lt : (w : ℕ) (z : ℤ) → pattern_of w z < 2 ^ w
pattern_of-lt w (pos n) = mod-lt n (pow_pos w)
pattern_of-lt w (negsuc n) = let small = mod-lt n (pow_pos w) in omega arith

-- a natural of v bits is its own pattern in w bits
pub pattern_of-wider : (v w n : ℕ) → v ≤ w → n < 2 ^ v → n ≡ pattern_of w (pos n)
pattern_of-wider v w n longer h = sym (pattern_of-pos w n (below_wider n v w longer h))

-- the number of a pattern has that pattern in the same width
pub pattern_of-number : (kind : Kind) (w p : ℕ) → p < 2 ^ w → p ≡ pattern_of w (number_of kind w p)
pattern_of-number UInt w p h = sym (pattern_of-pos w p h)
pattern_of-number SInt w p h = by (nat_lt p (2 ^ (w - 1)))
  where
    by : (t : Bool) → p ≡ pattern_of w (if t then pos p else (pos p -ℤ pos (2 ^ w)))
    by true = sym (pattern_of-pos w p h)
    by false = sym (pattern_of-pos w p h) ∙ same_pattern w (pos p) (pos p -ℤ pos (2 ^ w)) 0 1 (omega (arith, ints))

-- the number of a UInt has its pattern in each width from its own on
pub uint_extended : (kind : Kind) (v w n : ℕ) → kind ≡ UInt → v ≤ w → n < 2 ^ v → n ≡ pattern_of w (number_of kind v n)
uint_extended kind v w n is longer h = rw is (pattern_of-wider v w n longer h)

-- and the number of either kind in its own
pub same_extended : (kind : Kind) (v w n : ℕ) → v ≡ w → n < 2 ^ v → n ≡ pattern_of w (number_of kind v n)
same_extended kind v w n same h = subst (λ w. n ≡ pattern_of w (number_of kind v n)) same (pattern_of-number kind v n h)

-- low bits, and upper bits
pub low_pattern : (a w k : ℕ) → w ≡ k → a % 2 ^ w ≡ pattern_of w (pos (a % 2 ^ k))
low_pattern a w k e = subst (λ k. a % 2 ^ w ≡ pattern_of w (pos (a % 2 ^ k))) e (sym (pattern_of-pos w (a % 2 ^ w) (mod-lt a (pow_pos w))))

pub head_pattern : (a v w n : ℕ) → w ≡ n → a < 2 ^ v → a / 2 ^ (v - n) ≡ pattern_of w (pos (a / 2 ^ (v - n)))
head_pattern a v w n e h =
    let upper : a / 2 ^ (v - n) < 2 ^ n = shr_lt n (v - n) (below_wider a v (n + (v - n)) (omega arith) h) in
    sym (pattern_of-pos w (a / 2 ^ (v - n)) (subst (λ k. a / 2 ^ (v - n) < 2 ^ k) (sym e) upper))
