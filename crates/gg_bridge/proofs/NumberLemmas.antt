-- Items by number, the place of a number in a list, and what is left without some numbers.
pub use Rattle.gg_order.proofs.NumberLemmas.{any-has, any-is, behind-once}
use Rattle.std.proofs.Common.{◌≡◌, ◌≢◌, ℕ, zero, suc, ◌+◌, ◌<◌, List, [], ◌∷◌, length, get_or, Bool, true, false, true≢false, eq-eqb, true-eqb, Option, Some, None, refl, sym, ◌∙◌, ap, inl, inr, ◌⊎◌, arith}
use Rattle.std.specs.Prelude.{◌==◌, not, if◌then◌else◌, option_map, unwrap_or, Contains, AllPairs}
use Rattle.std.specs.List.{list_any, range_with_len}
use Rattle.std.proofs.lemmas.Bool.{cases_Bool}
use Rattle.std.proofs.lemmas.List.{get_or_default}
use Rattle.std.proofs.lemmas.List.Kept.{AllPairs-filter}
use Rattle.std.proofs.lemmas.List.FromFn.{get_or-range_with_len}
use Rattle.gg_flat.specs.Line.{value_at}
use Rattle.gg_flat.proofs.ListLemmas.{Contains-cases, Contains-filter, filter-cases, once-apart}
use Rattle.gg_bridge.specs.Joined.{place_among, without}
use Rattle.gg_bits.specs.Lists.{by_number}

-- ---- items by number

pub length-by : {A B : Type 0} (f : ℕ → A → B) (n : ℕ) (xs : List A) → length (by_number f n xs) ≡ length xs
length-by f n [] = refl
length-by f n (x ∷ xs) = ap suc (length-by f (suc n) xs)

at-by : {A B : Type 0} (f : ℕ → A → B) (n : ℕ) (xs : List A) (i : ℕ) (any : A) (other : B) → i < length xs → get_or (by_number f n xs) i other ≡ f (n + i) (get_or xs i any)
at-by f n [] i any other lt = absurd (omega (arith, lt))
at-by f n (x ∷ xs) zero any other lt = ap (λ k. f k x) (let same : n ≡ n + 0 = omega arith in same)
at-by f n (x ∷ xs) (suc i) any other lt = at-by f (suc n) xs i any other (omega (arith, lt)) ∙ ap (λ k. f k (get_or xs i any)) (let same : suc n + i ≡ n + suc i = omega arith in same)

pub at-first : {A B : Type 0} (f : ℕ → A → B) (xs : List A) (i : ℕ) (any : A) (other : B) → i < length xs → get_or (by_number f 0 xs) i other ≡ f i (get_or xs i any)
at-first f xs i any other lt = at-by f 0 xs i any other lt ∙ ap (λ k. f k (get_or xs i any)) (let same : 0 + i ≡ i = omega arith in same)

-- ---- numbers behind a first one

pub behind : (a n i : ℕ) → i < n → value_at (range_with_len a n) i ≡ a + i
behind a n i lt = get_or-range_with_len a n i 0 lt

pub behind-first : (n i : ℕ) → i < n → value_at (range_with_len 0 n) i ≡ i
behind-first n i lt = get_or-range_with_len 0 n i 0 lt ∙ (let same : 0 + i ≡ i = omega arith in same)

-- ---- the place of a number

-- a place at which the number stands, or the number isn't there
abbrev pub Tells : List ℕ → ℕ → Option ℕ → Type 0
Tells xs s None = Contains xs s → ⊥
Tells xs s (Some i) = (i < length xs) × (value_at xs i ≡ s)

pub place-tells : (xs : List ℕ) (s : ℕ) → Tells xs s (place_among xs s)
place-tells [] s = λ h. absurd (omega (arith, h.1))
place-tells (x ∷ xs) s = by (x == s) refl (place_among xs s) (place-tells xs s)
  where
    by : (b : Bool) → (x == s) ≡ b → (o : Option ℕ) → Tells xs s o → Tells (x ∷ xs) s (if b then Some 0 else option_map suc o)
    by true e o t = (omega arith, true-eqb x s (sym e))
    by false e None t = λ h. at (Contains-cases x s xs h)
      where
        at : (x ≡ s) ⊎ Contains xs s → ⊥
        at (inl same) = absurd (true≢false (sym (eq-eqb x s same) ∙ e))
        at (inr r) = t r
    by false e (Some i) t = (omega (arith, t.0), t.1)

-- what stands in a list of distinct numbers has its place
pub place-is : (xs : List ℕ) (i : ℕ) → AllPairs (λ a b. a ≢ b) xs → i < length xs → place_among xs (value_at xs i) ≡ Some i
place-is xs i once lt = by (place_among xs (value_at xs i)) (place-tells xs (value_at xs i))
  where
    by : (o : Option ℕ) → Tells xs (value_at xs i) o → o ≡ Some i
    by None t = absurd (t (i, lt, get_or_default xs i (value_at xs i) 0 lt))
    by (Some j) t = ap Some (once-apart xs 0 once j i t.0 lt t.1)

-- a number that is there has a place, also where a number stands for none
pub record IsPlaceOf (xs : List ℕ) (s : ℕ) : Type 0 where
  pub known : unwrap_or (place_among xs s) 0 < length xs
  pub is : value_at xs (unwrap_or (place_among xs s) 0) ≡ s

pub place-of : (xs : List ℕ) (s : ℕ) → Contains xs s → IsPlaceOf xs s
place-of xs s h = by (place_among xs s) refl (place-tells xs s)
  where
    by : (o : Option ℕ) → place_among xs s ≡ o → Tells xs s o → IsPlaceOf xs s
    by None e t = absurd (t h)
    by (Some i) e t =
        let at : unwrap_or (place_among xs s) 0 ≡ i = ap (λ (o : Option ℕ). unwrap_or o 0) e in
        record { known = omega (arith, t.0, at); is = ap (value_at xs) at ∙ t.1 }

-- ---- numbers that are left

-- it was there, and isn't gone
pub record IsLeft (gone list : List ℕ) (s : ℕ) : Type 0 where
  pub among : Contains list s
  pub stays : Contains gone s → ⊥

pub left-is : (gone list : List ℕ) (s : ℕ) → Contains (without gone list) s → IsLeft gone list s
left-is gone list s h =
    let kept = filter-cases (λ x. not (list_any (λ t. t == x) gone)) list s h in
    record { among = kept.among; stays = λ is. absurd (true≢false (sym kept.passes ∙ ap not (any-has gone s is))) }

pub left-in : (gone list : List ℕ) (s : ℕ) → Contains list s → (Contains gone s → ⊥) → Contains (without gone list) s
left-in gone list s h stays = Contains-filter (λ x. not (list_any (λ t. t == x) gone)) list s h (by (cases_Bool (list_any (λ t. t == s) gone)))
  where
    by : (list_any (λ t. t == s) gone ≡ true) ⊎ (list_any (λ t. t == s) gone ≡ false) → not (list_any (λ t. t == s) gone) ≡ true
    by (inl e) = absurd (stays (any-is gone s e))
    by (inr e) = ap not e

pub left-once : (gone list : List ℕ) → AllPairs (λ a b. a ≢ b) list → AllPairs (λ a b. a ≢ b) (without gone list)
left-once gone list once = AllPairs-filter (λ a b. a ≢ b) (λ x. not (list_any (λ t. t == x) gone)) list once
