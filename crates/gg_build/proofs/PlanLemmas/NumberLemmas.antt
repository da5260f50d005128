-- The place of a number in a list, and the numbers below n that pass a test.
use Rattle.std.proofs.Common.{◌≡◌, ◌≢◌, ℕ, ◌+◌, ◌<◌, List, [], ◌∷◌, length, get_or, Bool, true, true≢false, refl, sym, ◌∙◌, ap, Some, None, eq-eqb, true-eqb, arith}
use Rattle.std.specs.Prelude.{Option, filter, unwrap_or, ◌==◌, Contains, AllPairs}
use Rattle.std.specs.List.{range_with_len}
use Rattle.std.proofs.lemmas.List.{get_or_default}
use Rattle.std.proofs.lemmas.List.Elements.{Contains-get_or}
use Rattle.std.proofs.lemmas.List.FromFn.{length-range_with_len, get_or-range_with_len}
use Rattle.std.proofs.lemmas.List.Kept.{AllPairs-filter}
use Rattle.std.proofs.lemmas.List.Folds.{list_any_at}
use Rattle.gg_flat.specs.Line.{value_at}
use Rattle.gg_flat.proofs.ListLemmas.{here, Contains-filter, filter-cases, once-apart}
use Rattle.gg_cut_plan.specs.Listed.{first_place}
use Rattle.gg_cut_plan.proofs.PathLemmas.{first_place-Some, first_place-None}
use Rattle.gg_build.specs.plan.Built.{place_in}

-- ---- places

-- a number stands at its place in the list
pub record IsPlaced (numbers : List ℕ) (c : ℕ) : Type 0 where
  pub within : place_in numbers c < length numbers
  pub is : value_at numbers (place_in numbers c) ≡ c

pub placed : (numbers : List ℕ) (c : ℕ) → Contains numbers c → IsPlaced numbers c
placed numbers c has = by (first_place (λ d. d == c) numbers) refl
  where
    by : (found : Option ℕ) → first_place (λ d. d == c) numbers ≡ found → IsPlaced numbers c
    by None e =
        let any = list_any_at (λ d. d == c) numbers has.0 c has.1 (eq-eqb (get_or numbers has.0 c) c has.2) in
        absurd (true≢false (sym any ∙ first_place-None (λ d. d == c) numbers e))
    by (Some i) e =
        let at = first_place-Some (λ d. d == c) numbers i e in
        let place : place_in numbers c ≡ i = ap (λ (found : Option ℕ). unwrap_or found 0) e in
        record { within = omega (arith, place, at.within); is = ap (value_at numbers) place ∙ true-eqb (value_at numbers i) c (sym (at.passes 0)) }

-- if no number is twice in the list, the place of the number at place i is i
pub place-back : (numbers : List ℕ) (i : ℕ) → AllPairs (λ a b. a ≢ b) numbers → i < length numbers → place_in numbers (value_at numbers i) ≡ i
place-back numbers i once lt =
    let at = placed numbers (value_at numbers i) (Contains-get_or numbers i 0 lt) in
    once-apart numbers 0 once (place_in numbers (value_at numbers i)) i at.within lt at.is

-- ---- numbers below n that pass a test

module _ (test : ℕ → Bool) (n : ℕ) where
  pub numbers-once : AllPairs (λ a b. a ≢ b) (filter test (range_with_len 0 n))
  numbers-once = AllPairs-filter (λ a b. a ≢ b) test (range_with_len 0 n)
      (λ i j d lt inside same.
      let high : j < n = omega (arith, inside, length-range_with_len 0 n) in
      absurd (omega (arith, lt, same, get_or-range_with_len 0 n i d (omega (arith, lt, high)), get_or-range_with_len 0 n j d high)))

  pub number-in : (c : ℕ) → c < n → test c ≡ true → Contains (filter test (range_with_len 0 n)) c
  number-in c lt passes =
      let among : Contains (range_with_len 0 n) c = (c, omega (arith, lt, length-range_with_len 0 n), get_or-range_with_len 0 n c c lt ∙ (let same : 0 + c ≡ c = omega arith in same)) in
      Contains-filter test (range_with_len 0 n) c among passes

  -- a number of this list is below n, and passes
  pub record IsPassing (c : ℕ) : Type 0 where
    pub below : c < n
    pub passes : test c ≡ true

  pub number-cases : (c : ℕ) → Contains (filter test (range_with_len 0 n)) c → IsPassing c
  number-cases c has =
      let kept = filter-cases test (range_with_len 0 n) c has in
      let k = kept.among.0 in
      let high : k < n = omega (arith, kept.among.1, length-range_with_len 0 n) in
      let is : 0 + k ≡ c = sym (get_or-range_with_len 0 n k c high) ∙ kept.among.2 in
      record { below = omega (arith, is, high); passes = kept.passes }

-- ---- how many there are

pub none-in : (numbers : List ℕ) → ((c : ℕ) → Contains numbers c → ⊥) → length numbers ≡ 0
none-in [] none = refl
none-in (c ∷ numbers) none = absurd (none c (here c numbers))

pub one-in : (numbers : List ℕ) (c : ℕ) → AllPairs (λ a b. a ≢ b) numbers → Contains numbers c → ((d : ℕ) → Contains numbers d → d ≡ c) → length numbers ≡ 1
one-in [] c once has same = absurd (omega (arith, has.1))
one-in (a ∷ []) c once has same = refl
one-in (a ∷ b ∷ numbers) c once has same =
    absurd (once 0 1 0 (omega arith) (omega arith) (same a (0, omega arith, refl) ∙ sym (same b (1, omega arith, refl))))

-- the only number of a list is at place 0
pub one-is : (numbers : List ℕ) (c : ℕ) → length numbers ≡ 1 → Contains numbers c → value_at numbers 0 ≡ c
one-is numbers c one has =
    let first : has.0 ≡ 0 = omega (arith, one, has.1) in
    sym (ap (value_at numbers) first) ∙ get_or_default numbers has.0 0 c has.1 ∙ has.2
