-- What can be decided, and the signals of a list that pass.
use Rattle.std.proofs.Common.{◌≡◌, ℕ, zero, suc, ◌<◌, ◌≤◌, Bool, true, false, refl, subst, inl, inr, ◌⊎◌, arith}
use Rattle.std.proofs.lemmas.Bool.{cases_lt}

-- it holds, or it doesn't
abbrev pub Decided : Type 0 → Type 0
Decided P = P ⊎ (P → ⊥)

abbrev pub holds : {P : Type 0} → Decided P → Bool
holds (inl p) = true
holds (inr n) = false

pub holds-true : {P : Type 0} (d : Decided P) → holds d ≡ true → P
holds-true (inl p) e = p
holds-true (inr n) e = absurd (cc)

pub true-holds : {P : Type 0} (d : Decided P) → P → holds d ≡ true
true-holds (inl p) q = refl
true-holds (inr n) q = absurd (n q)

pub either : {P Q : Type 0} → Decided P → Decided Q → Decided (P ⊎ Q)
either (inl p) d = inl (inl p)
either (inr n) (inl q) = inl (inr q)
either {P} {Q} (inr n) (inr m) = inr none
  where
    none : P ⊎ Q → ⊥
    none (inl p) = n p
    none (inr q) = m q

pub both : {P Q : Type 0} → Decided P → Decided Q → Decided (P × Q)
both (inl p) (inl q) = inl (p, q)
both (inl p) (inr m) = inr (λ b. m b.1)
both (inr n) d = inr (λ b. n b.0)

pub all-three : {P Q R : Type 0} → Decided P → Decided Q → Decided R → Decided (P × Q × R)
all-three (inl p) (inl q) (inl r) = inl (p, q, r)
all-three (inl p) (inl q) (inr n) = inr (λ b. n b.2)
all-three (inl p) (inr n) d = inr (λ b. n b.1)
all-three (inr n) d e = inr (λ b. n b.0)

pub is-below : (s n : ℕ) → Decided (s < n)
is-below s n = by (cases_lt s n)
  where
    by : (s < n) ⊎ (n ≤ s) → Decided (s < n)
    by (inl lt) = inl lt
    by (inr ge) = inr (λ lt. absurd (omega (arith, lt, ge)))

-- a number below n for which it holds
pub record IsAny (P : ℕ → Type 0) (n : ℕ) : Type 0 where
  pub number : ℕ
  pub below : number < n
  pub is : P number

pub any-below : (P : ℕ → Type 0) (n : ℕ) → ((x : ℕ) → x < n → Decided (P x)) → Decided (IsAny P n)
any-below P zero each = inr (λ any. absurd (let lt = any.below in omega (arith, lt)))
any-below P (suc n) each = by (each n (omega arith)) (any-below P n (λ x lt. each x (omega (arith, lt))))
  where
    up : IsAny P n → IsAny P (suc n)
    up any = record { number = any.number; below = (let lt = any.below in omega (arith, lt)); is = any.is }

    by : Decided (P n) → Decided (IsAny P n) → Decided (IsAny P (suc n))
    by (inl p) d = inl (record { number = n; below = omega arith; is = p })
    by (inr miss) (inl any) = inl (up any)
    by (inr miss) (inr none) = inr (λ any. at any (cases_lt any.number n))
      where
        last : (any : IsAny P (suc n)) → n ≤ any.number → P n
        last any ge = let same : any.number ≡ n = (let lt = any.below in omega (arith, lt, ge)) in subst P same any.is

        at : (any : IsAny P (suc n)) → (any.number < n) ⊎ (n ≤ any.number) → ⊥
        at any (inl lt) = none (record { number = any.number; below = lt; is = any.is })
        at any (inr ge) = miss (last any ge)
