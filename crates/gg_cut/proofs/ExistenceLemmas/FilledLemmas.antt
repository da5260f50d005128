-- A list of what there is for each number below a bound, and whether a number is in a list.
use Rattle.std.proofs.Common.{◌≡◌, ℕ, zero, suc, ◌+◌, ◌<◌, List, [], ◌∷◌, ◌++◌, Bool, true, false, ◌||◌, ◌==◌, if◌then◌else◌, length, get_or, eqb-true, eq-eqb, refl, sym, ◌∙◌, subst, inl, inr, ◌⊎◌, arith, below_more}
use Rattle.std.specs.Prelude.{Contains}
use Rattle.std.proofs.lemmas.Bool.{cases_Bool, cond_both, or_cases, or_left, or_right}
use Rattle.std.proofs.lemmas.List.{get_or_append_left, get_or_push, length_push}
use Rattle.gg_flat.specs.Line.{value_at}
use Rattle.gg_flat.proofs.ListLemmas.{Contains-cases, further, here}

-- ---- what there is for each number

-- a list with what is wanted at each place below n
pub record IsFilled {B : Type 0} (P : ℕ → B → Type 0) (n : ℕ) : Type 0 where
  pub items : List B
  pub many : length items ≡ n
  pub each : (k : ℕ) (any : B) → k < n → P k (get_or items k any)

-- something for a number
pub record Something {B : Type 0} (P : ℕ → B → Type 0) (k : ℕ) : Type 0 where
  pub it : B
  pub is : P k it

-- if there is something for each number below n, there is a list of them
pub filled : {B : Type 0} (P : ℕ → B → Type 0) (n : ℕ) → ((k : ℕ) → k < n → Something P k) → IsFilled P n
filled P zero each = record { items = []; many = refl; each = λ k any lt. absurd (omega (arith, lt)) }
filled {B} P (suc n) each =
    let before = filled P n (λ k lt. each k (omega (arith, lt))) in
    let last = each n (omega arith) in
    let more : (k : ℕ) → k < n + 1 → (any : B) → P k (get_or (before.items ++ last.it ∷ []) k any) =
    below_more (λ k. (any : B) → P k (get_or (before.items ++ last.it ∷ []) k any)) n
    (λ k lt any. subst (P k) (sym (get_or_append_left before.items (last.it ∷ []) any k (omega (arith, lt, before.many)))) (before.each k any lt))
    (λ any. subst (P n) (sym (get_or_push before.items last.it any n before.many)) last.is) in
    record {
      items = before.items ++ last.it ∷ [];
      many = length_push before.items last.it ∙ (let count = before.many in omega (arith, count));
      each = λ k any lt. more k (omega (arith, lt)) any;
    }

-- ---- numbers of a list

-- whether a number is in a list
abbrev pub has : List ℕ → ℕ → Bool
has [] s = false
has (x ∷ xs) s = (x == s) || has xs s

pub has-contains : (xs : List ℕ) (s : ℕ) → has xs s ≡ true → Contains xs s
has-contains [] s e = absurd (cc)
has-contains (x ∷ xs) s e = by (or_cases (x == s) (has xs s) e) (λ later. has-contains xs s later)
  where
    by : ((x == s) ≡ true) ⊎ (has xs s ≡ true) → (has xs s ≡ true → Contains xs s) → Contains (x ∷ xs) s
    by (inl same) rest = subst (Contains (x ∷ xs)) (eqb-true x s same) (here x xs)
    by (inr later) rest = further x xs s (rest later)

pub contains-has : (xs : List ℕ) (s : ℕ) → Contains xs s → has xs s ≡ true
contains-has [] s c = absurd (let lt = c.1 in omega (arith, lt))
contains-has (x ∷ xs) s c = by (Contains-cases x s xs c) (λ later. contains-has xs s later)
  where
    by : (x ≡ s) ⊎ Contains xs s → (Contains xs s → has xs s ≡ true) → ((x == s) || has xs s) ≡ true
    by (inl same) rest = or_left (x == s) (has xs s) (eq-eqb x s same)
    by (inr later) rest = or_right (x == s) (has xs s) (rest later)

-- it is there, or it isn't
pub has-cases : (xs : List ℕ) (s : ℕ) → Contains xs s ⊎ (Contains xs s → ⊥)
has-cases xs s = by (cases_Bool (has xs s))
  where
    by : (has xs s ≡ true) ⊎ (has xs s ≡ false) → Contains xs s ⊎ (Contains xs s → ⊥)
    by (inl e) = inl (has-contains xs s e)
    by (inr e) = inr (λ c. absurd (let t = contains-has xs s c in cc))

-- the place of a number in a list that has it
abbrev pub place_in : List ℕ → ℕ → ℕ
place_in [] s = 0
place_in (x ∷ xs) s = if x == s then 0 else suc (place_in xs s)

-- the number stands at its place
pub record IsPlaced (xs : List ℕ) (s k : ℕ) : Type 0 where
  pub within : k < length xs
  pub found : value_at xs k ≡ s

pub placed : (xs : List ℕ) (s : ℕ) → Contains xs s → IsPlaced xs s (place_in xs s)
placed [] s c = absurd (let lt = c.1 in omega (arith, lt))
placed (x ∷ xs) s c = cond_both (x == s) 0 (suc (place_in xs s)) (IsPlaced (x ∷ xs) s)
    (λ e. record { within = omega arith; found = eqb-true x s e })
    (λ e. later (placed xs s (rest (Contains-cases x s xs c) e)))
  where
    rest : (x ≡ s) ⊎ Contains xs s → (x == s) ≡ false → Contains xs s
    rest (inl same) e = absurd (let t = eq-eqb x s same in cc)
    rest (inr more) e = more

    later : IsPlaced xs s (place_in xs s) → IsPlaced (x ∷ xs) s (suc (place_in xs s))
    later at = record { within = (let lt = at.within in omega (arith, lt)); found = at.found }
