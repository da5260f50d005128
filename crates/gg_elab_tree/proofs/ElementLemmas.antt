-- Elements of lists, and what an option holds.
use Rattle.std.proofs.Common.{◌≡◌, ◌≢◌, ℕ, zero, suc, ◌<◌, List, [], ◌∷◌, length, get_or, Option, Some, None, refl, arith}
use Rattle.std.specs.Prelude.{Contains}

pub some-of : {A : Type 0} (o : Option A) → o ≢ None → (x : A) × (o ≡ Some x)
some-of None h = absurd (h refl)
some-of (Some x) h = (x, refl)

-- what an option holds, or this if it holds nothing
abbrev pub value_or : {A : Type 0} → A → Option A → A
value_or x None = x
value_or x (Some y) = y

-- an element that stands at a place is one that the list contains
pub element : {A : Type 0} (l : List A) (j : ℕ) → j < length l → (y : A) × Contains l y × ((d : A) → get_or l j d ≡ y)
element [] j lt = absurd (omega (arith, lt))
element (y ∷ ys) zero lt = (y, (0, omega arith, refl), λ d. refl)
element (y ∷ ys) (suc j) lt = let r = element ys j (omega (arith, lt)) in (r.0, (suc r.1.0, omega (arith, r.1.1), r.1.2), r.2)
