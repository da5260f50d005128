-- The elements of lists that `map`, `flat_map` and `filter_map` make, and the elements that they are made of.
use Rattle.std.proofs.Common.{◌≡◌, ◌⊎◌, inl, inr, ℕ, zero, suc, ◌<◌, List, [], ◌∷◌, Option, Some, None, length, get_or, map, refl, sym, ap, ◌∙◌, subst, arith}
use Rattle.std.specs.Prelude.{Contains, flat_map, filter_map}
use Rattle.std.specs.List.{cons_option}
use Rattle.std.proofs.lemmas.List.Elements.{Contains-append_left, Contains-append_right, Contains-append_cases}
use Rattle.gg_flat.proofs.ListLemmas.{further}

-- the element at a place, which `get_or` gives with any default
pub record Element {A : Type 0} (xs : List A) (i : ℕ) : Type 0 where
  pub element : A
  pub among : Contains xs element
  pub is : (d : A) → get_or xs i d ≡ element

pub element-at : {A : Type 0} (xs : List A) (i : ℕ) → i < length xs → Element xs i
element-at [] i lt = absurd (omega (arith, lt))
element-at (x ∷ xs) zero lt = record { element = x; among = (0, omega arith, refl); is = λ d. refl }
element-at (x ∷ xs) (suc i) lt = let e = element-at xs i (omega (arith, lt)) in record { element = e.element; among = further x xs e.element e.among; is = e.is }

-- An element of xs that y is made of.
pub record MadeOf {A B : Type 0} (Made : A → B → Type 0) (xs : List A) (y : B) : Type 0 where
  pub of : A
  pub among : Contains xs of
  pub made : Made of y

pub from-map : {A B : Type 0} (f : A → B) (xs : List A) (y : B) → Contains (map f xs) y → MadeOf (λ x z. f x ≡ z) xs y
from-map f [] y c = absurd (omega (arith, c.1))
from-map f (x ∷ xs) y (zero, lt, is) = record { of = x; among = (0, omega arith, refl); made = is }
from-map f (x ∷ xs) y (suc i, lt, is) = let m = from-map f xs y (i, omega (arith, lt), is) in record { of = m.of; among = further x xs m.of m.among; made = m.made }

pub in-flat_map : {A B : Type 0} (f : A → List B) (xs : List A) (x : A) (y : B) → Contains xs x → Contains (f x) y → Contains (flat_map f xs) y
in-flat_map f [] x y c k = absurd (omega (arith, c.1))
in-flat_map f (a ∷ xs) x y (zero, lt, is) k = Contains-append_left (f a) (flat_map f xs) y (subst (λ z. Contains (f z) y) (sym is) k)
in-flat_map f (a ∷ xs) x y (suc i, lt, is) k = Contains-append_right (f a) (flat_map f xs) y (in-flat_map f xs x y (i, omega (arith, lt), is) k)

pub from-flat_map : {A B : Type 0} (f : A → List B) (xs : List A) (y : B) → Contains (flat_map f xs) y → MadeOf (λ x z. Contains (f x) z) xs y
from-flat_map f [] y c = absurd (omega (arith, c.1))
from-flat_map f (x ∷ xs) y c = go (Contains-append_cases (f x) (flat_map f xs) y c) (from-flat_map f xs y)
  where
    go : Contains (f x) y ⊎ Contains (flat_map f xs) y → (Contains (flat_map f xs) y → MadeOf (λ x z. Contains (f x) z) xs y) → MadeOf (λ x z. Contains (f x) z) (x ∷ xs) y
    go (inl here) next = record { of = x; among = (0, omega arith, refl); made = here }
    go (inr there) next = let m = next there in record { of = m.of; among = further x xs m.of m.among; made = m.made }

pub in-filter_map : {A B : Type 0} (f : A → Option B) (xs : List A) (x : A) (y : B) → Contains xs x → f x ≡ Some y → Contains (filter_map f xs) y
in-filter_map f [] x y c e = absurd (omega (arith, c.1))
in-filter_map f (a ∷ xs) x y (zero, lt, is) e = let same : f a ≡ Some y = ap f is ∙ e in rw same (0, omega arith, refl)
in-filter_map f (a ∷ xs) x y (suc i, lt, is) e = go (f a) (in-filter_map f xs x y (i, omega (arith, lt), is) e)
  where
    go : (o : Option _) → Contains (filter_map f xs) y → Contains (cons_option o (filter_map f xs)) y
    go None c = c
    go (Some z) c = further z (filter_map f xs) y c

pub from-filter_map : {A B : Type 0} (f : A → Option B) (xs : List A) (y : B) → Contains (filter_map f xs) y → MadeOf (λ x z. f x ≡ Some z) xs y
from-filter_map f [] y c = absurd (omega (arith, c.1))
from-filter_map f (x ∷ xs) y c = go (f x) refl c (from-filter_map f xs y)
  where
    behind : MadeOf (λ x z. f x ≡ Some z) xs y → MadeOf (λ x z. f x ≡ Some z) (x ∷ xs) y
    behind m = record { of = m.of; among = further x xs m.of m.among; made = m.made }

    go : (o : Option _) → f x ≡ o → Contains (cons_option o (filter_map f xs)) y → (Contains (filter_map f xs) y → MadeOf (λ x z. f x ≡ Some z) xs y) → MadeOf (λ x z. f x ≡ Some z) (x ∷ xs) y
    go None e c next = behind (next c)
    go (Some z) e (zero, lt, is) next = record { of = x; among = (0, omega arith, refl); made = e ∙ ap Some is }
    go (Some z) e (suc k, lt, is) next = behind (next (k, omega (arith, lt), is))
