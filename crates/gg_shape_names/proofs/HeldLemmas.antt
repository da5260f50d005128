-- What the elements of a list give one after another; for modules, the places of those that the statements hold.
use Rattle.std.proofs.Common.{◌≡◌, ℕ, ◌+◌, ◌<◌, List, [], ◌∷◌, ◌++◌, length, get_or, take, drop, zero, suc, refl, sym, ap, subst, ◌∙◌, ◌⊎◌, inl, inr, arith}
use Rattle.std.specs.Prelude.{Contains, flat_map}
use Rattle.std.proofs.lemmas.List.{take_more, take-append-drop, append-nil}
use Rattle.std.proofs.lemmas.Grind.{flat_map-append}
use Rattle.std.proofs.lemmas.List.Elements.{Contains-append_left, Contains-append_right, Contains-append_cases}

module _ {A : Type 0} (f : A → List ℕ) (xs : List A) where
  given-more : (i : ℕ) (x : A) → i < length xs → x ≡ get_or xs i x → flat_map f (take (i + 1) xs) ≡ flat_map f (take i xs) ++ f x
  given-more i x lt is =
      ap (flat_map f) (take_more xs i x lt ∙ ap (λ y. take i xs ++ y ∷ []) (sym is))
      ∙ flat_map-append f (take i xs) (x ∷ [])
      ∙ ap (λ l. flat_map f (take i xs) ++ l) (append-nil (f x))

  -- what the next element gives is among all that is given
  pub given-at : (i j : ℕ) (x : A) → i < length xs → x ≡ get_or xs i x → f x ≡ j ∷ [] → Contains (flat_map f xs) j
  given-at i j x lt is gives =
      let all : flat_map f xs ≡ flat_map f (take (i + 1) xs) ++ flat_map f (drop (i + 1) xs) =
      ap (flat_map f) (sym (take-append-drop (i + 1) xs)) ∙ flat_map-append f (take (i + 1) xs) (drop (i + 1) xs) in
      let own : Contains (f x) j = subst (λ (l : List ℕ). Contains l j) (sym gives) (0, omega arith, refl) in
      subst (λ (l : List ℕ). Contains l j) (sym all)
      (Contains-append_left (flat_map f (take (i + 1) xs)) (flat_map f (drop (i + 1) xs)) j
      (subst (λ (l : List ℕ). Contains l j) (sym (given-more i x lt is)) (Contains-append_right (flat_map f (take i xs)) (f x) j own)))

  -- what is given up to the next element was given before, or is what this element gives
  pub given-up_to : (i j k : ℕ) (x : A) → i < length xs → x ≡ get_or xs i x → f x ≡ k ∷ [] → Contains (flat_map f (take (i + 1) xs)) j → Contains (flat_map f (take i xs)) j ⊎ (j ≡ k)
  given-up_to i j k x lt is gives h =
      elim (Contains-append_cases (flat_map f (take i xs)) (f x) j (subst (λ (l : List ℕ). Contains l j) (given-more i x lt is) h)) [
        | inl old ↦ inl old
        | inr own ↦ inr (only j k (subst (λ (l : List ℕ). Contains l j) gives own))
      ]
    where
      only : (j k : ℕ) → Contains (k ∷ []) j → j ≡ k
      only j k (zero, lt, e) = sym e
      only j k (suc n, lt, e) = absurd (omega (arith, lt))
