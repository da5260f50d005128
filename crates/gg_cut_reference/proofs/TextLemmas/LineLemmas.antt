-- Lines of items, one by one.
use Rattle.std.proofs.Common.{◌≡◌, ℕ, zero, suc, ◌+◌, ◌<◌, List, [], ◌∷◌, ◌++◌, length, map, take, get_or, refl, sym, ap, ◌∙◌, arith, append_assoc, append-nil}
use Rattle.std.specs.Prelude.{flat_map}
use Rattle.gg_cut_reference.specs.text.CheckText.{spaced}

-- one line more
pub lines-more : {A : Type 0} (f : A → List ℕ) (xs : List A) (i : ℕ) (d : A) → i < length xs → flat_map f (take i xs) ++ f (get_or xs i d) ≡ flat_map f (take (i + 1) xs)
lines-more {A = A} f xs i d lt = by xs i lt ∙ ap (λ k. flat_map f (take k xs)) (let e : suc i ≡ i + 1 = omega arith in e)
  where
    by : (ys : List A) (k : ℕ) → k < length ys → flat_map f (take k ys) ++ f (get_or ys k d) ≡ flat_map f (take (suc k) ys)
    by [] k lt = absurd (omega (arith, lt))
    by (y ∷ ys) zero lt = sym (append-nil (f y))
    by (y ∷ ys) (suc k) lt = append_assoc (f y) (flat_map f (take k ys)) (f (get_or ys k d)) ∙ ap (λ l. f y ++ l) (by ys k (omega (arith, lt)))

-- names with a blank before each are lines too
spaced-lines : (f : ℕ → List ℕ) (xs : List ℕ) → spaced (map f xs) ≡ flat_map (λ x. 32 ∷ f x) xs
spaced-lines f [] = refl
spaced-lines f (x ∷ xs) = ap (λ l. (32 ∷ f x) ++ l) (spaced-lines f xs)

pub spaced-more : (f : ℕ → List ℕ) (xs : List ℕ) (i d : ℕ) → i < length xs → (spaced (map f (take i xs)) ++ 32 ∷ []) ++ f (get_or xs i d) ≡ spaced (map f (take (i + 1) xs))
spaced-more f xs i d lt =
    append_assoc (spaced (map f (take i xs))) (32 ∷ []) (f (get_or xs i d))
    ∙ ap (λ l. l ++ (32 ∷ f (get_or xs i d))) (spaced-lines f (take i xs))
    ∙ lines-more (λ x. 32 ∷ f x) xs i d lt
    ∙ sym (spaced-lines f (take (i + 1) xs))
