-- The next element of a list, after some were taken from its front.
use Rattle.std.proofs.Common.{◌≡◌, ℕ, ◌+◌, ◌<◌, List, ◌∷◌, length, get_or, drop, sym, ap, ◌∙◌, arith, length-drop}
use Rattle.std.proofs.lemmas.List.{get_or-drop, drop-drop}

pub next_item : {A : Type 0} (xs more : List A) (x d : A) (n : ℕ) → drop n xs ≡ x ∷ more → (get_or xs n d ≡ x) × (n < length xs) × (drop (n + 1) xs ≡ more)
next_item xs more x d n e = (read, inside, sym (drop-drop 1 n xs) ∙ ap (drop 1) e)
  where
    read : get_or xs n d ≡ x
    read =
        let same : n + 0 ≡ n = omega arith in
        ap (λ k. get_or xs k d) (sym same) ∙ sym (get_or-drop n xs 0 d) ∙ ap (λ ys. get_or ys 0 d) e

    inside : n < length xs
    inside = omega (arith, length-drop n xs, ap length e)
