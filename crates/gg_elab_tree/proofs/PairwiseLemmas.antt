-- Laws of Pairwise: two lists have the same length, and a relation holds of the elements at each place.
use Rattle.std.proofs.Common.{◌≡◌, ℕ, zero, suc, ◌<◌, List, [], ◌∷◌, ◌++◌, length, refl, ap, arith}
use Rattle.std.specs.Prelude.{slice_index_or}
use Rattle.gg_elab_tree.specs.IsTreeOf.{Pairwise}

pub Pairwise-length : {A B : Type 0} (R : A → B → Type 0) (xs : List A) (ys : List B) → Pairwise R xs ys → length xs ≡ length ys
Pairwise-length R [] [] h = refl
Pairwise-length R [] (y ∷ ys) h = absurd h
Pairwise-length R (x ∷ xs) [] h = absurd h
Pairwise-length R (x ∷ xs) (y ∷ ys) h = ap suc (Pairwise-length R xs ys h.1)

-- it holds of joined lists if it holds of their parts
pub Pairwise-append : {A B : Type 0} (R : A → B → Type 0) (xs more : List A) (ys others : List B) → Pairwise R xs ys → Pairwise R more others → Pairwise R (xs ++ more) (ys ++ others)
Pairwise-append R [] more [] others h k = k
Pairwise-append R [] more (y ∷ ys) others h k = absurd h
Pairwise-append R (x ∷ xs) more [] others h k = absurd h
Pairwise-append R (x ∷ xs) more (y ∷ ys) others h k = (h.0, Pairwise-append R xs more ys others h.1 k)

-- it holds with one more element at the end of each list
pub Pairwise-push : {A B : Type 0} (R : A → B → Type 0) (xs : List A) (x : A) (ys : List B) (y : B) → Pairwise R xs ys → R x y → Pairwise R (xs ++ x ∷ []) (ys ++ y ∷ [])
Pairwise-push R xs x ys y h k = Pairwise-append R xs (x ∷ []) ys (y ∷ []) h (k, tt)

-- it holds of lists of the same length if it holds at each place, whatever the defaults are
pub Pairwise-each : {A B : Type 0} (R : A → B → Type 0) (xs : List A) (ys : List B) → length xs ≡ length ys → ((k : ℕ) (a : A) (b : B) → k < length xs → R (slice_index_or xs k a) (slice_index_or ys k b)) → Pairwise R xs ys
Pairwise-each R [] [] e h = tt
Pairwise-each R [] (y ∷ ys) e h = absurd (omega (arith, e))
Pairwise-each R (x ∷ xs) [] e h = absurd (omega (arith, e))
Pairwise-each R (x ∷ xs) (y ∷ ys) e h =
    (h zero x y (omega arith), Pairwise-each R xs ys (omega (arith, e)) (λ k a b lt. h (suc k) a b (omega arith)))
