-- Laws of paths: names with dots between them.
use Rattle.std.proofs.Common.{◌≡◌, ◌≢◌, ℕ, List, [], ◌∷◌, ◌++◌, length, refl, sym, ap, ◌∙◌, subst, arith, append_assoc, length-append}
use Rattle.std.specs.Prelude.{Contains}
use Rattle.std.proofs.Math.Seq.{get_or-append_seam}
use Rattle.gg_flat_tree.specs.Tree.{joined, IsWithin}

abbrev head_of : ℕ → List ℕ → ℕ
head_of d [] = d
head_of d (b ∷ bs) = b

abbrev tail_of : List ℕ → List ℕ
tail_of [] = []
tail_of (b ∷ bs) = bs

cons-head : (a b : ℕ) (xs ys : List ℕ) → (a ∷ xs) ≡ (b ∷ ys) → a ≡ b
cons-head a b xs ys e = ap (head_of 0) e

cons-tail : (a b : ℕ) (xs ys : List ℕ) → (a ∷ xs) ≡ (b ∷ ys) → xs ≡ ys
cons-tail a b xs ys e = ap tail_of e

-- a list with a dot in its middle contains a dot
pub dot-within : (q m : List ℕ) → Contains (q ++ 46 ∷ m) 46
dot-within q m = (length q, omega (arith, length-append q (46 ∷ m)), get_or-append_seam q 46 m 46)

-- a list is split at its last dot in only one way
last-dot : (p q n m : List ℕ) → ¬ Contains n 46 → ¬ Contains m 46 → p ++ 46 ∷ n ≡ q ++ 46 ∷ m → (p ≡ q) × (n ≡ m)
last-dot [] [] n m plain others e = (refl, cons-tail 46 46 n m e)
last-dot [] (b ∷ q) n m plain others e = absurd (plain (subst (λ l. Contains l 46) (sym (cons-tail 46 b n (q ++ 46 ∷ m) e)) (dot-within q m)))
last-dot (a ∷ p) [] n m plain others e = absurd (others (subst (λ l. Contains l 46) (cons-tail a 46 (p ++ 46 ∷ n) m e) (dot-within p n)))
last-dot (a ∷ p) (b ∷ q) n m plain others e =
    let r = last-dot p q n m plain others (cons-tail a b (p ++ 46 ∷ n) (q ++ 46 ∷ m) e) in
    (ap (λ x. x ∷ p) (cons-head a b (p ++ 46 ∷ n) (q ++ 46 ∷ m) e) ∙ ap (λ l. b ∷ l) r.0, r.1)

-- a path joined with a name without a dot determines the path and the name
pub joined-once : (p q n m : List ℕ) → ¬ Contains n 46 → ¬ Contains m 46 → joined p n ≡ joined q m → (p ≡ q) × (n ≡ m)
joined-once [] [] n m plain others e = (refl, e)
joined-once [] (b ∷ q) n m plain others e = absurd (plain (subst (λ l. Contains l 46) (sym e) (dot-within (b ∷ q) m)))
joined-once (a ∷ p) [] n m plain others e = absurd (others (subst (λ l. Contains l 46) e (dot-within (a ∷ p) n)))
joined-once (a ∷ p) (b ∷ q) n m plain others e = last-dot (a ∷ p) (b ∷ q) n m plain others e

-- a path joined with a name isn't the top's path, which is empty
pub joined-some : (p n : List ℕ) → n ≢ [] → joined p n ≢ []
joined-some [] n some e = some e
joined-some (b ∷ p) n some e = let never : (b ∷ (p ++ 46 ∷ n)) ≡ [] = e in absurd (cc)

pub joined-dot : (p n : List ℕ) → p ≢ [] → joined p n ≡ p ++ 46 ∷ n
joined-dot [] n some = absurd (some refl)
joined-dot (b ∷ p) n some = refl

-- a path joined with a name, a dot and a rest is the path joined with the name, then the dot and the rest
pub joined-behind : (p n rest : List ℕ) → joined p (n ++ 46 ∷ rest) ≡ joined p n ++ 46 ∷ rest
joined-behind [] n rest = refl
joined-behind (b ∷ p) n rest = sym (append_assoc (b ∷ p) (46 ∷ n) (46 ∷ rest))

pub joined-twice : (p n rest : List ℕ) → n ≢ [] → joined p (n ++ 46 ∷ rest) ≡ joined (joined p n) rest
joined-twice p n rest some = joined-behind p n rest ∙ sym (joined-dot (joined p n) rest (joined-some p n some))

pub within-dot : (p rest : List ℕ) → IsWithin p (p ++ 46 ∷ rest)
within-dot [] rest = record { rest = 46 ∷ rest; is = refl }
within-dot (b ∷ p) rest = record { rest = rest; is = refl }
