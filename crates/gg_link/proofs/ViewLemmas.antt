-- Views of seats by their numbers: what holds of each after one is changed, or one is added.
use Rattle.std.proofs.Common.{◌≡◌, ◌≢◌, ℕ, zero, suc, List, [], ◌∷◌, ◌++◌, length, set, refl, sym, ap, subst, arith}
use mathlib.Core.Option.{some, some-injective, some-ne-none}
use lib.ListN.{get_elem?}

module _ {V : Type 0} where
  abbrev pub OfEach : (ℕ → V → Type 0) → List V → Type 0
  OfEach F views = (id : ℕ) (v : V) → get_elem? views id ≡ some v → F id v

  pub of_each-set : (F : ℕ → V → Type 0) (views : List V) (id : ℕ) (w : V) → F id w → ((j : ℕ) (u : V) → j ≢ id → get_elem? views j ≡ some u → F j u) → OfEach F (set views id w)
  of_each-set F [] id w mine others j u e = absurd (some-ne-none u (sym e))
  of_each-set F (x ∷ views) zero w mine others zero u e = subst (F 0) (some-injective w u e) mine
  of_each-set F (x ∷ views) zero w mine others (suc j) u e = others (suc j) u (λ h. omega arith) e
  of_each-set F (x ∷ views) (suc id) w mine others zero u e = others 0 u (λ h. omega arith) e
  of_each-set F (x ∷ views) (suc id) w mine others (suc j) u e = of_each-set (λ k. F (suc k)) views id w mine (λ k v other. others (suc k) v (λ h. other (omega arith))) j u e

  -- a view that isn't among the first ones is the one that was added
  pub at_end : (views : List V) (added v : V) (j : ℕ) → get_elem? views j ≢ some v → get_elem? (views ++ added ∷ []) j ≡ some v → j ≡ length views
  at_end [] added v zero n e = refl
  at_end [] added v (suc j) n e = absurd (some-ne-none v (sym e))
  at_end (x ∷ views) added v zero n e = absurd (n e)
  at_end (x ∷ views) added v (suc j) n e = ap suc (at_end views added v j n e)

  pub only_first : (first v : V) (j : ℕ) → get_elem? (first ∷ []) j ≡ some v → j ≡ 0
  only_first first v zero e = refl
  only_first first v (suc j) e = absurd (some-ne-none v (sym e))
