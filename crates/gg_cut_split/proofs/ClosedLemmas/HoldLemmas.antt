-- What follows from a path holding another, for paths as plain lists.
use Rattle.std.proofs.Common.{◌≡◌, ◌≢◌, ℕ, ◌<◌, List, [], ◌∷◌, ◌++◌, length, refl, sym, ◌∙◌, ap, subst, inl, inr, append_assoc, length-append, arith}
use Rattle.std.specs.Prelude.{Contains}
use Rattle.std.proofs.lemmas.List.{append_cancel_left}
use Rattle.gg_flat_tree.specs.Tree.{IsWithin, IsJustBelow}
use Rattle.gg_cut_split.specs.inside.Longest.{HoldsPath, Covers}
use Rattle.gg_cut_split.proofs.ClosedLemmas.NameLemmas.{dot-in, same-head, same-tail}

-- no path holds the empty one
pub holds-some : (p q : List ℕ) → HoldsPath p q → q ≢ []
holds-some [] q h e = clash (sym h.is ∙ e)
  where
    clash : 46 ∷ h.rest ≡ [] → ⊥
    clash e = absurd (cc)
holds-some (b ∷ p) q h e = clash (sym h.is ∙ e)
  where
    clash : b ∷ (p ++ 46 ∷ h.rest) ≡ [] → ⊥
    clash e = absurd (cc)

pub holds-shorter : (p q : List ℕ) → HoldsPath p q → length p < length q
holds-shorter p q h = omega (arith, ap length h.is, length-append p (46 ∷ h.rest))

pub holds-trans : (p q r : List ℕ) → HoldsPath p q → HoldsPath q r → HoldsPath p r
holds-trans p q r h k =
    record {
      rest = h.rest ++ 46 ∷ k.rest;
      is = k.is ∙ ap (λ l. l ++ 46 ∷ k.rest) h.is ∙ append_assoc p (46 ∷ h.rest) (46 ∷ k.rest);
    }

-- ---- two paths that hold the same path

-- two paths that hold the same path are equal, or one holds the other
pub data Fronts (p q : List ℕ) : Type 0 where
  Equal : p ≡ q → Fronts p q
  Outer : HoldsPath p q → Fronts p q
  Inner : HoldsPath q p → Fronts p q

fronts : (p q r t : List ℕ) → p ++ 46 ∷ r ≡ q ++ 46 ∷ t → Fronts p q
fronts [] [] r t e = Equal refl
fronts [] (b ∷ q) r t e = Outer (record { rest = q; is = ap (λ x. x ∷ q) (sym (same-head e)) })
fronts (a ∷ p) [] r t e = Inner (record { rest = p; is = ap (λ x. x ∷ p) (same-head e) })
fronts (a ∷ p) (b ∷ q) r t e = by (same-head e) (fronts p q r t (same-tail e))
  where
    by : a ≡ b → Fronts p q → Fronts (a ∷ p) (b ∷ q)
    by f (Equal same) = Equal (let both : a ∷ p ≡ b ∷ q = cc in both)
    by f (Outer h) = Outer (record { rest = h.rest; is = let both : b ∷ q ≡ a ∷ (p ++ 46 ∷ h.rest) = (let s : q ≡ p ++ 46 ∷ h.rest = h.is in cc) in both })
    by f (Inner h) = Inner (record { rest = h.rest; is = let both : a ∷ p ≡ b ∷ (q ++ 46 ∷ h.rest) = (let s : p ≡ q ++ 46 ∷ h.rest = h.is in cc) in both })

pub fronts-of : (p q path : List ℕ) → HoldsPath p path → HoldsPath q path → Fronts p q
fronts-of p q path h k = fronts p q h.rest k.rest (sym h.is ∙ k.is)

-- ---- names below a path

-- a path that isn't empty holds each path within it
pub within-held : (q path : List ℕ) → q ≢ [] → IsWithin q path → HoldsPath q path
within-held [] path some h = absurd (some refl)
within-held (b ∷ q) path some h = record { rest = h.rest; is = h.is }

pub below-held : (q path : List ℕ) → q ≢ [] → IsJustBelow q path → HoldsPath q path
below-held q path some h = within-held q path some (record { rest = h.name; is = h.is })

-- a path that holds one just below q covers q
pub below-covers : (p q path : List ℕ) → IsJustBelow q path → HoldsPath p path → Covers p q
below-covers p [] path below h = absurd (below.plain (subst (λ (l : List ℕ). Contains l 46) (sym h.is ∙ below.is) (dot-in p h.rest)))
below-covers p (b ∷ q) path below h = by (fronts-of p (b ∷ q) path h (record { rest = below.name; is = below.is }))
  where
    by : Fronts p (b ∷ q) → Covers p (b ∷ q)
    by (Equal same) = inl same
    by (Outer k) = inr k
    by (Inner k) =
        let longer : (b ∷ q) ++ 46 ∷ below.name ≡ (b ∷ q) ++ 46 ∷ (k.rest ++ 46 ∷ h.rest) =
        sym below.is ∙ h.is ∙ ap (λ l. l ++ 46 ∷ h.rest) k.is ∙ append_assoc (b ∷ q) (46 ∷ k.rest) (46 ∷ h.rest) in
        let name : below.name ≡ k.rest ++ 46 ∷ h.rest = same-tail (append_cancel_left (b ∷ q) (46 ∷ below.name) (46 ∷ (k.rest ++ 46 ∷ h.rest)) longer) in
        absurd (below.plain (subst (λ (l : List ℕ). Contains l 46) (sym name) (dot-in k.rest h.rest)))
