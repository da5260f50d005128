-- Where the signals of an instance stand, and that an instance has the same sites below it wherever it stands.
use Rattle.std.proofs.Common.{◌≡◌, ℕ, zero, suc, ◌+◌, ◌<◌, ◌≤◌, List, [], ◌∷◌, ◌++◌, take, refl, sym, ap, ap₂, ◌∙◌, subst, arith}
use Rattle.std.specs.Prelude.{flat_map, Contains}
use Rattle.std.proofs.lemmas.List.{take-append-drop}
use Rattle.std.proofs.lemmas.Grind.{flat_map-append}
use Rattle.gg_ast.specs.Tree.{ModuleTree}
use Rattle.gg_flat.proofs.ListLemmas.{further}
use Rattle.gg_elab_sites.specs.Sites.{Held, Site, site_below, sites, held_at}
use Rattle.gg_elab_sites.proofs.AmongLemmas.{from-flat_map}
use Rattle.gg_elab_tree.proofs.PlaceLemmas.{Placed, within}
use Rattle.gg_elab_tree.proofs.RangeLemmas.{count_to}
use Rattle.gg_front.proofs.CopyDriverLemmas.{Stretch}

-- what is made of a site and all below it stands together in what is made of all sites
pub placed-stretch : {X : Type 0} (f : Site → List X) (deepest : ℕ) (modules : List ModuleTree) (all : List Site) (k : ℕ) (x : Site) → Placed deepest modules all k x → Stretch (flat_map f all) (count_to f all k) (flat_map f (within deepest modules x))
placed-stretch f deepest modules all k x p = record {
  before = flat_map f (take k all);
  after = flat_map f p.rest;
  is =
      ap (flat_map f) (sym (take-append-drop k all) ∙ ap (λ l. take k all ++ l) p.is)
      ∙ flat_map-append f (take k all) (within deepest modules x ++ p.rest)
      ∙ ap (λ l. flat_map f (take k all) ++ l) (flat_map-append f (within deepest modules x) p.rest);
  at = refl;
}

-- ---- how deep a module's instances go

-- each module has a rank, and those that it holds have a lower one
abbrev pub AreRanked : List ModuleTree → (ℕ → ℕ) → Type 0
AreRanked modules rank = (k : ℕ) (h : Held) → Contains (held_at modules k) h → rank h.number < rank k

none-held : (l : List Held) → ((h : Held) → Contains l h → ⊥) → l ≡ []
none-held [] none = refl
none-held (h ∷ l) none = absurd (none h (0, omega arith, refl))

flat-among : {A B : Type 0} (f g : A → List B) (xs : List A) → ((x : A) → Contains xs x → f x ≡ g x) → flat_map f xs ≡ flat_map g xs
flat-among f g [] h = refl
flat-among f g (x ∷ xs) h = ap₂ (λ y l. y ++ l) (h x (0, omega arith, refl)) (flat-among f g xs (λ y c. h y (further x xs y c)))

-- more levels than the rank of a site's module find no more sites
pub levels-same : (modules : List ModuleTree) (rank : ℕ → ℕ) → AreRanked modules rank → (n m : ℕ) (x : Site) → rank x.number ≤ n → rank x.number ≤ m → sites n modules x ≡ sites m modules x
levels-same modules rank ranked zero zero x le le' = refl
levels-same modules rank ranked zero (suc m) x le le' =
    ap (λ l. x ∷ flat_map (λ h. sites m modules (site_below x h)) l) (sym (none-held (held_at modules x.number) (λ h c. omega (arith, ranked x.number h c, le))))
levels-same modules rank ranked (suc n) zero x le le' =
    ap (λ l. x ∷ flat_map (λ h. sites n modules (site_below x h)) l) (none-held (held_at modules x.number) (λ h c. omega (arith, ranked x.number h c, le')))
levels-same modules rank ranked (suc n) (suc m) x le le' =
    ap (λ l. x ∷ l) (flat-among (λ h. sites n modules (site_below x h)) (λ h. sites m modules (site_below x h)) (held_at modules x.number)
    (λ h c. levels-same modules rank ranked n m (site_below x h) (omega (arith, ranked x.number h c, le)) (omega (arith, ranked x.number h c, le'))))

-- the deeper a site is, the lower its module's rank
pub rank-left : (modules : List ModuleTree) (rank : ℕ → ℕ) → AreRanked modules rank → (n : ℕ) (x y : Site) → Contains (sites n modules x) y → rank y.number + y.depth ≤ rank x.number + x.depth
rank-left modules rank ranked zero x y (zero, lt, is) = subst (λ (z : Site). rank z.number + z.depth ≤ rank x.number + x.depth) is (omega arith)
rank-left modules rank ranked zero x y (suc i, lt, is) = absurd (omega (arith, lt))
rank-left modules rank ranked (suc n) x y (zero, lt, is) = subst (λ (z : Site). rank z.number + z.depth ≤ rank x.number + x.depth) is (omega arith)
rank-left modules rank ranked (suc n) x y (suc i, lt, is) =
    let m = from-flat_map (λ h. sites n modules (site_below x h)) (held_at modules x.number) y (i, omega (arith, lt), is) in
    omega (arith, ranked x.number m.of m.among, rank-left modules rank ranked n (site_below x m.of) y m.made)
