-- All that the sites of a circuit have of their own has different paths, if the names of each module differ.
use Rattle.std.proofs.Common.{◌≡◌, ◌≢◌, ℕ, zero, suc, List, [], ◌∷◌, ◌++◌, map, refl, sym, ap, ap₂, ◌∙◌, subst, arith, append-nil}
use Rattle.std.specs.Prelude.{Contains, flat_map}
use Rattle.std.proofs.lemmas.List.{map-append}
use Rattle.std.proofs.lemmas.Grind.{flat_map-append}
use Rattle.std.proofs.lemmas.Simd.{map-map}
use Rattle.gg_ast.specs.Tree.{ModuleTree}
use Rattle.gg_flat_tree.specs.Tree.{joined}
use Rattle.gg_flat.proofs.ListLemmas.{further, Contains-map, map-same}
use Rattle.gg_elab_sites.specs.Sites.{Held, Site, site_below, sites, held_at}
use Rattle.gg_elab_sites.proofs.NameLemmas.{Differ, Differ-tail}
use Rattle.gg_elab_tree.proofs.NamesLemmas.DeclaredLemmas.{Differ-head}
use Rattle.gg_elab_tree.proofs.NamesLemmas.JoinLemmas.{joined-twice}
use Rattle.gg_elab_sites.proofs.AmongLemmas.{MadeOf, from-map, from-flat_map}
use Rattle.gg_elab_tree.proofs.NamesLemmas.DifferLemmas.{Differ-none, Differ-append, Differ-map, IsDotless, behind-once, first-once}

-- the name of something in an instance: the instance's name, a dot, and its name there
abbrev pub behind : Held → List ℕ → List ℕ
behind h r = h.name ++ 46 ∷ r

-- after the same path, different names make different paths
pub joined-same : (p a b : List ℕ) → joined p a ≡ joined p b → a ≡ b
joined-same [] a b e = e
joined-same (c ∷ cs) a b e = behind-once (c ∷ cs) a b e

-- What is known of the names of modules: what each has of its own differs; so do its instances' names, which aren't empty and
-- have no dot; and nothing of its own is named as something in an instance.
pub record AreApart (modules : List ModuleTree) (own : ℕ → List (List ℕ)) : Type 0 where
  pub differ : (k : ℕ) → Differ (own k)
  pub held : (k : ℕ) → Differ (map (λ (h : Held). h.name) (held_at modules k))
  pub some : (k : ℕ) (h : Held) → Contains (held_at modules k) h → h.name ≢ []
  pub plain : (k : ℕ) (h : Held) → Contains (held_at modules k) h → IsDotless h.name
  pub apart : (k : ℕ) (h : Held) (r : List ℕ) → Contains (held_at modules k) h → ¬ Contains (own k) (behind h r)

module _ (modules : List ModuleTree) (own : ℕ → List (List ℕ)) (are : AreApart modules own) where
  -- what a module has, with what its instances have down to so many levels, by their names from this module on
  abbrev names_below : ℕ → ℕ → List (List ℕ)
  names_below zero k = own k
  names_below (suc n) k = own k ++ flat_map (λ h. map (behind h) (names_below n h.number)) (held_at modules k)

  -- the names in the instances of a module differ, if those of each module do
  along-differ : (n k : ℕ) → ((j : ℕ) → Differ (names_below n j)) → (hs : List Held) → ((h : Held) → Contains hs h → Contains (held_at modules k) h) → Differ (map (λ (h : Held). h.name) hs) → Differ (flat_map (λ h. map (behind h) (names_below n h.number)) hs)
  along-differ n k below [] each differ = Differ-none
  along-differ n k below (h ∷ hs) each differ =
      Differ-append (map (behind h) (names_below n h.number)) (flat_map (λ h. map (behind h) (names_below n h.number)) hs)
      (Differ-map (behind h) (names_below n h.number) (behind-once h.name) (below h.number))
      (along-differ n k below hs (λ x c. each x (further h hs x c)) (Differ-tail h.name (map (λ (h : Held). h.name) hs) differ))
      (λ w a b. clash w (from-map (behind h) (names_below n h.number) w a) (from-flat_map (λ h. map (behind h) (names_below n h.number)) hs w b))
    where
      clash : (w : List ℕ) → MadeOf (λ x z. behind h x ≡ z) (names_below n h.number) w → MadeOf (λ x z. Contains (map (behind x) (names_below n x.number)) z) hs w → ⊥
      clash w a b =
          let c = from-map (behind b.of) (names_below n b.of.number) w b.made in
          let same = first-once h.name b.of.name a.of c.of (are.plain k h (each h (0, omega arith, refl))) (are.plain k b.of (each b.of (further h hs b.of b.among))) (a.made ∙ sym c.made) in
          Differ-head h.name (map (λ (x : Held). x.name) hs) differ (subst (Contains (map (λ (x : Held). x.name) hs)) (sym same) (Contains-map (λ (x : Held). x.name) hs b.of b.among))

  names-differ : (n k : ℕ) → Differ (names_below n k)
  names-differ zero k = are.differ k
  names-differ (suc n) k =
      Differ-append (own k) (flat_map (λ h. map (behind h) (names_below n h.number)) (held_at modules k)) (are.differ k)
      (along-differ n k (names-differ n) (held_at modules k) (λ h c. c) (are.held k))
      (λ w a b. clash w a (from-flat_map (λ h. map (behind h) (names_below n h.number)) (held_at modules k) w b))
    where
      clash : (w : List ℕ) → Contains (own k) w → MadeOf (λ x z. Contains (map (behind x) (names_below n x.number)) z) (held_at modules k) w → ⊥
      clash w a b =
          let c = from-map (behind b.of) (names_below n b.of.number) w b.made in
          are.apart k b.of c.of b.among (subst (Contains (own k)) (sym c.made) a)

  -- the paths of what a site has of its own
  abbrev pub own_paths : Site → List (List ℕ)
  own_paths s = map (joined s.path) (own s.number)

  along-paths : (n : ℕ) (x : Site) → ((y : Site) → flat_map own_paths (sites n modules y) ≡ map (joined y.path) (names_below n y.number)) → (hs : List Held) → ((h : Held) → Contains hs h → h.name ≢ []) → flat_map own_paths (flat_map (λ h. sites n modules (site_below x h)) hs) ≡ map (joined x.path) (flat_map (λ h. map (behind h) (names_below n h.number)) hs)
  along-paths n x below [] some = refl
  along-paths n x below (h ∷ hs) some =
      flat_map-append own_paths (sites n modules (site_below x h)) (flat_map (λ h. sites n modules (site_below x h)) hs)
      ∙ ap₂ (λ a b. a ++ b)
      (below (site_below x h)
      ∙ map-same (joined (joined x.path h.name)) (λ r. joined x.path (behind h r)) (names_below n h.number) (λ r. sym (joined-twice x.path h.name r (some h (0, omega arith, refl))))
      ∙ sym (map-map (joined x.path) (behind h) (names_below n h.number)))
      (along-paths n x below hs (λ y c. some y (further h hs y c)))
      ∙ sym (map-append (joined x.path) (map (behind h) (names_below n h.number)) (flat_map (λ h. map (behind h) (names_below n h.number)) hs))

  -- the paths from a site on are the names from its module on, after the site's path
  paths-are : (n : ℕ) (x : Site) → flat_map own_paths (sites n modules x) ≡ map (joined x.path) (names_below n x.number)
  paths-are zero x = append-nil (own_paths x)
  paths-are (suc n) x =
      ap (λ l. own_paths x ++ l) (along-paths n x (paths-are n) (held_at modules x.number) (are.some x.number))
      ∙ sym (map-append (joined x.path) (own x.number) (flat_map (λ h. map (behind h) (names_below n h.number)) (held_at modules x.number)))

  pub paths-differ : (n : ℕ) (x : Site) → Differ (flat_map own_paths (sites n modules x))
  paths-differ n x = subst Differ (sym (paths-are n x)) (Differ-map (joined x.path) (names_below n x.number) (joined-same x.path) (names-differ n x.number))
