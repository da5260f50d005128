-- What the parts of two instances of one module follow.
use Rattle.std.proofs.Common.{◌≡◌, ℕ, zero, suc, ◌<◌, List, ◌++◌, length, get_or, map, Some, refl, sym, ap, ◌∙◌, subst, arith}
use Rattle.std.specs.Prelude.{flat_map}
use Rattle.gg_ast.specs.Places.{place_of}
use Rattle.gg_ast.specs.Tree.{CircuitTree, ModuleTree, module_names}
use Rattle.gg_flat_tree.specs.Tree.{InstanceTree, memory_at}
use Rattle.gg_elab_sites.specs.Sites.{Held, Site, held_at, module_at, site_below, sites}
use Rattle.gg_elab_sites.specs.Clocks.{clocks_given, own_clocks}
use Rattle.gg_elab_sites.specs.Flat.{FlatMemory}
use Rattle.gg_types.specs.Memories.{Bank}
use Rattle.gg_elab_tree.specs.IsTreeOf.{IsTreeOf, Pairwise, memories_of}
use Rattle.gg_elab_tree.proofs.HeldMemoryLemmas.{memory-place}
use Rattle.gg_elab_tree.proofs.OwnLemmas.{Pairwise-at}
use Rattle.gg_front.proofs.CopyDriverLemmas.{map-among}
use Rattle.gg_front.proofs.CopyLemmas.{Pairwise-parts}
use Rattle.gg_front.proofs.LikeSites.{AreLikeMemories}

-- ---- instances

module _ (modules : List ModuleTree) where
  abbrev SameOwn : Site → Site → Type 0
  SameOwn x y = own_clocks modules x ≡ own_clocks modules y

  abbrev below : ℕ → Site → List Site
  below n x = flat_map (λ h. sites n modules (site_below x h)) (held_at modules x.number)

  -- what an instance follows of what holds it is said by the module that holds it
  below-own : (n : ℕ) (x y : Site) (h : Held) → x.number ≡ y.number → Pairwise SameOwn (sites n modules (site_below x h)) (sites n modules (site_below y h))
  below-own zero x y h same = (ap (λ k. clocks_given (module_at modules k) h.name (module_at modules h.number)) same, tt)
  below-own (suc n) x y h same = (
    ap (λ k. clocks_given (module_at modules k) h.name (module_at modules h.number)) same,
    Pairwise-parts SameOwn (λ g. sites n modules (site_below (site_below x h) g)) (λ g. sites n modules (site_below (site_below y h) g)) (held_at modules h.number) (λ g c. below-own n (site_below x h) (site_below y h) g refl),
  )

  all-own : (n : ℕ) (x y : Site) → x.number ≡ y.number → Pairwise SameOwn (below n x) (below n y)
  all-own n x y same =
      subst (λ k. Pairwise SameOwn (below n x) (flat_map (λ h. sites n modules (site_below y h)) (held_at modules k))) same
      (Pairwise-parts SameOwn (λ h. sites n modules (site_below x h)) (λ h. sites n modules (site_below y h)) (held_at modules x.number) (λ h c. below-own n x y h same))

  -- the same of all instances below two of one module
  pub own-same : (n : ℕ) (x y : Site) → x.number ≡ y.number → (k : ℕ) (d e : Site) → 0 < k → k < length (sites n modules x) → own_clocks modules (get_or (sites n modules x) k d) ≡ own_clocks modules (get_or (sites n modules y) k e)
  own-same n x y same zero d e some lt = absurd (omega (arith, some))
  own-same zero x y same (suc k) d e some lt = absurd (omega (arith, lt))
  own-same (suc n) x y same (suc k) d e some lt = Pairwise-at SameOwn (below n x) (below n y) k d e (all-own n x y same) (omega (arith, lt))

-- ---- memories

module _ (circuit : CircuitTree) (tree : InstanceTree) (top : ℕ) (known_top : place_of circuit.name (module_names circuit) ≡ Some top) (is_tree : IsTreeOf circuit tree) where
  -- the ports of the memory at a place follow what is said of it
  clocks-said : (m : ℕ) (x : FlatMemory) → m < length tree.memories → get_or (memories_of circuit) m x ≡ x → (memory_at tree m).clocks ≡ map x.own_clock (x.bank.readers ++ x.bank.writers)
  clocks-said m x lt is =
      let p = memory-place circuit tree top known_top is_tree m lt in
      p.is_for.clocks ∙ ap (λ (z : FlatMemory). map z.own_clock (z.bank.readers ++ z.bank.writers)) (sym (p.said x) ∙ is)

  -- the ports of like memories follow the same Clock inputs of their instances
  pub clocks-alike : (u v : Site) (m n : ℕ) (x y : FlatMemory) → m < length tree.memories → n < length tree.memories → get_or (memories_of circuit) m x ≡ x → get_or (memories_of circuit) n y ≡ y → AreLikeMemories u v x y → (memory_at tree n).clocks ≡ (memory_at tree m).clocks
  clocks-alike u v m n x y here there one other l =
      clocks-said n y there other
      ∙ ap (λ (b : Bank). map y.own_clock (b.readers ++ b.writers)) (sym l.bank)
      ∙ map-among y.own_clock x.own_clock (x.bank.readers ++ x.bank.writers) (λ port c. sym (l.own port))
      ∙ sym (clocks-said m x here one)
