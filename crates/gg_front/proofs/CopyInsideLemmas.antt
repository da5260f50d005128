-- What lies in an instance: the instances and the memories below it, by their places.
use Rattle.std.proofs.Common.{◌≡◌, ℕ, zero, suc, ◌+◌, ◌-◌, ◌<◌, ◌≤◌, List, length, take, Option, Some, None, refl, sym, ap, ◌∙◌, subst, arith}
use Rattle.std.specs.Prelude.{flat_map, option_and_then}
use Rattle.std.proofs.lemmas.List.{length-map}
use Rattle.std.proofs.lemmas.Option.{same_Some}
use Rattle.gg_ast.specs.Places.{place_of}
use Rattle.gg_ast.specs.Tree.{CircuitTree, module_names}
use Rattle.gg_flat_tree.specs.Tree.{InstanceTree, instance_at, memory_at}
use Rattle.gg_elab_sites.specs.Sites.{Site, site_below, sites_of}
use Rattle.gg_elab_sites.specs.Flat.{FlatMemory, memories_at, flat_memories}
use Rattle.gg_elab_tree.specs.IsTreeOf.{IsTreeOf, HeldMemory, held_memories}
use Rattle.gg_elab_tree.proofs.HeldMemoryLemmas.{held-said, MemoryPlace, memory-place, memory-holder}
use Rattle.gg_elab_tree.proofs.InstanceLemmas.{signals_in, ranges}
use Rattle.gg_elab_tree.proofs.OwnLemmas.{placed-known}
use Rattle.gg_elab_tree.proofs.PlaceLemmas.{Placed, within, within-some}
use Rattle.gg_elab_tree.proofs.RangeLemmas.{Ranges, count_to, count-le, placed-same, placed-count}
use Rattle.gg_elab_tree.proofs.TreeLemmas.{HasDistinctPaths}
use Rattle.gg_part.specs.Copies.{LiesIn, above}

module _ (circuit : CircuitTree) (tree : InstanceTree) (top : ℕ) (known_top : place_of circuit.name (module_names circuit) ≡ Some top) (is_tree : IsTreeOf circuit tree) (distinct : HasDistinctPaths circuit) (i : ℕ) (u : Site) (at : Placed (length circuit.modules) circuit.modules (sites_of circuit) i u) where
  abbrev Stands : ℕ → Site → Type 0
  Stands k x = Placed (length circuit.modules) circuit.modules (sites_of circuit) k x

  abbrev whole : Site → ℕ
  whole x = length (within (length circuit.modules) circuit.modules x)

  tells : Ranges (length circuit.modules) circuit.modules (signals_in circuit) (sites_of circuit) tree
  tells = ranges circuit tree top known_top is_tree distinct.of_sites

  -- the instance at place k stands, with all below it, in the stretch of instance i
  abbrev IsInside : ℕ → Site → Type 0
  IsInside k x = (i ≤ k) × (k + whole x ≤ i + whole u)

  itself : (k : ℕ) (x : Site) → Stands k x → k ≡ i → IsInside k x
  itself k x p e =
      let same : x ≡ u = placed-same (length circuit.modules) circuit.modules (sites_of circuit) k x u p (subst (λ (n : ℕ). Stands n u) (sym e) at) in
      (omega (arith, e), subst (λ (y : Site). k + whole y ≤ i + whole u) (sym same) (omega (arith, e)))

  below : (k a : ℕ) (x : Site) → Stands k x → (instance_at tree k).parent ≡ Some a → ((y : Site) → Stands a y → IsInside a y) → IsInside k x
  below k a x p parent up =
      let under = tells.under k a (placed-known circuit k x p) parent in
      let same : x ≡ site_below under.outer under.held = placed-same (length circuit.modules) circuit.modules (sites_of circuit) k x (site_below under.outer under.held) p under.at_place in
      let h = up under.outer under.at_outer in
      (omega (arith, h.0, under.before), subst (λ (y : Site). k + whole y ≤ i + whole u) (sym same) (omega (arith, h.1, under.inside)))

  -- an instance that lies in instance i stands in its stretch
  pub instance-inside : (levels k : ℕ) → above tree levels k ≡ Some i → (x : Site) → Stands k x → IsInside k x
  instance-inside zero k is x p = itself k x p (same_Some k i is)
  instance-inside (suc n) k is x p = go (instance_at tree k).parent refl is (instance-inside n)
    where
      go : (o : Option ℕ) → (instance_at tree k).parent ≡ o → option_and_then (above tree n) o ≡ Some i → ((j : ℕ) → above tree n j ≡ Some i → (y : Site) → Stands j y → IsInside j y) → IsInside k x
      go None e none next = absurd (cc)
      go (Some a) e up next = below k a x p e (next a up)

  -- ---- memories

  abbrev from_memory : ℕ → ℕ
  from_memory k = count_to (memories_at circuit.modules) (sites_of circuit) k

  same-count : (k : ℕ) → count_to (held_memories circuit.modules) (sites_of circuit) k ≡ from_memory k
  same-count k =
      sym (length-map (flat_map (held_memories circuit.modules) (take k (sites_of circuit))) (λ (h : HeldMemory). h.said))
      ∙ ap (λ (l : List FlatMemory). length l) (held-said circuit.modules (take k (sites_of circuit)))

  -- a memory that is held there is among the instance's
  pub memory-inside : (m : ℕ) → m < length tree.memories → LiesIn tree i (memory_at tree m).instance → (from_memory i ≤ m) × (m < from_memory i + length (flat_memories circuit.modules (within (length circuit.modules) circuit.modules u)))
  memory-inside m lt lies =
      let p : MemoryPlace circuit tree m = memory-place circuit tree top known_top is_tree m lt in
      let holder : (memory_at tree m).instance ≡ p.holder = memory-holder circuit tree top known_top is_tree distinct.of_sites distinct.of_memories m p in
      let h = instance-inside lies.levels p.holder (ap (λ (k : ℕ). above tree lies.levels k) (sym holder) ∙ lies.is) p.site p.placed in
      let some = within-some (length circuit.modules - p.site.depth) circuit.modules p.site in
      let whole_count = placed-count (length circuit.modules) circuit.modules (sites_of circuit) (memories_at circuit.modules) i u at in (
        omega (arith, p.counted, same-count p.holder, count-le (memories_at circuit.modules) (sites_of circuit) i p.holder h.0),
        omega (arith, p.below, same-count (suc p.holder), count-le (memories_at circuit.modules) (sites_of circuit) (suc p.holder) (i + whole u) (omega (arith, h.1, some)), whole_count),
      )
