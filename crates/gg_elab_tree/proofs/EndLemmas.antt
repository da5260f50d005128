-- Where the sites below a site end: at the next site that lies no deeper.
use Rattle.std.proofs.Common.{◌≡◌, ◌⊎◌, inl, inr, ℕ, zero, suc, ◌+◌, ◌-◌, ◌<◌, ◌≤◌, Some, length, get_or, refl, ap, subst, arith}
use Rattle.std.proofs.lemmas.Bool.{cases_lt}
use Rattle.gg_ast.specs.Places.{place_of}
use Rattle.gg_ast.specs.Tree.{CircuitTree, module_names}
use Rattle.gg_flat_tree.specs.inside.Tree.{no_tree}
use Rattle.gg_elab_sites.specs.Sites.{Site, site_below, sites_of}
use Rattle.gg_elab_tree.proofs.PlaceLemmas.{within, within-some, Placed, Under, HeldFrom, held_from}
use Rattle.gg_elab_tree.proofs.RangeLemmas.{placed-at, placed-same, placed-inside}
use Rattle.gg_elab_tree.proofs.InstanceLemmas.{held_at-place, stands}
use Rattle.gg_elab_tree.proofs.OwnLemmas.{placed-known}

module _ (circuit : CircuitTree) (top : ℕ) (known_top : place_of circuit.name (module_names circuit) ≡ Some top) where
  abbrev Stands : ℕ → Site → Type 0
  Stands k x = Placed (length circuit.modules) circuit.modules (sites_of circuit) k x

  abbrev whole : Site → ℕ
  whole x = length (within (length circuit.modules) circuit.modules x)

  whole-some : (x : Site) → 0 < whole x
  whole-some x = within-some (length circuit.modules - x.depth) circuit.modules x

  same-site : (k : ℕ) (x y : Site) → Stands k x → Stands k y → x ≡ y
  same-site k x y p q = placed-same (length circuit.modules) circuit.modules (sites_of circuit) k x y p q

  -- A site below another lies deeper, and all that is below it ends no later than all that is below the other.
  record Below (k : ℕ) (x : Site) (i : ℕ) (y : Site) : Type 0 where
    deeper : x.depth < y.depth
    ends : i + length (within (length circuit.modules) circuit.modules y) ≤ k + length (within (length circuit.modules) circuit.modules x)

  below : (fuel i k : ℕ) (x y : Site) → i < fuel → Stands k x → Stands i y → k < i → i < k + whole x → Below k x i y
  below zero i k x y bound p q after inside = absurd (omega (arith, bound))
  below (suc fuel) i k x y bound p q after inside =
      let h = held_from (length circuit.modules) circuit.modules (sites_of circuit) (length circuit.modules - x.depth) k x refl p i after inside in
      go h (cases_lt k h.above) (below fuel h.above k x h.under.outer)
    where
      go : (h : HeldFrom (length circuit.modules) circuit.modules (sites_of circuit) k i) → (k < h.above) ⊎ (h.above ≤ k) → (h.above < fuel → Stands k x → Stands h.above h.under.outer → k < h.above → h.above < k + whole x → Below k x h.above h.under.outer) → Below k x i y
      go h (inl lt) next =
          let u = h.under in
          let b = next (omega (arith, bound, u.before)) p u.at_outer lt (omega (arith, u.before, inside)) in
          subst (λ (z : Site). Below k x i z) (same-site i (site_below u.outer u.held) y u.at_place q) (record { deeper = omega (arith, b.deeper); ends = omega (arith, u.inside, b.ends) })
      go h (inr le) next =
          let u = h.under in
          let here : h.above ≡ k = omega (arith, h.from_on, le) in
          let outer : u.outer ≡ x = same-site k u.outer x (subst (λ n. Stands n u.outer) here u.at_outer) p in
          let depth : u.outer.depth ≡ x.depth = ap (λ (z : Site). z.depth) outer in
          let size : whole u.outer ≡ whole x = ap whole outer in
          subst (λ (z : Site). Below k x i z) (same-site i (site_below u.outer u.held) y u.at_place q) (record { deeper = omega (arith, depth); ends = omega (arith, u.inside, here, size) })

  -- the site that follows all sites below x lies no deeper than x
  no-deeper : (k : ℕ) (x z : Site) → Stands k x → (e : ℕ) → e ≡ k + whole x → Stands e z → z.depth ≤ x.depth
  no-deeper k x z p zero is q = absurd (omega (arith, is, whole-some x))
  no-deeper k x z p (suc e) is q = go (cases_lt h.above k) (cases_lt k h.above)
    where
      h : HeldFrom (length circuit.modules) circuit.modules (sites_of circuit) 0 (suc e)
      h = held_at-place circuit no_tree top known_top e (placed-known circuit (suc e) z q)

      u : Under (length circuit.modules) circuit.modules (sites_of circuit) h.above (suc e)
      u = h.under

      same : site_below u.outer u.held ≡ z
      same = same-site (suc e) (site_below u.outer u.held) z u.at_place q

      depth : suc u.outer.depth ≡ z.depth
      depth = ap (λ (y : Site). y.depth) same

      inside : suc e < h.above + whole u.outer
      inside = omega (arith, u.inside, whole-some (site_below u.outer u.held))

      go : (h.above < k) ⊎ (k ≤ h.above) → (k < h.above) ⊎ (h.above ≤ k) → z.depth ≤ x.depth
      go (inl lt) which =
          let b = below (suc k) k h.above u.outer x (omega arith) u.at_outer p lt (omega (arith, inside, is, whole-some x)) in
          omega (arith, depth, b.deeper)
      go (inr ge) (inl lt) =
          let b = below (suc h.above) h.above k x u.outer (omega arith) p u.at_outer lt (omega (arith, u.before, is)) in
          absurd (omega (arith, b.ends, inside, is))
      go (inr ge) (inr le) =
          let here : h.above ≡ k = omega (arith, ge, le) in
          let outer : u.outer ≡ x = same-site k u.outer x (subst (λ n. Stands n u.outer) here u.at_outer) p in
          let size : whole u.outer ≡ whole x = ap whole outer in
          absurd (omega (arith, inside, is, here, size))

  -- the next site that lies no deeper is where the sites below x end
  pub ends-at : (k : ℕ) (x : Site) (d : Site) → Stands k x → (j : ℕ) → k < j → j ≤ length (sites_of circuit) → ((i : ℕ) → k < i → i < j → x.depth < (get_or (sites_of circuit) i d).depth) → (j < length (sites_of circuit) → (get_or (sites_of circuit) j d).depth ≤ x.depth) → j ≡ k + whole x
  ends-at k x d p j after inside deeper stop = go (cases_lt j (k + whole x)) (cases_lt (k + whole x) j)
    where
      size : k + whole x ≤ length (sites_of circuit)
      size = placed-inside (length circuit.modules) circuit.modules (sites_of circuit) k x p

      at : (i : ℕ) → i < length (sites_of circuit) → (y : Site) × Stands i y × (get_or (sites_of circuit) i d ≡ y)
      at i lt = let s = stands circuit no_tree top known_top i lt in (s.0, s.1, placed-at (length circuit.modules) circuit.modules (sites_of circuit) i s.0 d s.1)

      go : (j < k + whole x) ⊎ (k + whole x ≤ j) → (k + whole x < j) ⊎ (j ≤ k + whole x) → j ≡ k + whole x
      go (inl lt) which =
          let known : j < length (sites_of circuit) = omega (arith, lt, size) in
          let y = at j known in
          let b = below (suc j) j k x y.0 (omega arith) p y.1 after lt in
          let depth : (get_or (sites_of circuit) j d).depth ≡ y.0.depth = ap (λ (z : Site). z.depth) y.2 in
          absurd (omega (arith, stop known, b.deeper, depth))
      go (inr ge) (inl lt) =
          let known : k + whole x < length (sites_of circuit) = omega (arith, lt, inside) in
          let y = at (k + whole x) known in
          let low = no-deeper k x y.0 p (k + whole x) refl y.1 in
          let depth : (get_or (sites_of circuit) (k + whole x) d).depth ≡ y.0.depth = ap (λ (z : Site). z.depth) y.2 in
          absurd (omega (arith, deeper (k + whole x) (omega (arith, whole-some x)) lt, low, depth))
      go (inr ge) (inr le) = omega (arith, ge, le)
