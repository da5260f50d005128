-- What the drivers and the registers of an instance name is in the instance, its own input ports aside.
use Rattle.std.proofs.Common.{◌≡◌, ℕ, zero, suc, ◌+◌, ◌<◌, ◌≤◌, List, [], ◌∷◌, length, Bool, true, false, Some, refl, sym, ap, ◌∙◌, subst, arith, inl, inr, ◌⊎◌, true≢false, take_all}
use Rattle.std.specs.Prelude.{Contains, flat_map, slice_get, ◌==◌}
use Rattle.std.proofs.lemmas.Bool.{cases_lt}
use Rattle.std.proofs.lemmas.List.Elements.{All-contains}
use Rattle.std.proofs.lemmas.Bool.Decides.{nat_tests}
use Rattle.gg_ast.specs.Places.{place_of}
use Rattle.gg_ast.specs.Tree.{CircuitTree, module_names}
use Rattle.gg_flat.specs.declared.piece.Driver.TheVariants.{Held}
use Rattle.gg_flat.specs.declared.piece.Register.{Register}
use Rattle.gg_flat_tree.specs.declared.tree.InstancePort.{InstancePort}
use Rattle.gg_flat.specs.Circuit.{FlatCircuit, driver_at}
use Rattle.gg_flat.specs.Reads.{NamesSignal, RegisterNames}
use Rattle.gg_flat_tree.specs.Scoped.{IsScoped, IsInputOf, IsWritten, IsVisible}
use Rattle.gg_flat_tree.specs.Tree.{InstanceTree, IsTree, IsInnermost, Holds, instance_at}
use Rattle.gg_flat.proofs.ListLemmas.{further, Contains-cases}
use Rattle.gg_elab_sites.specs.Sites.{Site, site_below, sites_of}
use Rattle.gg_elab_tree.specs.IsTreeOf.{IsTreeOf}
use Rattle.gg_elab_tree.proofs.PlaceLemmas.{Placed, Under, within}
use Rattle.gg_elab_tree.proofs.RangeLemmas.{Ranges, Owner, owner, count_to, count-le, placed-same, placed-inside, own-innermost}
use Rattle.gg_elab_tree.proofs.InstanceLemmas.{signals_in, stands, ranges}
use Rattle.gg_elab_tree.proofs.TreeLemmas.{HasDistinctPaths, inner-parent}
use Rattle.gg_elab_sites.specs.IsFlat.{IsFlat}

-- a signal is an input among these ports, or none of them
data InputAmong (ports : List InstancePort) (s : ℕ) : Type 0 where
  Found : (port : InstancePort) → Contains ports port → port.signal ≡ s → port.is_input ≡ true → InputAmong ports s
  NotFound : ((port : InstancePort) → Contains ports port → port.signal ≡ s → port.is_input ≡ true → ⊥) → InputAmong ports s

input-cases : (ports : List InstancePort) (s : ℕ) → InputAmong ports s
input-cases [] s = NotFound (λ port c is input. absurd (omega (arith, c.1)))
input-cases (p ∷ ports) s = go (p.signal == s) refl p.is_input refl (input-cases ports s)
  where
    later : ((p.signal ≡ s) → p.is_input ≡ true → ⊥) → InputAmong ports s → InputAmong (p ∷ ports) s
    later never (Found port c is input) = Found port (further p ports port c) is input
    later never (NotFound none) = NotFound (λ port c is input.
        elim (Contains-cases p port ports c) [
          | inl e ↦ never (ap (λ (x : InstancePort). x.signal) e ∙ is) (ap (λ (x : InstancePort). x.is_input) e ∙ input)
          | inr rest ↦ none port rest is input
        ])

    go : (same : Bool) → (p.signal == s) ≡ same → (goes : Bool) → p.is_input ≡ goes → InputAmong ports s → InputAmong (p ∷ ports) s
    go true e true i rest = Found p (0, omega arith, refl) (grind (arith, nat_tests)) i
    go true e false i rest = later (λ is input. true≢false (sym input ∙ i)) rest
    go false e goes i rest = later (λ is input. true≢false (grind (arith, nat_tests))) rest

module _ (circuit : CircuitTree) (flat : FlatCircuit) (tree : InstanceTree) (top : ℕ) (known_top : place_of circuit.name (module_names circuit) ≡ Some top) (is_flat : IsFlat circuit flat) (is_tree : IsTreeOf circuit tree) (distinct : HasDistinctPaths circuit) (fits : IsTree flat tree) (scoped : IsScoped flat tree) where
  abbrev Stands : ℕ → Site → Type 0
  Stands k x = Placed (length circuit.modules) circuit.modules (sites_of circuit) k x

  abbrev whole : Site → ℕ
  whole x = length (within (length circuit.modules) circuit.modules x)

  abbrev from_site : ℕ → ℕ
  from_site k = count_to (signals_in circuit) (sites_of circuit) k

  tells : Ranges (length circuit.modules) circuit.modules (signals_in circuit) (sites_of circuit) tree
  tells = ranges circuit tree top known_top is_tree distinct.of_sites

  module _ (i : ℕ) (u : Site) (at : Stands i u) where
    -- a site below the instance ends in it
    nested : (fuel k : ℕ) (x : Site) → k < fuel → Stands k x → i ≤ k → k < i + whole u → k + whole x ≤ i + whole u
    nested zero k x bound p low high = absurd (omega (arith, bound))
    nested (suc fuel) k x bound p low high = go (cases_lt i k) (nested fuel)
      where
        first : i ≡ k → k + whole x ≤ i + whole u
        first e =
            let same : x ≡ u = placed-same (length circuit.modules) circuit.modules (sites_of circuit) k x u p (subst (λ (n : ℕ). Stands n u) e at) in
            subst (λ (y : Site). k + whole y ≤ i + whole u) (sym same) (omega (arith, e))

        later : (above : ℕ) × (i ≤ above) × Under (length circuit.modules) circuit.modules (sites_of circuit) above k → ((n : ℕ) (y : Site) → n < fuel → Stands n y → i ≤ n → n < i + whole u → n + whole y ≤ i + whole u) → k + whole x ≤ i + whole u
        later (above, from, under) rest =
            let same : x ≡ site_below under.outer under.held = placed-same (length circuit.modules) circuit.modules (sites_of circuit) k x (site_below under.outer under.held) p under.at_place in
            let up = rest above under.outer (omega (arith, under.before, bound)) under.at_outer from (omega (arith, under.before, high)) in
            subst (λ (y : Site). k + whole y ≤ i + whole u) (sym same) (omega (arith, under.inside, up))

        go : (i < k) ⊎ (k ≤ i) → ((n : ℕ) (y : Site) → n < fuel → Stands n y → i ≤ n → n < i + whole u → n + whole y ≤ i + whole u) → k + whole x ≤ i + whole u
        go (inl lt) rest = later (inner-parent circuit flat tree top known_top is_flat is_tree distinct i k u at lt high) rest
        go (inr le) rest = first (omega (arith, le, low))

    abbrev IsIn : ℕ → Type 0
    IsIn t = (from_site i ≤ t) × (t < from_site (i + whole u))

    instance-in : (k t : ℕ) → k < length (sites_of circuit) → i ≤ k → k < i + whole u → Holds (instance_at tree k) t → IsIn t
    instance-in k t lt low high holds =
        let x = stands circuit tree top known_top k lt in
        let end = nested (suc k) k x.0 (omega arith) x.1 low high in (
          omega (arith, holds.0, tells.begins k lt, count-le (signals_in circuit) (sites_of circuit) i k low),
          omega (arith, holds.1, tells.ends k x.0 x.1, count-le (signals_in circuit) (sites_of circuit) (k + whole x.0) (i + whole u) end),
        )

    -- what is visible in an instance below is in the instance
    visible-in : (k t : ℕ) → k < length (sites_of circuit) → i ≤ k → k < i + whole u → IsVisible tree k t → IsIn t
    visible-in k t lt low high (inl inner) = instance-in k t lt low high inner.holds
    visible-in k t lt low high (inr port) =
        let c = port.child in
        let inside : c < length (sites_of circuit) = omega (arith, port.port.known, tells.same) in
        let under = tells.under c k inside port.parent in
        let x = stands circuit tree top known_top k lt in
        let same : x.0 ≡ under.outer = placed-same (length circuit.modules) circuit.modules (sites_of circuit) k x.0 under.outer x.1 under.at_outer in
        let end : k + whole under.outer ≤ i + whole u = subst (λ (y : Site). k + whole y ≤ i + whole u) same (nested (suc k) k x.0 (omega arith) x.1 low high) in
        let some = tells.ends c (site_below under.outer under.held) under.at_place in
        let holds : Holds (instance_at tree c) t =
        subst (λ (n : ℕ). Holds (instance_at tree c) n) port.port.is
        (All-contains (λ (q : InstancePort). Holds (instance_at tree c) q.signal) (instance_at tree c).ports port.port.port (fits.each c port.port.known).ports port.port.listed) in (
          omega (arith, holds.0, tells.begins c inside, count-le (signals_in circuit) (sites_of circuit) i c (omega (arith, low, under.before))),
          omega (arith, holds.1, some, count-le (signals_in circuit) (sites_of circuit) (c + whole (site_below under.outer under.held)) (i + whole u) (omega (arith, under.inside, end))),
        )

    -- Where the driver of a signal of the instance is written: in the instance or below it.
    record WrittenIn (s : ℕ) : Type 0 where
      pub place : ℕ
      pub known : place < length (sites_of circuit)
      pub low : i ≤ place
      pub high : place < i + whole u
      pub written : IsWritten tree place s

    written-in : (s : ℕ) → IsIn s → ¬ IsInputOf tree i s → WrittenIn s
    written-in s inside inner = go (input-cases (instance_at tree o.place).ports s)
      where
        known_end : i + whole u ≤ length (sites_of circuit)
        known_end = placed-inside (length circuit.modules) circuit.modules (sites_of circuit) i u at

        total : from_site (length (sites_of circuit)) ≡ length (flat_map (signals_in circuit) (sites_of circuit))
        total = ap (λ (l : List Site). length (flat_map (signals_in circuit) l)) (take_all (length (sites_of circuit)) (sites_of circuit) (omega arith))

        o : Owner (signals_in circuit) (sites_of circuit) s
        o = owner (signals_in circuit) (sites_of circuit) s (omega (arith, inside.1, total, count-le (signals_in circuit) (sites_of circuit) (i + whole u) (length (sites_of circuit)) known_end))

        low : i ≤ o.place
        low = pick (cases_lt o.place i)
          where
            pick : (o.place < i) ⊎ (i ≤ o.place) → i ≤ o.place
            pick (inl lt) = absurd (omega (arith, o.to, inside.0, count-le (signals_in circuit) (sites_of circuit) (suc o.place) i (omega (arith, lt))))
            pick (inr le) = le

        high : o.place < i + whole u
        high = pick (cases_lt o.place (i + whole u))
          where
            pick : (o.place < i + whole u) ⊎ (i + whole u ≤ o.place) → o.place < i + whole u
            pick (inl lt) = lt
            pick (inr le) = absurd (omega (arith, o.from, inside.1, count-le (signals_in circuit) (sites_of circuit) (i + whole u) o.place le))

        innermost : IsInnermost tree o.place s
        innermost = own-innermost (length circuit.modules) circuit.modules (signals_in circuit) (sites_of circuit) tree tells o.place s o.known o.from o.to

        input-of : (port : InstancePort) → Contains (instance_at tree o.place).ports port → port.signal ≡ s → port.is_input ≡ true → IsInputOf tree o.place s
        input-of port c is input = record { known = innermost.known; port = port; listed = c; is = is; input = input }

        above-in : (above : ℕ) × (i ≤ above) × Under (length circuit.modules) circuit.modules (sites_of circuit) above o.place → IsInputOf tree o.place s → WrittenIn s
        above-in (above, from, under) input = record {
          place = above;
          known = omega (arith, under.before, o.known);
          low = from;
          high = omega (arith, under.before, high);
          written = inr (record { child = o.place; parent = tells.parent o.place above under; input = input });
        }

        child-in : IsInputOf tree o.place s → (i < o.place) ⊎ (o.place ≤ i) → WrittenIn s
        child-in input (inl lt) = above-in (inner-parent circuit flat tree top known_top is_flat is_tree distinct i o.place u at lt high) input
        child-in input (inr le) = let same : o.place ≡ i = omega (arith, le, low) in absurd (inner (subst (λ (n : ℕ). IsInputOf tree n s) same input))

        go : InputAmong (instance_at tree o.place).ports s → WrittenIn s
        go (Found port c is input) = child-in (input-of port c is input) (cases_lt i o.place)
        go (NotFound none) = record { place = o.place; known = o.known; low = low; high = high; written = inl (record { own = innermost; inner = λ input. none input.port input.listed input.is input.input }) }

    pub driver-in : (s t : ℕ) → IsIn s → ¬ IsInputOf tree i s → NamesSignal (driver_at flat s) t → IsIn t
    driver-in s t inside inner names =
        let w = written-in s inside inner in
        visible-in w.place t w.known w.low w.high (scoped.drivers w.place s t w.written names)

    pub register-in : (s r t : ℕ) (register : Register) → IsIn s → ¬ IsInputOf tree i s → driver_at flat s ≡ Held r → slice_get flat.registers r ≡ Some register → RegisterNames register t → IsIn t
    register-in s r t register inside inner held there names =
        let w = written-in s inside inner in
        visible-in w.place t w.known w.low w.high (scoped.registers w.place s r t register w.written held there names)
