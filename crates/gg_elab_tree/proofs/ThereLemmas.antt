-- The paths that an instance is made from are among the circuit's: what holds it, the signals of its ports, and its memories.
use Rattle.std.proofs.Common.{◌≡◌, ◌⊎◌, inl, inr, ℕ, zero, suc, List, Option, Some, None, length, map, refl, sym, ap, ◌∙◌, subst, arith}
use Rattle.std.specs.Prelude.{Contains, All, IfSome, flat_map}
use Rattle.gg_ast.specs.declared.module.Port.{Port}
use Rattle.gg_ast.specs.Places.{place_of}
use Rattle.gg_ast.specs.Tree.{ModuleTree, CircuitTree, module_names}
use Rattle.gg_flat_tree.specs.Tree.{joined}
use Rattle.gg_flat.proofs.ListLemmas.{further, Contains-map}
use Rattle.gg_elab_sites.specs.Sites.{Held, Site, Outer, top_site, site_below, sites, sites_of, sites_from, held_at, module_at}
use Rattle.gg_elab_sites.specs.declared.digest.Digest.{Digest}
use Rattle.gg_elab_sites.specs.declared.digest.OwnMemory.{OwnMemory}
use Rattle.gg_elab_sites.specs.declared.sites.Around.{Around}
use Rattle.gg_elab_sites.specs.declared.sites.Place.{Place}
use Rattle.gg_elab_sites.specs.Flat.{FlatSignal, flat_signal, signals_at, flat_signals, FlatMemory, flat_memory, memories_at}
use Rattle.gg_elab_sites.specs.IsFlat.{memory_paths}
use Rattle.gg_elab_sites.specs.Known.{types_of}
use Rattle.gg_elab_sites.specs.Signals.{Own, OwnBank}
use Rattle.gg_elab_sites.specs.inside.Views.{IsDigest, outer_of, own_bank_of, site_of}
use Rattle.gg_elab_sites.proofs.AmongLemmas.{from-map, in-flat_map, from-flat_map}
use Rattle.gg_elab_tree.specs.IsTreeOf.{site_paths, signal_paths, memories_of, signal_ports}
use Rattle.gg_elab_tree.proofs.ElementLemmas.{element}
use Rattle.gg_elab_tree.proofs.HeldMemoryLemmas.{banks_in}
use Rattle.gg_elab_tree.proofs.OwnLemmas.{own_in, port-own}

-- ---- signals

pub signal-there : (circuit : CircuitTree) (x : Site) (p : Port) → Contains (sites_of circuit) x → Contains (signal_ports (module_at circuit.modules x.number)) p → Contains (signal_paths circuit) (joined x.path p.name)
signal-there circuit x p c k =
    let own = port-own circuit x k.0 p k.1 in
    let e = element (own_in circuit x) k.0 own.0 in
    let named : e.0.name ≡ p.name = sym (ap (λ (o : Own). o.name) (e.2 e.0)) ∙ own.1 e.0 ∙ ap (λ (q : Port). q.name) k.2 in
    subst (λ name. Contains (signal_paths circuit) (joined x.path name)) named
    (Contains-map (λ (y : FlatSignal). y.path) (flat_signals (types_of circuit) circuit.modules (sites_of circuit)) (flat_signal circuit.modules x e.0)
    (in-flat_map (signals_at (types_of circuit) circuit.modules) (sites_of circuit) x (flat_signal circuit.modules x e.0) c (Contains-map (flat_signal circuit.modules x) (own_in circuit x) e.0 e.1)))

-- ---- memories

pub memory-there : (circuit : CircuitTree) (x : Site) (b : OwnBank) → Contains (sites_of circuit) x → Contains (banks_in circuit x) b → Contains (memory_paths (memories_of circuit)) (joined x.path b.name)
memory-there circuit x b c k =
    Contains-map (λ (y : FlatMemory). y.path) (memories_of circuit) (flat_memory circuit.modules x b)
    (in-flat_map (memories_at circuit.modules) (sites_of circuit) x (flat_memory circuit.modules x b) c (Contains-map (flat_memory circuit.modules x) (banks_in circuit x) b k))

-- the paths of a site's memories, as its digest keeps them, are among the circuit's
pub memories-there : (circuit : CircuitTree) (place : Place) (digest : Digest) → IsDigest (types_of circuit) circuit.modules place.number digest → Contains (sites_of circuit) (site_of place) → (items : List OwnMemory) → items ≡ digest.memories.items → All (λ (own : OwnMemory). Contains (memory_paths (memories_of circuit)) (joined place.path own.name.now)) items
memories-there circuit place digest d c items same i any lt =
    let e = element items i lt in
    subst (λ (own : OwnMemory). Contains (memory_paths (memories_of circuit)) (joined place.path own.name.now)) (sym (e.2 any))
    (memory-there circuit (site_of place) (own_bank_of e.0) c
    (subst (λ (l : List OwnBank). Contains l (own_bank_of e.0)) (ap (map own_bank_of) same ∙ d.memories) (Contains-map own_bank_of items e.0 e.1)))

-- ---- what holds an instance

-- The site has a holder, and the holder's path is among the paths of these sites.
pub record HolderAmong (all : List Site) (y : Site) : Type 0 where
  pub outer : Outer
  pub is : y.outer ≡ Some outer
  pub there : Contains (map (λ (s : Site). s.path) all) outer.path

below-among : (n : ℕ) (modules : List ModuleTree) (x : Site) (h : Held) (path : List ℕ) → Contains (held_at modules x.number) h → Contains (map (λ (s : Site). s.path) (sites n modules (site_below x h))) path → Contains (map (λ (s : Site). s.path) (sites (suc n) modules x)) path
below-among n modules x h path c k =
    let m = from-map (λ (s : Site). s.path) (sites n modules (site_below x h)) path k in
    subst (Contains (map (λ (s : Site). s.path) (sites (suc n) modules x))) m.made
    (Contains-map (λ (s : Site). s.path) (sites (suc n) modules x) m.of
    (further x (flat_map (λ h. sites n modules (site_below x h)) (held_at modules x.number)) m.of
    (in-flat_map (λ h. sites n modules (site_below x h)) (held_at modules x.number) h m.of c m.among)))

holder-among : (n : ℕ) (modules : List ModuleTree) (x y : Site) → Contains (sites n modules x) y → (y ≡ x) ⊎ HolderAmong (sites n modules x) y
holder-among zero modules x y (zero, lt, is) = inl (sym is)
holder-among zero modules x y (suc i, lt, is) = absurd (omega (arith, lt))
holder-among (suc n) modules x y (zero, lt, is) = inl (sym is)
holder-among (suc n) modules x y (suc i, lt, is) =
    let m = from-flat_map (λ h. sites n modules (site_below x h)) (held_at modules x.number) y (i, omega (arith, lt), is) in
    inr (go m.of m.among (holder-among n modules (site_below x m.of) y m.made))
  where
    go : (h : Held) → Contains (held_at modules x.number) h → (y ≡ site_below x h) ⊎ HolderAmong (sites n modules (site_below x h)) y → HolderAmong (sites (suc n) modules x) y
    go h c (inl same) = record { outer = record { path = x.path; number = x.number; name = h.name }; is = ap (λ (s : Site). s.outer) same; there = (0, omega arith, refl) }
    go h c (inr a) = record { outer = a.outer; is = a.is; there = below-among n modules x h a.outer.path c a.there }

pub outer-there : (circuit : CircuitTree) (y : Site) → Contains (sites_of circuit) y → (y.outer ≡ None) ⊎ HolderAmong (sites_of circuit) y
outer-there circuit y c = go (place_of circuit.name (module_names circuit)) c
  where
    pick : (k : ℕ) → (y ≡ top_site k) ⊎ HolderAmong (sites_from circuit.modules (Some k)) y → (y.outer ≡ None) ⊎ HolderAmong (sites_from circuit.modules (Some k)) y
    pick k (inl same) = inl (ap (λ (s : Site). s.outer) same)
    pick k (inr a) = inr a

    go : (o : Option ℕ) → Contains (sites_from circuit.modules o) y → (y.outer ≡ None) ⊎ HolderAmong (sites_from circuit.modules o) y
    go None c = absurd (omega (arith, c.1))
    go (Some k) c = pick k (holder-among (length circuit.modules) circuit.modules (top_site k) y c)

abbrev path_or : List ℕ → Option Outer → List ℕ
path_or d None = d
path_or d (Some outer) = outer.path

pub holder-there : (circuit : CircuitTree) (place : Place) → Contains (sites_of circuit) (site_of place) → IfSome place.outer (λ (around : Around). Contains (site_paths circuit) around.path)
holder-there circuit place c = go place.outer (turned (outer-there circuit (site_of place) c))
  where
    turned : ((site_of place).outer ≡ None) ⊎ HolderAmong (sites_of circuit) (site_of place) → (outer_of place.outer ≡ None) ⊎ ((outer : Outer) × (outer_of place.outer ≡ Some outer) × Contains (site_paths circuit) outer.path)
    turned (inl e) = inl e
    turned (inr a) = inr (a.outer, a.is, a.there)

    go : (o : Option Around) → (outer_of o ≡ None) ⊎ ((outer : Outer) × (outer_of o ≡ Some outer) × Contains (site_paths circuit) outer.path) → IfSome o (λ (around : Around). Contains (site_paths circuit) around.path)
    go None h = tt
    go (Some around) (inl e) = absurd (cc)
    go (Some around) (inr h) = subst (Contains (site_paths circuit)) (sym (ap (path_or around.path) h.1)) h.2
