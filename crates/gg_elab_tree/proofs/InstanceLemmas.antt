-- The instances of a circuit's tree: their ranges, and their parents.
use Rattle.std.proofs.Common.{◌≡◌, ℕ, zero, suc, ◌+◌, ◌-◌, ◌<◌, List, [], ◌∷◌, Option, Some, None, length, take, get_or, refl, sym, ap, ◌∙◌, subst, arith, length-append, append-nil}
use Rattle.std.specs.Prelude.{flat_map}
use Rattle.std.proofs.lemmas.List.{length-map, get_or-map}
use Rattle.std.proofs.lemmas.Option.{slice_get-get_or, same_Some}
use Rattle.gg_ast.specs.Places.{place_of}
use Rattle.gg_ast.specs.Tree.{CircuitTree, module_names}
use Rattle.gg_flat_tree.specs.declared.tree.Instance.{Instance}
use Rattle.gg_flat_tree.specs.Tree.{InstanceTree, instance_at}
use Rattle.gg_elab_sites.specs.Sites.{Site, Outer, site_below, sites, sites_of, sites_from, top_site}
use Rattle.gg_elab_sites.specs.Flat.{FlatSignal, signals_at}
use Rattle.gg_elab_tree.specs.IsTreeOf.{site_paths, IsParent, IsInstanceFor, AreInstances, IsTreeOf}
use Rattle.gg_elab_sites.specs.Known.{types_of}
use Rattle.gg_elab_sites.proofs.NameLemmas.{Differ, place_of-at}
use Rattle.gg_elab_tree.proofs.PlaceLemmas.{within, within-some, Placed, Under, HeldFrom, held_from}
use Rattle.gg_elab_tree.proofs.RangeLemmas.{count_to, Ranges, placed-at, placed-inside, placed-count}

-- the signals of a site
abbrev pub signals_in : CircuitTree → Site → List FlatSignal
signals_in circuit = signals_at (types_of circuit) circuit.modules

pub AreInstances-length : (circuit : CircuitTree) (first : ℕ) (all : List Site) (instances : List Instance) → AreInstances circuit first all instances → length instances ≡ length all
AreInstances-length circuit first [] [] h = refl
AreInstances-length circuit first [] (y ∷ ys) h = absurd h
AreInstances-length circuit first (x ∷ xs) [] h = absurd h
AreInstances-length circuit first (x ∷ xs) (y ∷ ys) h = ap suc (AreInstances-length circuit (first + length (signals_in circuit x)) xs ys h.1)

-- the instance at a place is the instance of the site there
pub AreInstances-at : (circuit : CircuitTree) (first k : ℕ) (all : List Site) (instances : List Instance) (d : Site) (e : Instance) → AreInstances circuit first all instances → k < length all → IsInstanceFor circuit (first + count_to (signals_in circuit) all k) (get_or all k d) (get_or instances k e)
AreInstances-at circuit first k [] [] d e h lt = absurd (omega (arith, lt))
AreInstances-at circuit first k [] (y ∷ ys) d e h lt = absurd h
AreInstances-at circuit first k (x ∷ xs) [] d e h lt = absurd h
AreInstances-at circuit first zero (x ∷ xs) (y ∷ ys) d e h lt =
    let same : first ≡ first + 0 = omega arith in
    subst (λ n. IsInstanceFor circuit n x y) same h.0
AreInstances-at circuit first (suc k) (x ∷ xs) (y ∷ ys) d e h lt =
    let sum = length-append (signals_in circuit x) (flat_map (signals_in circuit) (take k xs)) in
    let same : (first + length (signals_in circuit x)) + count_to (signals_in circuit) xs k ≡ first + count_to (signals_in circuit) (x ∷ xs) (suc k) = omega (arith, sum) in
    subst (λ n. IsInstanceFor circuit n (get_or xs k d) (get_or ys k e)) same (AreInstances-at circuit (first + length (signals_in circuit x)) k xs ys d e h.1 (omega (arith, lt)))

-- the parent of an instance is the place of the path of the site that holds it
parent-is : (circuit : CircuitTree) (outer : Outer) (p : ℕ) (parent : Option ℕ) → place_of outer.path (site_paths circuit) ≡ Some p → IsParent circuit (Some outer) parent → parent ≡ Some p
parent-is circuit outer p None at h = absurd h
parent-is circuit outer p (Some q) at h = sym h.is ∙ at

parent-none : (circuit : CircuitTree) (parent : Option ℕ) → IsParent circuit None parent → parent ≡ None
parent-none circuit None h = refl
parent-none circuit (Some q) h = absurd h

module _ (circuit : CircuitTree) (tree : InstanceTree) (top : ℕ) (known_top : place_of circuit.name (module_names circuit) ≡ Some top) where
  all_levels : length circuit.modules ≡ length circuit.modules - 0
  all_levels = omega arith

  pub sites-are : sites_of circuit ≡ within (length circuit.modules) circuit.modules (top_site top)
  sites-are = ap (sites_from circuit.modules) known_top ∙ ap (λ m. sites m circuit.modules (top_site top)) all_levels

  -- the top stands first
  pub top_placed : Placed (length circuit.modules) circuit.modules (sites_of circuit) 0 (top_site top)
  top_placed = record { rest = []; is = sites-are ∙ sym (append-nil (within (length circuit.modules) circuit.modules (top_site top))); deep = omega arith }

  pub top_whole : length (within (length circuit.modules) circuit.modules (top_site top)) ≡ length (sites_of circuit)
  top_whole = ap (λ (l : List Site). length l) (sym sites-are)

  pub sites-some : 0 < length (sites_of circuit)
  sites-some = omega (arith, top_whole, within-some (length circuit.modules - 0) circuit.modules (top_site top))

  -- each site but the top is held by one before it
  pub held_at-place : (k : ℕ) → suc k < length (sites_of circuit) → HeldFrom (length circuit.modules) circuit.modules (sites_of circuit) 0 (suc k)
  held_at-place k lt = held_from (length circuit.modules) circuit.modules (sites_of circuit) (length circuit.modules) 0 (top_site top) all_levels top_placed (suc k) (omega arith) (omega (arith, lt, top_whole))

  pub stands : (k : ℕ) → k < length (sites_of circuit) → (x : Site) × Placed (length circuit.modules) circuit.modules (sites_of circuit) k x
  stands zero lt = (top_site top, top_placed)
  stands (suc k) lt = let h = held_at-place k lt in (site_below h.under.outer h.under.held, h.under.at_place)

  module _ (is : IsTreeOf circuit tree) (differ : Differ (site_paths circuit)) where
    pub instance-for : (k : ℕ) (x : Site) → Placed (length circuit.modules) circuit.modules (sites_of circuit) k x → IsInstanceFor circuit (count_to (signals_in circuit) (sites_of circuit) k) x (instance_at tree k)
    instance-for k x p =
        let inside = placed-inside (length circuit.modules) circuit.modules (sites_of circuit) k x p in
        let some = within-some (length circuit.modules - x.depth) circuit.modules x in
        let at = AreInstances-at circuit 0 k (sites_of circuit) tree.instances x (record { parent = None; «module» = 0; first = 0; end = 0; ports = []; memories = []; clocks = [] }) is.instances (omega (arith, inside, some)) in
        let start : 0 + count_to (signals_in circuit) (sites_of circuit) k ≡ count_to (signals_in circuit) (sites_of circuit) k = omega arith in
        subst (λ n. IsInstanceFor circuit n x (instance_at tree k)) start (subst (λ y. IsInstanceFor circuit (0 + count_to (signals_in circuit) (sites_of circuit) k) y (instance_at tree k)) (placed-at (length circuit.modules) circuit.modules (sites_of circuit) k x x p) at)

    -- a site's path stands at its place, and nowhere before
    pub path-place : (k : ℕ) (x : Site) → Placed (length circuit.modules) circuit.modules (sites_of circuit) k x → place_of x.path (site_paths circuit) ≡ Some k
    path-place k x p =
        let inside = placed-inside (length circuit.modules) circuit.modules (sites_of circuit) k x p in
        let some = within-some (length circuit.modules - x.depth) circuit.modules x in
        let lt : k < length (sites_of circuit) = omega (arith, inside, some) in
        place_of-at (site_paths circuit) x.path k
        (slice_get-get_or (site_paths circuit) k x.path (omega (arith, lt, length-map (sites_of circuit) (λ (s : Site). s.path)))
        ∙ ap Some (get_or-map (λ (s : Site). s.path) (sites_of circuit) k x x.path lt ∙ ap (λ (s : Site). s.path) (placed-at (length circuit.modules) circuit.modules (sites_of circuit) k x x p)))
        differ

    parent-at : (k above : ℕ) → Under (length circuit.modules) circuit.modules (sites_of circuit) above k → (instance_at tree k).parent ≡ Some above
    parent-at k above u =
        let h = instance-for k (site_below u.outer u.held) u.at_place in
        parent-is circuit (record { path = u.outer.path; number = u.outer.number; name = u.held.name }) above (instance_at tree k).parent (path-place above u.outer u.at_outer) h.parent

    under-at : (k above : ℕ) → k < length (sites_of circuit) → (instance_at tree k).parent ≡ Some above → Under (length circuit.modules) circuit.modules (sites_of circuit) above k
    under-at zero above lt e =
        let never : None ≡ Some above = sym (parent-none circuit (instance_at tree 0).parent (instance-for 0 (top_site top) top_placed).parent) ∙ e in
        absurd (cc)
    under-at (suc k) above lt e =
        let h = held_at-place k lt in
        subst (λ p. Under (length circuit.modules) circuit.modules (sites_of circuit) p (suc k)) (same_Some h.above above (sym (parent-at (suc k) h.above h.under) ∙ e)) h.under

    pub ranges : Ranges (length circuit.modules) circuit.modules (signals_in circuit) (sites_of circuit) tree
    ranges = record {
      same = AreInstances-length circuit 0 (sites_of circuit) tree.instances is.instances;
      site = λ k lt. (stands k lt).0;
      placed = λ k lt. (stands k lt).1;
      begins = λ k lt. (instance-for k (stands k lt).0 (stands k lt).1).begins;
      ends = λ k x p. (instance-for k x p).ends ∙ sym (placed-count (length circuit.modules) circuit.modules (sites_of circuit) (signals_in circuit) k x p);
      parent = parent-at;
      under = under-at;
    }

    pub top_parent : (instance_at tree 0).parent ≡ None
    top_parent = parent-none circuit (instance_at tree 0).parent (instance-for 0 (top_site top) top_placed).parent
