-- The parts of a tree while it is made.
use Rattle.std.proofs.Common.{◌≡◌, ℕ, ◌+◌, ◌<◌, ◌≤◌, Bool, List, [], ◌∷◌, ◌++◌, Option, Some, None, length, take, get_or, map, filter, sym, ap, ap₂, ◌∙◌, subst, arith, length-append, slice_index}
use Rattle.std.specs.Prelude.{flat_map}
use Rattle.std.proofs.lemmas.List.{take_more, length-map, take-map, get_or-map, map-append}
use Rattle.std.proofs.lemmas.List.Elements.{filter-append}
use Rattle.std.proofs.lemmas.Simd.{map-map}
use Rattle.gg_ast.specs.Places.{place_of}
use Rattle.gg_ast.specs.Tree.{CircuitTree, module_names}
use Rattle.gg_flat_tree.specs.declared.tree.Instance.{Instance}
use Rattle.gg_flat_tree.specs.inside.Tree.{no_tree}
use Rattle.gg_flat_tree.specs.Tree.{joined}
use Rattle.gg_elab_sites.specs.Sites.{Site, module_at, sites_of}
use Rattle.gg_elab_sites.specs.declared.sites.Around.{Around}
use Rattle.gg_flat_tree.specs.declared.tree.MemoryInstance.{MemoryInstance}
use Rattle.gg_elab_sites.specs.declared.digest.Digest.{Digest}
use Rattle.gg_elab_sites.specs.declared.digest.OwnMemory.{OwnMemory}
use Rattle.gg_elab_sites.specs.declared.sites.Place.{Place}
use Rattle.gg_elab_tree.specs.IsTreeOf.{Pairwise, IsAt, IsParent, IsPortFor, IsMemoryAt, IsInstanceFor, AreInstances, held_memory, held_memories, site_paths, signal_paths, memories_of}
use Rattle.gg_elab_sites.specs.Known.{types_of}
use Rattle.gg_elab_tree.specs.inside.TreeParts.{signals_to, IsHolder, IsPortAt, IsNumberAt, signals_among, IsInstanceAt, IsMemoryPart, IsHeldFor, held_at_place}
use Rattle.gg_elab_sites.specs.inside.Views.{own_bank_of, outer_of, site_of, IsDigest}
use Rattle.gg_elab_sites.specs.Clocks.{own_clocks, port_clock}
use Rattle.gg_elab_sites.specs.Flat.{FlatMemory, flat_memory, signals_at, flat_memories}
use Rattle.gg_elab_sites.proofs.FlatLemmas.{memories-more, memories-kept, one_more}
use Rattle.gg_elab_sites.specs.IsFlat.{memory_paths}
use Rattle.gg_elab_tree.proofs.PlaceLemmas.{within, Placed}
use Rattle.gg_elab_tree.proofs.RangeLemmas.{count_to, placed-at, placed-count}
use Rattle.gg_elab_tree.proofs.InstanceLemmas.{signals_in, stands}
use Rattle.gg_elab_tree.proofs.EndLemmas.{ends-at}
use Rattle.gg_elab_tree.proofs.PairwiseLemmas.{Pairwise-push, Pairwise-append}

-- the relation holds with the next element on each side
pub Pairwise-next : {A B : Type 0} (R : A → B → Type 0) (all : List A) (i : ℕ) (a : A) (ys : List B) (y : B) → i < length all → a ≡ get_or all i a → Pairwise R (take i all) ys → R a y → Pairwise R (take (i + 1) all) (ys ++ y ∷ [])
Pairwise-next R all i a ys y lt is h k =
    subst (λ l. Pairwise R l (ys ++ y ∷ [])) (ap (λ x. take i all ++ x ∷ []) is ∙ sym (take_more all i a lt)) (Pairwise-push R (take i all) a ys y h k)

-- the same with a filter on one side: the next element counts only if it passes
pub Pairwise-filter : {A B : Type 0} (R : A → B → Type 0) (test : A → Bool) (all : List A) (i : ℕ) (a : A) (ys more : List B) → i < length all → a ≡ get_or all i a → Pairwise R (filter test (take i all)) ys → Pairwise R (filter test (a ∷ [])) more → Pairwise R (filter test (take (i + 1) all)) (ys ++ more)
Pairwise-filter R test all i a ys more lt is h k =
    subst (λ l. Pairwise R l (ys ++ more)) (sym (filter-append test (take i all) (a ∷ [])) ∙ ap (filter test) (ap (λ x. take i all ++ x ∷ []) is ∙ sym (take_more all i a lt)))
    (Pairwise-append R (filter test (take i all)) (filter test (a ∷ [])) ys more h k)

-- The list has the number of the first signal of each of the first i sites.
pub record TellsFirsts (circuit : CircuitTree) (places : List Place) (i : ℕ) (firsts : List ℕ) : Type 0 where
  pub size : length firsts ≡ i
  pub each : (k : ℕ) → k < i → slice_index firsts k ≡ signals_to circuit places k

-- ---- an instance

pub Pairwise-mapped : {A B C : Type 0} (R : A → B → Type 0) (S : C → B → Type 0) (f : A → C) → ((a : A) (b : B) → R a b → S (f a) b) → (xs : List A) (ys : List B) → Pairwise R xs ys → Pairwise S (map f xs) ys
Pairwise-mapped R S f turn [] [] h = tt
Pairwise-mapped R S f turn [] (y ∷ ys) h = absurd h
Pairwise-mapped R S f turn (x ∷ xs) [] h = absurd h
Pairwise-mapped R S f turn (x ∷ xs) (y ∷ ys) h = (turn x y h.0, Pairwise-mapped R S f turn xs ys h.1)

pub Pairwise-turned : {A B : Type 0} (R S : A → B → Type 0) → ((a : A) (b : B) → R a b → S a b) → (xs : List A) (ys : List B) → Pairwise R xs ys → Pairwise S xs ys
Pairwise-turned R S turn [] [] h = tt
Pairwise-turned R S turn [] (y ∷ ys) h = absurd h
Pairwise-turned R S turn (x ∷ xs) [] h = absurd h
Pairwise-turned R S turn (x ∷ xs) (y ∷ ys) h = (turn x y h.0, Pairwise-turned R S turn xs ys h.1)

pub instances-more : (circuit : CircuitTree) (first : ℕ) (xs : List Site) (x : Site) (ys : List Instance) (y : Instance) → AreInstances circuit first xs ys → IsInstanceFor circuit (first + length (flat_map (signals_at (types_of circuit) circuit.modules) xs)) x y → AreInstances circuit first (xs ++ x ∷ []) (ys ++ y ∷ [])
instances-more circuit first [] x [] y h k = let same : first + 0 ≡ first = omega arith in (subst (λ n. IsInstanceFor circuit n x y) same k, tt)
instances-more circuit first [] x (z ∷ zs) y h k = absurd h
instances-more circuit first (a ∷ xs) x [] y h k = absurd h
instances-more circuit first (a ∷ xs) x (z ∷ zs) y h k =
    let sum = length-append (signals_at (types_of circuit) circuit.modules a) (flat_map (signals_at (types_of circuit) circuit.modules) xs) in
    let same : first + length (flat_map (signals_at (types_of circuit) circuit.modules) (a ∷ xs)) ≡ (first + length (signals_at (types_of circuit) circuit.modules a)) + length (flat_map (signals_at (types_of circuit) circuit.modules) xs) = omega (arith, sum) in
    (h.0, instances-more circuit (first + length (signals_at (types_of circuit) circuit.modules a)) xs x zs y h.1 (subst (λ n. IsInstanceFor circuit n x y) same k))

holder-parent : (circuit : CircuitTree) (paths : List (List ℕ)) (outer : Option Around) (parent : Option ℕ) → paths ≡ site_paths circuit → IsHolder paths outer parent → IsParent circuit (outer_of outer) parent
holder-parent circuit paths None None same h = tt
holder-parent circuit paths None (Some p) same h = absurd h
holder-parent circuit paths (Some around) None same h = absurd h
holder-parent circuit paths (Some around) (Some p) same h = subst (λ l. IsAt l around.path p) same h

module _ (circuit : CircuitTree) (top : ℕ) (known_top : place_of circuit.name (module_names circuit) ≡ Some top) (places : List Place) (sites : map site_of places ≡ sites_of circuit) where
  pub paths-same : map (λ (p : Place). p.path) places ≡ site_paths circuit
  paths-same = sym (map-map (λ (s : Site). s.path) site_of places) ∙ ap (map (λ (s : Site). s.path)) sites

  pub count-same : (k : ℕ) → signals_to circuit places k ≡ count_to (signals_in circuit) (sites_of circuit) k
  count-same k = ap (λ (l : List Site). length (flat_map (signals_in circuit) l)) (sym (take-map site_of k places) ∙ ap (take k) sites)

  size-same : length places ≡ length (sites_of circuit)
  size-same = sym (length-map places site_of) ∙ ap (λ (l : List Site). length l) sites

  site-is : (i : ℕ) (p : Place) → i < length places → p ≡ get_or places i p → (d : Site) → get_or (sites_of circuit) i d ≡ site_of p
  site-is i p lt is d = ap (λ (l : List Site). get_or l i d) (sym sites) ∙ get_or-map site_of places i p d lt ∙ ap site_of (sym is)

  placed-is : (i : ℕ) (p : Place) → i < length places → p ≡ get_or places i p → Placed (length circuit.modules) circuit.modules (sites_of circuit) i (site_of p)
  placed-is i p lt is =
      let s = stands circuit no_tree top known_top i (omega (arith, lt, size-same)) in
      subst (λ (x : Site). Placed (length circuit.modules) circuit.modules (sites_of circuit) i x) (sym (placed-at (length circuit.modules) circuit.modules (sites_of circuit) i s.0 (site_of p) s.1) ∙ site-is i p lt is (site_of p)) s.1

  depth-is : (i : ℕ) (d : Site) → i < length (sites_of circuit) → slice_index (map (λ (p : Place). p.depth) places) i ≡ (get_or (sites_of circuit) i d).depth
  depth-is i d lt =
      ap (λ (l : List ℕ). get_or l i 0) (sym (map-map (λ (s : Site). s.depth) site_of places) ∙ ap (map (λ (s : Site). s.depth)) sites)
      ∙ get_or-map (λ (s : Site). s.depth) (sites_of circuit) i d 0 lt

  -- the instance that is made is the instance of the site
  pub instance-is : (paths signals memories : List (List ℕ)) (digest : Digest) (place : Place) (i end first last : ℕ) (depths : List ℕ) (made : Instance) → i < length places → place ≡ get_or places i place → paths ≡ map (λ (p : Place). p.path) places → signals ≡ signal_paths circuit → memories ≡ memory_paths (memories_of circuit) → IsDigest (types_of circuit) circuit.modules place.number digest → first ≡ signals_to circuit places i → last ≡ signals_to circuit places end → depths ≡ map (λ (p : Place). p.depth) places → i < end → end ≤ length depths → ((j : ℕ) → i < j → j < end → slice_index depths i < slice_index depths j) → (end < length depths → slice_index depths end ≤ slice_index depths i) → place.own_clocks.items ≡ own_clocks circuit.modules (site_of place) → IsInstanceAt paths signals memories digest (module_at circuit.modules place.number).ports place first last made → IsInstanceFor circuit (signals_to circuit places i) (site_of place) made
  instance-is paths signals memories digest place i end first last depths made lt is paths_are signals_are memories_are digest_is first_is last_is depths_are after inside deeper stop followed m = record {
    parent = holder-parent circuit paths place.outer made.parent (paths_are ∙ paths-same) m.holder;
    number = m.number;
    begins = m.begins ∙ first_is;
    ends = m.ends ∙ last_is ∙ count-same end ∙ ap (count_to (signals_in circuit) (sites_of circuit)) end_is ∙ placed-count (length circuit.modules) circuit.modules (sites_of circuit) (signals_in circuit) i (site_of place) p ∙ ap (λ n. n + length (flat_map (signals_in circuit) (within (length circuit.modules) circuit.modules (site_of place)))) (sym (count-same i));
    ports = Pairwise-turned (IsPortAt signals place.path) (IsPortFor circuit (site_of place)) (λ port found at. record { signal = subst (λ l. IsAt l (joined place.path port.name) found.signal) signals_are at.signal; goes = at.goes }) (signals_among (module_at circuit.modules place.number).ports) made.ports m.ports_are;
    memories = subst (λ (l : List FlatMemory). Pairwise (IsMemoryAt circuit) l made.memories) (sym (memories-kept (types_of circuit) circuit.modules place digest digest_is))
        (Pairwise-mapped (IsNumberAt memories place.path) (IsMemoryAt circuit) (λ own. flat_memory circuit.modules (site_of place) (own_bank_of own)) (λ own number at. record { number = subst (λ l. IsAt l (joined place.path own.name.now) number) memories_are at }) digest.memories.items made.memories m.memories_are);
    clocks = m.clocks_are ∙ followed;
  }
    where
      p : Placed (length circuit.modules) circuit.modules (sites_of circuit) i (site_of place)
      p = placed-is i place lt is

      size : length depths ≡ length (sites_of circuit)
      size = ap (λ (l : List ℕ). length l) depths_are ∙ length-map places (λ (q : Place). q.depth) ∙ size-same

      depth : (j : ℕ) → j < length (sites_of circuit) → slice_index depths j ≡ (get_or (sites_of circuit) j (site_of place)).depth
      depth j below = ap (λ (l : List ℕ). slice_index l j) depths_are ∙ depth-is j (site_of place) below

      here : slice_index depths i ≡ place.depth
      here = depth i (omega (arith, lt, size-same)) ∙ ap (λ (s : Site). s.depth) (site-is i place lt is (site_of place))

      end_is : end ≡ i + length (within (length circuit.modules) circuit.modules (site_of place))
      end_is = ends-at circuit top known_top i (site_of place) (site_of place) p end after (omega (arith, inside, size))
          (λ j from to. omega (arith, deeper j from to, here, depth j (omega (arith, to, inside, size))))
          (λ below. omega (arith, stop (omega (arith, below, size)), here, depth end below))

-- ---- memories

pub memory-is-for : (circuit : CircuitTree) (paths memories : List (List ℕ)) (place : Place) (own : OwnMemory) (made : MemoryInstance) → paths ≡ site_paths circuit → memories ≡ memory_paths (memories_of circuit) → IsMemoryPart paths memories (module_at circuit.modules place.number) place.path own made → IsHeldFor circuit (held_at_place circuit.modules place own) made
memory-is-for circuit paths memories place own made p q h = record {
  holder = subst (λ l. IsAt l place.path made.instance) p h.holder;
  number = subst (λ l. IsAt l (joined place.path own.name.now) made.memory) q h.number;
  ports = h.ports_are;
  clocks =
      h.clocks_are
      ∙ sym (ap₂ (λ (xs ys : List (Option ℕ)). xs ++ ys) (map-map follows (λ n. n.now) own.bank.readers.items) (map-map follows (λ n. n.now) own.bank.writers.items))
      ∙ sym (map-append follows (map (λ n. n.now) own.bank.readers.items) (map (λ n. n.now) own.bank.writers.items));
}
  where
    follows : List ℕ → Option ℕ
    follows port = port_clock (module_at circuit.modules place.number) own.name.now port

-- the memories of the sites up to the next one
pub held-more : (circuit : CircuitTree) (places : List Place) (i : ℕ) (p : Place) (digest : Digest) → i < length places → p ≡ get_or places i p → IsDigest (types_of circuit) circuit.modules p.number digest → flat_map (held_memories circuit.modules) (map site_of (take i places)) ++ map (held_at_place circuit.modules p) digest.memories.items ≡ flat_map (held_memories circuit.modules) (map site_of (take (i + 1) places))
held-more circuit places i p digest lt is d =
    ap (λ l. flat_map (held_memories circuit.modules) (map site_of (take i places)) ++ l) (sym (map-map (held_memory (site_of p)) (λ m. flat_memory circuit.modules (site_of p) (own_bank_of m)) digest.memories.items) ∙ ap (map (held_memory (site_of p))) (sym (memories-kept (types_of circuit) circuit.modules p digest d)))
    ∙ sym (one_more (held_memories circuit.modules) places i p lt is)

pub held-paths : (places : List Place) (i : ℕ) (circuit : CircuitTree) (p : Place) (digest : Digest) → i < length places → p ≡ get_or places i p → IsDigest (types_of circuit) circuit.modules p.number digest → memory_paths (flat_memories circuit.modules (map site_of (take i places))) ++ map (λ m. joined p.path m.name.now) digest.memories.items ≡ memory_paths (flat_memories circuit.modules (map site_of (take (i + 1) places)))
held-paths places i circuit p digest lt is d =
    ap (λ l. memory_paths (flat_memories circuit.modules (map site_of (take i places))) ++ l) (sym (map-map (λ (m : FlatMemory). m.path) (λ m. flat_memory circuit.modules (site_of p) (own_bank_of m)) digest.memories.items))
    ∙ sym (map-append (λ (m : FlatMemory). m.path) (flat_memories circuit.modules (map site_of (take i places))) (map (λ m. flat_memory circuit.modules (site_of p) (own_bank_of m)) digest.memories.items))
    ∙ ap memory_paths (sym (memories-more (types_of circuit) circuit.modules places i p digest lt is d))

-- the instances of the sites up to the next one
pub instances-next : (circuit : CircuitTree) (places : List Place) (i : ℕ) (p : Place) (ys new : List Instance) (made : Instance) → i < length places → p ≡ get_or places i p → AreInstances circuit 0 (map site_of (take i places)) ys → IsInstanceFor circuit (signals_to circuit places i) (site_of p) made → new ≡ ys ++ made ∷ [] → AreInstances circuit 0 (map site_of (take (i + 1) places)) new
instances-next circuit places i p ys new made lt is h k e =
    let start : signals_to circuit places i ≡ 0 + signals_to circuit places i = omega arith in
    let sites : map site_of (take i places) ++ site_of p ∷ [] ≡ map site_of (take (i + 1) places) = sym (map-append site_of (take i places) (p ∷ [])) ∙ ap (map site_of) (ap (λ (x : Place). take i places ++ x ∷ []) is ∙ sym (take_more places i p lt)) in
    subst (λ l. AreInstances circuit 0 (map site_of (take (i + 1) places)) l) (sym e)
    (subst (λ l. AreInstances circuit 0 l (ys ++ made ∷ [])) sites (instances-more circuit 0 (map site_of (take i places)) (site_of p) ys made h (subst (λ n. IsInstanceFor circuit n (site_of p) made) start k)))

pub paths-next : (places : List Place) (i : ℕ) (p : Place) (old new : List (List ℕ)) → i < length places → p ≡ get_or places i p → old ≡ map (λ (q : Place). q.path) (take i places) → new ≡ old ++ p.path ∷ [] → new ≡ map (λ (q : Place). q.path) (take (i + 1) places)
paths-next places i p old new lt is h e =
    e ∙ ap (λ l. l ++ p.path ∷ []) h ∙ sym (map-append (λ (q : Place). q.path) (take i places) (p ∷ [])) ∙ ap (map (λ (q : Place). q.path)) (ap (λ (x : Place). take i places ++ x ∷ []) is ∙ sym (take_more places i p lt))
