-- The memories of a circuit's tree by their places.
use Rattle.std.proofs.Common.{◌≡◌, ℕ, suc, ◌+◌, ◌-◌, ◌<◌, List, [], ◌∷◌, ◌++◌, Some, length, get_or, map, refl, sym, ap, ◌∙◌, subst, arith}
use Rattle.std.specs.Prelude.{flat_map}
use Rattle.std.proofs.lemmas.List.{length-map, get_or-map, map-append}
use Rattle.std.proofs.lemmas.List.Concat.{get_or-flat_map}
use Rattle.std.proofs.lemmas.Option.{slice_get-get_or, same_Some}
use Rattle.gg_ast.specs.Places.{place_of}
use Rattle.gg_ast.specs.Tree.{ModuleTree, CircuitTree, module_names}
use Rattle.gg_flat_tree.specs.declared.tree.MemoryInstance.{MemoryInstance}
use Rattle.gg_flat_tree.specs.Tree.{InstanceTree, memory_at}
use Rattle.gg_elab_sites.specs.Sites.{Site, module_at, sites_of}
use Rattle.gg_elab_sites.specs.Flat.{FlatMemory, flat_memory, memories_at, flat_memories}
use Rattle.gg_elab_sites.specs.IsFlat.{memory_paths}
use Rattle.gg_elab_tree.specs.IsTreeOf.{site_paths, memories_of, IsMemoryFor, HeldMemory, held_memory, held_memories, IsTreeOf}
use Rattle.gg_elab_sites.specs.Signals.{OwnBank, own_banks}
use Rattle.gg_elab_sites.proofs.NameLemmas.{Differ, place_of-at}
use Rattle.gg_elab_tree.proofs.ElementLemmas.{element}
use Rattle.gg_elab_tree.proofs.PairwiseLemmas.{Pairwise-length}
use Rattle.gg_elab_tree.proofs.PlaceLemmas.{Placed}
use Rattle.gg_elab_tree.proofs.RangeLemmas.{count_to, Owner, owner, placed-at}
use Rattle.gg_elab_tree.proofs.InstanceLemmas.{stands, path-place}
use Rattle.gg_elab_tree.proofs.OwnLemmas.{count-next, Pairwise-at}

-- the memories of the module of a site
abbrev pub banks_in : CircuitTree → Site → List OwnBank
banks_in circuit x = own_banks (module_at circuit.modules x.number).statements

said_of : (site : Site) (all : List FlatMemory) → map (λ h. h.said) (map (held_memory site) all) ≡ all
said_of site [] = refl
said_of site (m ∷ ms) = ap (λ l. m ∷ l) (said_of site ms)

-- what is listed with each memory's site is the circuit's memories
pub held-said : (modules : List ModuleTree) (all : List Site) → map (λ (h : HeldMemory). h.said) (flat_map (held_memories modules) all) ≡ flat_memories modules all
held-said modules [] = refl
held-said modules (x ∷ xs) =
    map-append (λ (h : HeldMemory). h.said) (held_memories modules x) (flat_map (held_memories modules) xs)
    ∙ ap (λ (l : List FlatMemory). l ++ map (λ (h : HeldMemory). h.said) (flat_map (held_memories modules) xs)) (said_of x (memories_at modules x))
    ∙ ap (λ (l : List FlatMemory). memories_at modules x ++ l) (held-said modules xs)

-- The memory at a place of the tree: the site that holds it, and which of its memories it is.
pub record MemoryPlace (circuit : CircuitTree) (tree : InstanceTree) (j : ℕ) : Type 0 where
  pub holder : ℕ
  pub site : Site
  pub placed : Placed (length circuit.modules) circuit.modules (sites_of circuit) holder site
  pub offset : ℕ
  pub own : OwnBank
  pub known : offset < length (banks_in circuit site)
  pub is_own : (d : OwnBank) → get_or (banks_in circuit site) offset d ≡ own
  pub counted : j ≡ count_to (held_memories circuit.modules) (sites_of circuit) holder + offset
  pub below : j < count_to (held_memories circuit.modules) (sites_of circuit) (suc holder)
  pub said : (d : FlatMemory) → get_or (memories_of circuit) j d ≡ flat_memory circuit.modules site own
  pub is_for : IsMemoryFor circuit site (flat_memory circuit.modules site own) (memory_at tree j)

module _ (circuit : CircuitTree) (tree : InstanceTree) (top : ℕ) (known_top : place_of circuit.name (module_names circuit) ≡ Some top) (is : IsTreeOf circuit tree) where
  pub held-count : length (flat_map (held_memories circuit.modules) (sites_of circuit)) ≡ length (memories_of circuit)
  held-count = sym (length-map (flat_map (held_memories circuit.modules) (sites_of circuit)) (λ (h : HeldMemory). h.said)) ∙ ap (λ (l : List FlatMemory). length l) (held-said circuit.modules (sites_of circuit))

  pub memory-count : length tree.memories ≡ length (memories_of circuit)
  memory-count = sym (Pairwise-length (λ (h : HeldMemory) (memory : MemoryInstance). IsMemoryFor circuit h.site h.said memory) (flat_map (held_memories circuit.modules) (sites_of circuit)) tree.memories is.memories) ∙ held-count

  pub memory-place : (j : ℕ) → j < length tree.memories → MemoryPlace circuit tree j
  memory-place j lt = record {
    holder = o.place;
    site = x;
    placed = p;
    offset = j - count_to (held_memories circuit.modules) (sites_of circuit) o.place;
    own = bank;
    known = known;
    is_own = is_own;
    counted = omega (arith, o.from);
    below = o.to;
    said = λ d. said d ∙ ap (λ (h : HeldMemory). h.said) (held_is (held_memory x d));
    is_for = subst (λ (h : HeldMemory). IsMemoryFor circuit h.site h.said (memory_at tree j)) (held_is (held_memory x (flat_memory circuit.modules x bank))) (at (held_memory x (flat_memory circuit.modules x bank)));
  }
    where
      inside : j < length (flat_map (held_memories circuit.modules) (sites_of circuit))
      inside = omega (arith, lt, memory-count, held-count)

      o : Owner (held_memories circuit.modules) (sites_of circuit) j
      o = owner (held_memories circuit.modules) (sites_of circuit) j inside

      x : Site
      x = (stands circuit tree top known_top o.place o.known).0

      p : Placed (length circuit.modules) circuit.modules (sites_of circuit) o.place x
      p = (stands circuit tree top known_top o.place o.known).1

      here : get_or (sites_of circuit) o.place x ≡ x
      here = placed-at (length circuit.modules) circuit.modules (sites_of circuit) o.place x x p

      size : length (held_memories circuit.modules x) ≡ length (banks_in circuit x)
      size = length-map (memories_at circuit.modules x) (held_memory x) ∙ length-map (banks_in circuit x) (flat_memory circuit.modules x)

      next : count_to (held_memories circuit.modules) (sites_of circuit) (suc o.place) ≡ count_to (held_memories circuit.modules) (sites_of circuit) o.place + length (banks_in circuit x)
      next =
          count-next (held_memories circuit.modules) (sites_of circuit) o.place x o.known
          ∙ ap (λ (y : Site). count_to (held_memories circuit.modules) (sites_of circuit) o.place + length (held_memories circuit.modules y)) here
          ∙ ap (λ n. count_to (held_memories circuit.modules) (sites_of circuit) o.place + n) size

      known : j - count_to (held_memories circuit.modules) (sites_of circuit) o.place < length (banks_in circuit x)
      known = omega (arith, o.from, o.to, next)

      found : (y : OwnBank) × ((d : OwnBank) → get_or (banks_in circuit x) (j - count_to (held_memories circuit.modules) (sites_of circuit) o.place) d ≡ y)
      found = let e = element (banks_in circuit x) (j - count_to (held_memories circuit.modules) (sites_of circuit) o.place) known in (e.0, e.2)

      bank : OwnBank
      bank = found.0

      is_own : (d : OwnBank) → get_or (banks_in circuit x) (j - count_to (held_memories circuit.modules) (sites_of circuit) o.place) d ≡ bank
      is_own = found.1

      -- the memory with its site
      held_is : (d : HeldMemory) → get_or (flat_map (held_memories circuit.modules) (sites_of circuit)) j d ≡ held_memory x (flat_memory circuit.modules x bank)
      held_is d =
          let back : j ≡ count_to (held_memories circuit.modules) (sites_of circuit) o.place + (j - count_to (held_memories circuit.modules) (sites_of circuit) o.place) = omega (arith, o.from) in
          let fits : length (held_memories circuit.modules (get_or (sites_of circuit) o.place x)) ≡ length (banks_in circuit x) = ap (λ (y : Site). length (held_memories circuit.modules y)) here ∙ size in
          ap (λ i. get_or (flat_map (held_memories circuit.modules) (sites_of circuit)) i d) back
          ∙ get_or-flat_map (held_memories circuit.modules) (sites_of circuit) o.place (j - count_to (held_memories circuit.modules) (sites_of circuit) o.place) x d o.known (omega (arith, known, fits))
          ∙ ap (λ (y : Site). get_or (held_memories circuit.modules y) (j - count_to (held_memories circuit.modules) (sites_of circuit) o.place) d) here
          ∙ get_or-map (held_memory x) (memories_at circuit.modules x) (j - count_to (held_memories circuit.modules) (sites_of circuit) o.place) (flat_memory circuit.modules x bank) d (omega (arith, known, length-map (banks_in circuit x) (flat_memory circuit.modules x)))
          ∙ ap (held_memory x) (get_or-map (flat_memory circuit.modules x) (banks_in circuit x) (j - count_to (held_memories circuit.modules) (sites_of circuit) o.place) bank (flat_memory circuit.modules x bank) known)
          ∙ ap (λ b. held_memory x (flat_memory circuit.modules x b)) (is_own bank)

      said : (d : FlatMemory) → get_or (memories_of circuit) j d ≡ (get_or (flat_map (held_memories circuit.modules) (sites_of circuit)) j (held_memory x d)).said
      said d =
          ap (λ (l : List FlatMemory). get_or l j d) (sym (held-said circuit.modules (sites_of circuit)))
          ∙ get_or-map (λ (h : HeldMemory). h.said) (flat_map (held_memories circuit.modules) (sites_of circuit)) j (held_memory x d) d inside

      at : (d : HeldMemory) → IsMemoryFor circuit (get_or (flat_map (held_memories circuit.modules) (sites_of circuit)) j d).site (get_or (flat_map (held_memories circuit.modules) (sites_of circuit)) j d).said (memory_at tree j)
      at d = Pairwise-at (λ (h : HeldMemory) (memory : MemoryInstance). IsMemoryFor circuit h.site h.said memory) (flat_map (held_memories circuit.modules) (sites_of circuit)) tree.memories j d (record { instance = 0; memory = 0; ports = []; clocks = [] }) is.memories inside

  module _ (sites_differ : Differ (site_paths circuit)) (memories_differ : Differ (memory_paths (memories_of circuit))) where
    -- the first place of the path of a memory is the memory's own place
    pub memory_path-place : (j : ℕ) (d : FlatMemory) → j < length (memories_of circuit) → place_of (get_or (memories_of circuit) j d).path (memory_paths (memories_of circuit)) ≡ Some j
    memory_path-place j d lt =
        place_of-at (memory_paths (memories_of circuit)) (get_or (memories_of circuit) j d).path j
        (slice_get-get_or (memory_paths (memories_of circuit)) j [] (omega (arith, lt, length-map (memories_of circuit) (λ (m : FlatMemory). m.path)))
        ∙ ap Some (get_or-map (λ (m : FlatMemory). m.path) (memories_of circuit) j d [] lt))
        memories_differ

    -- a memory is held by the instance of its site, and its number is its place
    pub memory-holder : (j : ℕ) → (p : MemoryPlace circuit tree j) → (memory_at tree j).instance ≡ p.holder
    memory-holder j p = same_Some (memory_at tree j).instance p.holder (sym p.is_for.holder.is ∙ path-place circuit tree top known_top is sites_differ p.holder p.site p.placed)

    pub memory-number : (j : ℕ) → j < length tree.memories → (p : MemoryPlace circuit tree j) → (memory_at tree j).memory ≡ j
    memory-number j lt p =
        same_Some (memory_at tree j).memory j
        (sym p.is_for.number.is
        ∙ ap (λ (m : FlatMemory). place_of m.path (memory_paths (memories_of circuit))) (sym (p.said (flat_memory circuit.modules p.site p.own)))
        ∙ memory_path-place j (flat_memory circuit.modules p.site p.own) (omega (arith, lt, memory-count)))
