-- How the signals of a circuit's tree are named: just below their instance, or as a field of a memory; and no memory has the path of an
-- instance.
use Rattle.std.proofs.Common.{◌≡◌, ◌≢◌, ◌⊎◌, inl, inr, ℕ, zero, suc, ◌+◌, ◌<◌, ◌≤◌, List, Some, length, get_or, map, sym, ap, ap₂, ◌∙◌, subst, arith, take_all}
use Rattle.std.specs.Prelude.{flat_map, Contains}
use Rattle.std.proofs.lemmas.Bool.{cases_lt}
use Rattle.std.proofs.lemmas.List.{length-map, get_or-map}
use Rattle.std.proofs.lemmas.Option.{same_Some}
use Rattle.gg_ast.specs.Places.{place_of}
use Rattle.gg_ast.specs.Tree.{CircuitTree, module_names}
use Rattle.gg_flat.specs.Circuit.{FlatCircuit}
use Rattle.gg_flat_tree.specs.Tree.{InstanceTree, IsInnermost, IsJustBelow, memory_at, path_at, joined}
use Rattle.gg_flat_tree.specs.Scoped.{IsMemoryField, memory_fields}
use Rattle.gg_elab_sites.specs.Sites.{Site, site_below, module_at, held_at, sites_of, top_site}
use Rattle.gg_elab_sites.specs.Flat.{flat_memory, memories_at}
use Rattle.gg_elab_sites.specs.IsFlat.{IsFlat}
use Rattle.gg_elab_tree.specs.IsTreeOf.{IsTreeOf, held_memory, held_memories, signal_paths, site_paths}
use Rattle.gg_elab_sites.specs.Signals.{Own, OwnBank, memory_signals}
use Rattle.gg_elab_tree.proofs.NamesLemmas.JoinLemmas.{joined-once, joined-some}
use Rattle.gg_elab_tree.proofs.PlaceLemmas.{Placed}
use Rattle.gg_elab_tree.proofs.RangeLemmas.{count_to, count-le, placed-at, placed-same}
use Rattle.gg_elab_tree.proofs.InstanceLemmas.{signals_in, top_placed, held_at-place, path-place, ranges}
use Rattle.gg_elab_tree.proofs.OwnLemmas.{own_in, own-place, placed-known, count-next}
use Rattle.gg_elab_tree.proofs.HeldMemoryLemmas.{banks_in, MemoryPlace, memory-place, memory-count, held-count}
use Rattle.gg_elab_tree.proofs.TreeLemmas.{HasDistinctPaths, HasPlainNames, no_own, path-is, OwnPlace, own-place-of, memory-path, holder-is}
use Rattle.gg_elab_tree.proofs.FieldLemmas.{FieldPlace, number_behind}
use Rattle.gg_elab_tree.proofs.ScopeOfTreeLemmas.{HasApartNames, just-below, fields-are, number-at}

module _ (circuit : CircuitTree) (tree : InstanceTree) (top : ℕ) (known_top : place_of circuit.name (module_names circuit) ≡ Some top) (is_tree : IsTreeOf circuit tree) where
  abbrev Stands : ℕ → Site → Type 0
  Stands k x = Placed (length circuit.modules) circuit.modules (sites_of circuit) k x

  abbrev memories_to : ℕ → ℕ
  memories_to k = count_to (held_memories circuit.modules) (sites_of circuit) k

  -- The place of a site's memory in the tree.
  pub record MemoryOf (k : ℕ) (x : Site) (b : OwnBank) : Type 0 where
    pub place : ℕ
    pub known : place < length tree.memories
    pub memory : MemoryPlace circuit tree place
    pub holder : memory.holder ≡ k
    pub site : memory.site ≡ x
    pub bank : memory.own ≡ b

  pub memory-of : (k : ℕ) (x : Site) → Stands k x → (q : ℕ) (b : OwnBank) → q < length (banks_in circuit x) → ((d : OwnBank) → get_or (banks_in circuit x) q d ≡ b) → MemoryOf k x b
  memory-of k x p q b lt is = record {
    place = memories_to k + q;
    known = known;
    memory = m;
    holder = holder;
    site = site;
    bank = sym (m.is_own b) ∙ ap₂ (λ y i. get_or (banks_in circuit y) i b) site offset ∙ is b;
  }
    where
      size : length (held_memories circuit.modules x) ≡ length (banks_in circuit x)
      size = length-map (memories_at circuit.modules x) (held_memory x) ∙ length-map (banks_in circuit x) (flat_memory circuit.modules x)

      next : memories_to (suc k) ≡ memories_to k + length (banks_in circuit x)
      next =
          count-next (held_memories circuit.modules) (sites_of circuit) k x (placed-known circuit k x p)
          ∙ ap (λ (y : Site). memories_to k + length (held_memories circuit.modules y)) (placed-at (length circuit.modules) circuit.modules (sites_of circuit) k x x p)
          ∙ ap (λ n. memories_to k + n) size

      total : memories_to (length (sites_of circuit)) ≡ length tree.memories
      total =
          ap (λ (l : List Site). length (flat_map (held_memories circuit.modules) l)) (take_all (length (sites_of circuit)) (sites_of circuit) (omega arith))
          ∙ held-count circuit tree top known_top is_tree
          ∙ sym (memory-count circuit tree top known_top is_tree)

      known : memories_to k + q < length tree.memories
      known = omega (arith, lt, next, total, count-le (held_memories circuit.modules) (sites_of circuit) (suc k) (length (sites_of circuit)) (omega (arith, placed-known circuit k x p)))

      m : MemoryPlace circuit tree (memories_to k + q)
      m = memory-place circuit tree top known_top is_tree (memories_to k + q) known

      holder : m.holder ≡ k
      holder = go (cases_lt m.holder k) (cases_lt k m.holder)
        where
          go : (m.holder < k) ⊎ (k ≤ m.holder) → (k < m.holder) ⊎ (m.holder ≤ k) → m.holder ≡ k
          go (inl sooner) which = absurd (omega (arith, m.below, count-le (held_memories circuit.modules) (sites_of circuit) (suc m.holder) k (omega (arith, sooner))))
          go (inr ge) (inl later) = absurd (omega (arith, m.counted, lt, next, count-le (held_memories circuit.modules) (sites_of circuit) (suc k) m.holder (omega (arith, later))))
          go (inr ge) (inr le) = omega (arith, ge, le)

      site : m.site ≡ x
      site = placed-same (length circuit.modules) circuit.modules (sites_of circuit) k m.site x (subst (λ i. Stands i m.site) holder m.placed) p

      offset : m.offset ≡ q
      offset = let same : memories_to m.holder ≡ memories_to k = ap memories_to holder in omega (arith, m.counted, same)

module _ (circuit : CircuitTree) (flat : FlatCircuit) (tree : InstanceTree) (top : ℕ) (known_top : place_of circuit.name (module_names circuit) ≡ Some top) (is_flat : IsFlat circuit flat) (is_tree : IsTreeOf circuit tree) (distinct : HasDistinctPaths circuit) (plain : HasPlainNames circuit) (names : HasApartNames circuit) where
  -- an own signal that is a field of one of the site's memories is a field of a memory in the tree
  field-here : (k : ℕ) (x : Site) → Placed (length circuit.modules) circuit.modules (sites_of circuit) k x → (o : ℕ) → o < length (own_in circuit x) → FieldPlace (module_at circuit.modules x.number).statements (get_or (own_in circuit x) o no_own) → IsMemoryField flat tree k (count_to (signals_in circuit) (sites_of circuit) k + o)
  field-here k x p o lt f = record {
    place = m.place;
    known = m.known;
    holder = holder-is circuit flat tree top known_top is_flat is_tree distinct plain m.place m.memory ∙ m.holder;
    field = (f.among.0, omega (arith, f.among.1, size), at);
  }
    where
      m : MemoryOf circuit tree top known_top is_tree k x f.bank
      m = memory-of circuit tree top known_top is_tree k x p f.place f.bank f.known f.is

      here : Own
      here = get_or (own_in circuit x) o no_own

      fields : memory_fields flat (memory_at tree m.place).memory ≡ map (number_behind (signal_paths circuit) x.path) (memory_signals f.bank.name (Some f.bank.bank))
      fields =
          fields-are circuit flat tree top known_top is_flat is_tree distinct plain names m.place m.known m.memory
          ∙ ap₂ (λ (y : Site) (b : OwnBank). map (number_behind (signal_paths circuit) y.path) (memory_signals b.name (Some b.bank))) m.site m.bank

      size : length (memory_fields flat (memory_at tree m.place).memory) ≡ length (memory_signals f.bank.name (Some f.bank.bank))
      size = ap (λ (l : List ℕ). length l) fields ∙ length-map (memory_signals f.bank.name (Some f.bank.bank)) (number_behind (signal_paths circuit) x.path)

      at : get_or (memory_fields flat (memory_at tree m.place).memory) f.among.0 (count_to (signals_in circuit) (sites_of circuit) k + o) ≡ count_to (signals_in circuit) (sites_of circuit) k + o
      at =
          ap (λ (l : List ℕ). get_or l f.among.0 (count_to (signals_in circuit) (sites_of circuit) k + o)) fields
          ∙ get_or-map (number_behind (signal_paths circuit) x.path) (memory_signals f.bank.name (Some f.bank.bank)) f.among.0 (get_or (own_in circuit x) o no_own) (count_to (signals_in circuit) (sites_of circuit) k + o) f.among.1
          ∙ ap (number_behind (signal_paths circuit) x.path) f.among.2
          ∙ number-at (signal_paths circuit) (joined x.path (get_or (own_in circuit x) o no_own).name) (count_to (signals_in circuit) (sites_of circuit) k + o) (own-place circuit k x p distinct.of_signals o no_own lt)

  pub named-of : (k s : ℕ) → IsInnermost tree k s → IsJustBelow (path_at tree.paths k) (path_at flat.paths s) ⊎ IsMemoryField flat tree k s
  named-of k s inner = go (names.of_own own.site own.offset own.known)
    where
      own : OwnPlace circuit flat tree top known_top is_flat is_tree distinct plain k s
      own = own-place-of circuit flat tree top known_top is_flat is_tree distinct plain k s inner

      go : ((d : Own) → ¬ Contains (get_or (own_in circuit own.site) own.offset d).name 46) ⊎ ((d : Own) → FieldPlace (module_at circuit.modules own.site.number).statements (get_or (own_in circuit own.site) own.offset d)) → IsJustBelow (path_at tree.paths k) (path_at flat.paths s) ⊎ IsMemoryField flat tree k s
      go (inl dotless) = inl (subst (λ t. IsJustBelow (path_at tree.paths k) (path_at flat.paths t)) (sym own.counted) (just-below circuit flat tree top known_top is_flat is_tree distinct plain names k own.site own.placed own.offset no_own own.known (dotless no_own)))
      go (inr field) = inr (subst (IsMemoryField flat tree k) (sym own.counted) (field-here k own.site own.placed own.offset own.known (field no_own)))

  pub apart-of : (k j : ℕ) → k < length tree.instances → j < length tree.memories → path_at tree.paths k ≢ path_at tree.memory_paths j
  apart-of k j lt inside same = go k lt same
    where
      m : MemoryPlace circuit tree j
      m = memory-place circuit tree top known_top is_tree j inside

      path : path_at tree.memory_paths j ≡ joined m.site.path m.own.name
      path = memory-path circuit flat tree top known_top is_flat is_tree distinct plain j inside m

      listed : Contains (banks_in circuit m.site) m.own
      listed = (m.offset, m.known, m.is_own m.own)

      go : (k : ℕ) → k < length tree.instances → path_at tree.paths k ≡ path_at tree.memory_paths j → ⊥
      go zero lt same =
          joined-some m.site.path m.own.name (names.some_name m.site m.own listed)
          (sym path ∙ sym same ∙ path-is circuit flat tree top known_top is_flat is_tree distinct 0 (top_site top) (top_placed circuit tree top known_top))
      go (suc k) lt same =
          let r = ranges circuit tree top known_top is_tree distinct.of_sites in
          let h = held_at-place circuit tree top known_top k (omega (arith, lt, r.same)) in
          let u = h.under in
          let once = joined-once u.outer.path m.site.path u.held.name m.own.name (plain.of_instances u.outer.number u.held u.among) (plain.of_memories m.site m.own listed)
          (sym (path-is circuit flat tree top known_top is_flat is_tree distinct (suc k) (site_below u.outer u.held) u.at_place) ∙ same ∙ path) in
          let place : h.above ≡ m.holder = same_Some h.above m.holder (sym (path-place circuit tree top known_top is_tree distinct.of_sites h.above u.outer u.at_outer) ∙ ap (λ path. place_of path (site_paths circuit)) once.0 ∙ path-place circuit tree top known_top is_tree distinct.of_sites m.holder m.site m.placed) in
          let site : u.outer ≡ m.site = placed-same (length circuit.modules) circuit.modules (sites_of circuit) m.holder u.outer m.site (subst (λ i. Placed (length circuit.modules) circuit.modules (sites_of circuit) i u.outer) place u.at_outer) m.placed in
          names.apart m.site u.held m.own (subst (λ (x : Site). Contains (held_at circuit.modules x.number) u.held) site u.among) listed once.1
