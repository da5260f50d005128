-- The tree of a circuit is a tree of its flat circuit.
use Rattle.std.proofs.Common.{◌≡◌, ◌≢◌, ◌⊎◌, inl, inr, ℕ, zero, suc, ◌+◌, ◌-◌, ◌<◌, ◌≤◌, false, List, [], ◌∷◌, Some, length, get_or, refl, sym, ap, ◌∙◌, subst, arith, length-append, take_all, slice_index_or}
use Rattle.std.specs.Prelude.{flat_map, Contains, AllPairs}
use Rattle.std.proofs.lemmas.Bool.{cases_lt}
use Rattle.std.proofs.lemmas.List.{length-map, get_or-map, get_or_default}
use Rattle.std.proofs.lemmas.Option.{same_Some}
use Rattle.gg_bits.specs.Shape.{uint, shape}
use Rattle.gg_ast.specs.declared.module.Port.{Port}
use Rattle.gg_ast.specs.Places.{place_of}
use Rattle.gg_ast.specs.Tree.{CircuitTree, module_names}
use Rattle.gg_flat.specs.Circuit.{FlatCircuit}
use Rattle.gg_flat.specs.declared.memory.Memory.{Memory}
use Rattle.gg_flat.specs.declared.memory.Reader.{Reader}
use Rattle.gg_flat.specs.declared.memory.Writer.{Writer}
use Rattle.gg_flat.specs.declared.piece.Signal.{Signal}
use Rattle.gg_flat_tree.specs.declared.tree.InstancePort.{InstancePort}
use Rattle.gg_flat_tree.specs.declared.tree.MemoryInstance.{MemoryInstance}
use Rattle.gg_flat_tree.specs.Tree.{InstanceTree, IsTree, IsTop, IsBelow, IsInstance, IsHeld, IsInnermost, IsWithin, Holds, instance_at, memory_at, parent_place, path_at, joined, port_count}
use Rattle.gg_flat.proofs.ListLemmas.{some-item}
use Rattle.gg_elab_sites.specs.Sites.{Held, Site, site_below, module_at, held_at, sites_of, top_site}
use Rattle.gg_elab_sites.specs.Flat.{FlatSignal, FlatMemory, flat_memory, memories_at, flat_signals}
use Rattle.gg_elab_sites.specs.IsFlat.{IsFlat, IsMemoryOf, signals_of, reader_of, writer_of, memory_paths}
use Rattle.gg_elab_tree.specs.IsTreeOf.{IsTreeOf, IsInstanceFor, IsPortFor, IsMemoryAt, held_memories, site_paths, signal_paths, memories_of, signal_ports, Pairwise}
use Rattle.gg_elab_sites.specs.Known.{types_of}
use Rattle.gg_elab_sites.specs.Signals.{Own, own, FromOutside, OwnBank}
use Rattle.gg_elab_sites.proofs.NameLemmas.{Differ, place_of-path}
use Rattle.gg_elab_tree.proofs.PairwiseLemmas.{Pairwise-length}
use Rattle.gg_elab_tree.proofs.PlaceLemmas.{within, within-some, Placed, Under, held_from}
use Rattle.gg_elab_tree.proofs.RangeLemmas.{count_to, count-le, Ranges, placed-at, placed-inside, innermost-own}
use Rattle.gg_elab_tree.proofs.InstanceLemmas.{signals_in, top_placed, top_whole, sites-some, held_at-place, stands, instance-for, ranges, top_parent}
use Rattle.gg_elab_tree.proofs.OwnLemmas.{own_in, own-count, own-path, placed-known, port-own, port-signals, Pairwise-at}
use Rattle.gg_elab_tree.proofs.HeldMemoryLemmas.{banks_in, MemoryPlace, memory-place, memory-count, memory-holder, memory-number}

-- No two instances, signals or memories of the circuit have the same path.
pub record HasDistinctPaths (circuit : CircuitTree) : Type 0 where
  pub of_sites : Differ (site_paths circuit)
  pub of_signals : Differ (signal_paths circuit)
  pub of_memories : Differ (memory_paths (memories_of circuit))

-- The names of instances and of memories have no dots.
pub record HasPlainNames (circuit : CircuitTree) : Type 0 where
  pub of_instances : (k : ℕ) (h : Held) → Contains (held_at circuit.modules k) h → ¬ Contains h.name 46
  pub of_memories : (x : Site) (b : OwnBank) → Contains (banks_in circuit x) b → ¬ Contains b.name 46

-- an own signal for where there is none
abbrev pub no_own : Own
no_own = own [] FromOutside (uint 1)

abbrev pub no_port : InstancePort
no_port = record { signal = 0; is_input = false }

-- each element of the second list has one of the first that is related to it
pub Pairwise-other : {A B : Type 0} (R : A → B → Type 0) (xs : List A) (ys : List B) (i : ℕ) (b : B) → Pairwise R xs ys → i < length ys → (a : A) × R a (get_or ys i b)
Pairwise-other R [] [] i b h lt = absurd (omega (arith, lt))
Pairwise-other R [] (y ∷ ys) i b h lt = absurd h
Pairwise-other R (x ∷ xs) [] i b h lt = absurd h
Pairwise-other R (x ∷ xs) (y ∷ ys) zero b h lt = (x, h.0)
Pairwise-other R (x ∷ xs) (y ∷ ys) (suc i) b h lt = Pairwise-other R xs ys i b h.1 (omega (arith, lt))

module _ (circuit : CircuitTree) (flat : FlatCircuit) (tree : InstanceTree) (top : ℕ) (known_top : place_of circuit.name (module_names circuit) ≡ Some top) (is_flat : IsFlat circuit flat) (is_tree : IsTreeOf circuit tree) (distinct : HasDistinctPaths circuit) where
  abbrev Stands : ℕ → Site → Type 0
  Stands k x = Placed (length circuit.modules) circuit.modules (sites_of circuit) k x

  abbrev whole : Site → ℕ
  whole x = length (within (length circuit.modules) circuit.modules x)

  abbrev from_site : ℕ → ℕ
  from_site k = count_to (signals_in circuit) (sites_of circuit) k

  tells : Ranges (length circuit.modules) circuit.modules (signals_in circuit) (sites_of circuit) tree
  tells = ranges circuit tree top known_top is_tree distinct.of_sites

  abbrev site_at : (k : ℕ) → k < length (sites_of circuit) → Site
  site_at k lt = (stands circuit tree top known_top k lt).0

  abbrev stands_at : (k : ℕ) (lt : k < length (sites_of circuit)) → Stands k (site_at k lt)
  stands_at k lt = (stands circuit tree top known_top k lt).1

  pub instance-count : length tree.instances ≡ length (sites_of circuit)
  instance-count = tells.same

  -- the flat circuit has as many signals as the circuit's sites
  pub signal-count : length flat.signals ≡ length (flat_signals (types_of circuit) circuit.modules (sites_of circuit))
  signal-count =
      sym (length-map flat.signals (λ (s : Signal). shape s.ty))
      ∙ ap (λ l. length l) is_flat.shapes
      ∙ length-map (flat_signals (types_of circuit) circuit.modules (sites_of circuit)) (λ (s : FlatSignal). s.shape)

  all-counted : from_site (length (sites_of circuit)) ≡ length flat.signals
  all-counted = ap (λ (l : List Site). length (flat_map (signals_in circuit) l)) (take_all (length (sites_of circuit)) (sites_of circuit) (omega arith)) ∙ sym signal-count

  -- the path at a site's place is the site's path
  pub path-is : (k : ℕ) (x : Site) → Stands k x → path_at tree.paths k ≡ x.path
  path-is k x p =
      ap (λ (l : List (List ℕ)). get_or l k []) is_tree.paths
      ∙ get_or-map (λ (s : Site). s.path) (sites_of circuit) k x [] (placed-known circuit k x p)
      ∙ ap (λ (s : Site). s.path) (placed-at (length circuit.modules) circuit.modules (sites_of circuit) k x x p)

  top_of : IsTop flat tree
  top_of = record {
    there = omega (arith, instance-count, sites-some circuit tree top known_top);
    parent = top_parent circuit tree top known_top is_tree distinct.of_sites;
    path = path-is 0 (top_site top) (top_placed circuit tree top known_top);
    first = tells.begins 0 (sites-some circuit tree top known_top);
    all =
        tells.ends 0 (top_site top) (top_placed circuit tree top known_top)
        ∙ ap from_site (omega (arith, top_whole circuit tree top known_top))
        ∙ all-counted;
  }

  -- an instance below another is held by that one, or by one after it
  pub inner-parent : (k i : ℕ) (x : Site) → Stands k x → k < i → i < k + whole x → (above : ℕ) × (k ≤ above) × Under (length circuit.modules) circuit.modules (sites_of circuit) above i
  inner-parent k i x p after inside =
      let h = held_from (length circuit.modules) circuit.modules (sites_of circuit) (length circuit.modules - x.depth) k x refl p i after inside in
      (h.above, h.from_on, h.under)

  module _ (plain : HasPlainNames circuit) where
    below-of : (k above : ℕ) → Under (length circuit.modules) circuit.modules (sites_of circuit) above k → IsBelow tree k
    below-of k above u =
        let here = site_below u.outer u.held in
        let end_here = tells.ends k (site_below u.outer u.held) u.at_place in
        let end_above = tells.ends above u.outer u.at_outer in
        record {
          above = above;
          parent = tells.parent k above u;
          before = u.before;
          between = λ i after before.
              let some = within-some (length circuit.modules - (site_below u.outer u.held).depth) circuit.modules (site_below u.outer u.held) in
              let r = inner-parent above i u.outer u.at_outer after (omega (arith, before, some, u.inside)) in
              let parent : parent_place (instance_at tree i).parent ≡ r.0 = ap parent_place (tells.parent i r.0 r.2) in
              omega (arith, parent, r.1);
          path = record {
            name = u.held.name;
            plain = plain.of_instances u.outer.number u.held u.among;
            is = path-is k (site_below u.outer u.held) u.at_place ∙ ap (λ path. joined path u.held.name) (sym (path-is above u.outer u.at_outer));
          };
          first = omega (arith, tells.begins above (placed-known circuit above u.outer u.at_outer), tells.begins k (placed-known circuit k (site_below u.outer u.held) u.at_place), count-le (signals_in circuit) (sites_of circuit) above k (omega (arith, u.before)));
          last = omega (arith, end_here, end_above, count-le (signals_in circuit) (sites_of circuit) (k + whole (site_below u.outer u.held)) (above + whole u.outer) u.inside);
        }

    below-all : (k : ℕ) → 0 < k → k < length tree.instances → IsBelow tree k
    below-all zero some lt = absurd (omega (arith, some))
    below-all (suc k) some lt =
        let h = held_at-place circuit tree top known_top k (omega (arith, lt, instance-count)) in
        below-of (suc k) h.above h.under

    apart-of : (i j above : ℕ) → i < j → j < length tree.instances → (instance_at tree i).parent ≡ Some above → (instance_at tree j).parent ≡ Some above → ((instance_at tree i).end ≤ (instance_at tree j).first) ⊎ ((instance_at tree j).end ≤ (instance_at tree i).first)
    apart-of i j above before lt one other = go (cases_lt j (i + whole (site_at i known_i)))
      where
        known_i : i < length (sites_of circuit)
        known_i = omega (arith, before, lt, instance-count)

        known_j : j < length (sites_of circuit)
        known_j = omega (arith, lt, instance-count)

        go : (j < i + whole (site_at i known_i)) ⊎ (i + whole (site_at i known_i) ≤ j) → ((instance_at tree i).end ≤ (instance_at tree j).first) ⊎ ((instance_at tree j).end ≤ (instance_at tree i).first)
        go (inl among) =
            let r = inner-parent i j (site_at i known_i) (stands_at i known_i) before among in
            let same : r.0 ≡ above = same_Some r.0 above (sym (tells.parent j r.0 r.2) ∙ other) in
            let u = tells.under i above known_i one in
            absurd (omega (arith, same, r.1, u.before))
        go (inr behind) = inl (omega (arith, tells.ends i (site_at i known_i) (stands_at i known_i), tells.begins j known_j, count-le (signals_in circuit) (sites_of circuit) (i + whole (site_at i known_i)) j behind))

    -- what a site has of its own, its instance holds
    own-holds : (k : ℕ) (x : Site) → Stands k x → (s : ℕ) → from_site k ≤ s → s < from_site (suc k) → Holds (instance_at tree k) s
    own-holds k x p s from to =
        let some = within-some (length circuit.modules - x.depth) circuit.modules x in
        (omega (arith, from, tells.begins k (placed-known circuit k x p)), omega (arith, to, tells.ends k x p, count-le (signals_in circuit) (sites_of circuit) (suc k) (k + whole x) (omega (arith, some))))

    -- the port at a place of an instance has the site's own signal at that place
    pub port-at : (k : ℕ) (x : Site) → Stands k x → (i : ℕ) (d : InstancePort) → i < length (instance_at tree k).ports → ((get_or (instance_at tree k).ports i d).signal ≡ from_site k + i) × (i < length (own_in circuit x))
    port-at k x p i d lt =
        let h = instance-for circuit tree top known_top is_tree distinct.of_sites k x p in
        let same = Pairwise-length (IsPortFor circuit x) (signal_ports (module_at circuit.modules x.number)) (instance_at tree k).ports h.ports in
        let inside : i < length (signal_ports (module_at circuit.modules x.number)) = omega (arith, lt, same) in
        let any : Port = (Pairwise-other (IsPortFor circuit x) (signal_ports (module_at circuit.modules x.number)) (instance_at tree k).ports i d h.ports lt).0 in
        (port-signals circuit k x p distinct.of_signals (instance_at tree k).ports h.ports i d any no_own inside, (port-own circuit x i any inside).0)

    instance-of : (k : ℕ) → k < length tree.instances → IsInstance flat (instance_at tree k)
    instance-of k lt = record {
      range = omega (arith, begins, ends, count-le (signals_in circuit) (sites_of circuit) k (k + whole x) (omega arith));
      inside = omega (arith, ends, all-counted, count-le (signals_in circuit) (sites_of circuit) (k + whole x) (length (sites_of circuit)) (placed-inside (length circuit.modules) circuit.modules (sites_of circuit) k x p));
      ports = λ i d inside.
          let at = port-at k x p i d inside in
          own-holds k x p (get_or (instance_at tree k).ports i d).signal (omega (arith, at.0)) (omega (arith, at.0, at.1, own-count circuit k x p));
      memories = λ i d inside.
          let m = Pairwise-other (IsMemoryAt circuit) (memories_at circuit.modules x) (instance_at tree k).memories i d h.memories inside in
          let found = place_of-path (memory_paths (memories_of circuit)) m.0.path (get_or (instance_at tree k).memories i d) m.1.number.is in
          omega (arith, found.0, length-map (memories_of circuit) (λ (y : FlatMemory). y.path), is_flat.memory_count);
    }
      where
        known : k < length (sites_of circuit)
        known = omega (arith, lt, instance-count)

        x : Site
        x = site_at k known

        p : Stands k x
        p = stands_at k known

        h : IsInstanceFor circuit (from_site k) x (instance_at tree k)
        h = instance-for circuit tree top known_top is_tree distinct.of_sites k x p

        begins : (instance_at tree k).first ≡ from_site k
        begins = tells.begins k known

        ends : (instance_at tree k).end ≡ from_site (k + whole x)
        ends = tells.ends k x p

    -- A signal that is innermost in an instance is one of its site's own.
    pub record OwnPlace (k s : ℕ) : Type 0 where
      pub site : Site
      pub placed : Placed (length circuit.modules) circuit.modules (sites_of circuit) k site
      pub offset : ℕ
      pub known : offset < length (own_in circuit site)
      pub counted : s ≡ count_to (signals_in circuit) (sites_of circuit) k + offset

    pub own-place-of : (k s : ℕ) → IsInnermost tree k s → OwnPlace k s
    own-place-of k s inner =
        let r = innermost-own (length circuit.modules) circuit.modules (signals_in circuit) (sites_of circuit) tree tells k s inner in
        let known : k < length (sites_of circuit) = omega (arith, inner.known, instance-count) in
        record {
          site = site_at k known;
          placed = stands_at k known;
          offset = s - from_site k;
          known = omega (arith, r.0, r.1, own-count circuit k (site_at k known) (stands_at k known));
          counted = omega (arith, r.0);
        }

    -- the path of an own signal is the site's path joined with its name
    pub signal-path : (k : ℕ) (x : Site) → Stands k x → (o : ℕ) (e : Own) → o < length (own_in circuit x) → path_at flat.paths (from_site k + o) ≡ joined x.path (get_or (own_in circuit x) o e).name
    signal-path k x p o e lt = ap (λ (l : List (List ℕ)). get_or l (from_site k + o) []) is_flat.paths ∙ own-path circuit k x p o [] e lt

    within-of : (k s : ℕ) → IsInnermost tree k s → IsWithin (path_at tree.paths k) (path_at flat.paths s)
    within-of k s inner =
        let o = own-place-of k s inner in
        record {
          rest = (get_or (own_in circuit o.site) o.offset no_own).name;
          is =
              ap (path_at flat.paths) o.counted
              ∙ signal-path k o.site o.placed o.offset no_own o.known
              ∙ ap (λ path. joined path (get_or (own_in circuit o.site) o.offset no_own).name) (sym (path-is k o.site o.placed));
        }

    -- ---- memories

    some-memory : (j : ℕ) → j < length tree.memories → MemoryPlace circuit tree j
    some-memory j lt = memory-place circuit tree top known_top is_tree j lt

    -- the path of a memory is its site's path joined with its name
    pub memory-path : (j : ℕ) → j < length tree.memories → (p : MemoryPlace circuit tree j) → path_at tree.memory_paths j ≡ joined p.site.path p.own.name
    memory-path j lt p =
        ap (λ (l : List (List ℕ)). get_or l j []) is_tree.memory_names
        ∙ get_or-map (λ (m : FlatMemory). m.path) (memories_of circuit) j (flat_memory circuit.modules p.site p.own) [] (omega (arith, lt, memory-count circuit tree top known_top is_tree))
        ∙ ap (λ (m : FlatMemory). m.path) (p.said (flat_memory circuit.modules p.site p.own))

    pub holder-is : (j : ℕ) → (p : MemoryPlace circuit tree j) → (memory_at tree j).instance ≡ p.holder
    holder-is j p = memory-holder circuit tree top known_top is_tree distinct.of_sites distinct.of_memories j p

    pub number-is : (j : ℕ) → j < length tree.memories → (p : MemoryPlace circuit tree j) → (memory_at tree j).memory ≡ j
    number-is j lt p = memory-number circuit tree top known_top is_tree distinct.of_sites distinct.of_memories j lt p

    -- the memory of the flat circuit at a memory's place is what the site's module declares
    pub memory-is : (j : ℕ) → j < length tree.memories → (p : MemoryPlace circuit tree j) → (any : Memory) → IsMemoryOf (signals_of (flat_signals (types_of circuit) circuit.modules (sites_of circuit))).paths (flat_memory circuit.modules p.site p.own) (get_or flat.memories j any)
    memory-is j lt p any =
        subst (λ said. IsMemoryOf (signals_of (flat_signals (types_of circuit) circuit.modules (sites_of circuit))).paths said (get_or flat.memories j any))
        (p.said (flat_memory circuit.modules p.site p.own))
        (is_flat.memories j (flat_memory circuit.modules p.site p.own) any (omega (arith, lt, memory-count circuit tree top known_top is_tree)))

    pub flat-memory-count : length tree.memories ≡ length flat.memories
    flat-memory-count = memory-count circuit tree top known_top is_tree ∙ sym is_flat.memory_count

    held-of : (j : ℕ) → j < length tree.memories → IsHeld flat tree j
    held-of j lt = record {
      instance = omega (arith, holder, known, instance-count);
      own = subst (λ k. Contains (instance_at tree k).memories (memory_at tree j).memory) (sym holder) listed;
      path = record {
        name = p.own.name;
        plain = plain.of_memories p.site p.own (p.offset, p.known, p.is_own p.own);
        is = memory-path j lt p ∙ ap (λ path. joined path p.own.name) (sym (ap (path_at tree.paths) holder ∙ path-is p.holder p.site p.placed));
      };
      ports = ports;
    }
      where
        p : MemoryPlace circuit tree j
        p = some-memory j lt

        holder : (memory_at tree j).instance ≡ p.holder
        holder = holder-is j p

        number : (memory_at tree j).memory ≡ j
        number = number-is j lt p

        known : p.holder < length (sites_of circuit)
        known = placed-known circuit p.holder p.site p.placed

        h : IsInstanceFor circuit (from_site p.holder) p.site (instance_at tree p.holder)
        h = instance-for circuit tree top known_top is_tree distinct.of_sites p.holder p.site p.placed

        size : length (memories_at circuit.modules p.site) ≡ length (banks_in circuit p.site)
        size = length-map (banks_in circuit p.site) (flat_memory circuit.modules p.site)

        both : length (memories_at circuit.modules p.site) ≡ length (instance_at tree p.holder).memories
        both = Pairwise-length (IsMemoryAt circuit) (memories_at circuit.modules p.site) (instance_at tree p.holder).memories h.memories

        said_here : get_or (memories_at circuit.modules p.site) p.offset (flat_memory circuit.modules p.site p.own) ≡ flat_memory circuit.modules p.site p.own
        said_here = get_or-map (flat_memory circuit.modules p.site) (banks_in circuit p.site) p.offset p.own (flat_memory circuit.modules p.site p.own) p.known ∙ ap (flat_memory circuit.modules p.site) (p.is_own p.own)

        number_here : get_or (instance_at tree p.holder).memories p.offset (memory_at tree j).memory ≡ (memory_at tree j).memory
        number_here =
            let at = Pairwise-at (IsMemoryAt circuit) (memories_at circuit.modules p.site) (instance_at tree p.holder).memories p.offset (flat_memory circuit.modules p.site p.own) (memory_at tree j).memory h.memories (omega (arith, p.known, size)) in
            same_Some (get_or (instance_at tree p.holder).memories p.offset (memory_at tree j).memory) (memory_at tree j).memory
            (sym at.number.is ∙ ap (λ (m : FlatMemory). place_of m.path (memory_paths (memories_of circuit))) said_here ∙ p.is_for.number.is)

        listed : Contains (instance_at tree p.holder).memories (memory_at tree j).memory
        listed = (p.offset, omega (arith, p.known, size, both), number_here)

        there : j < length flat.memories
        there = omega (arith, lt, flat-memory-count)

        memory : Memory
        memory = some-item flat.memories j there

        is_memory : IsMemoryOf (signals_of (flat_signals (types_of circuit) circuit.modules (sites_of circuit))).paths (flat_memory circuit.modules p.site p.own) (get_or flat.memories j memory)
        is_memory = memory-is j lt p memory

        ports : length (memory_at tree j).ports ≡ port_count flat (memory_at tree j).memory
        ports =
            let names = ap (λ (l : List (List ℕ)). length l) p.is_for.ports in
            let sum = length-append p.own.bank.readers p.own.bank.writers in
            let readers = ap (λ (l : List Reader). length l) is_memory.readers in
            let writers = ap (λ (l : List Writer). length l) is_memory.writers in
            let each = length-map p.own.bank.readers (reader_of (signals_of (flat_signals (types_of circuit) circuit.modules (sites_of circuit))).paths (flat_memory circuit.modules p.site p.own)) in
            let every = length-map p.own.bank.writers (writer_of (signals_of (flat_signals (types_of circuit) circuit.modules (sites_of circuit))).paths (flat_memory circuit.modules p.site p.own)) in
            let counted : port_count flat j ≡ length (get_or flat.memories j memory).readers + length (get_or flat.memories j memory).writers = get_or-map (λ (m : Memory). length m.readers + length m.writers) flat.memories j memory 0 there in
            let here : port_count flat (memory_at tree j).memory ≡ port_count flat j = ap (port_count flat) number in
            omega (arith, names, sum, readers, writers, each, every, counted, here)

    -- the memory at a place doesn't depend on the default
    memory-any : (j : ℕ) (d : MemoryInstance) → j < length tree.memories → slice_index_or tree.memories j d ≡ memory_at tree j
    memory-any j d lt = get_or_default tree.memories j d (record { instance = 0; memory = 0; ports = []; clocks = [] }) lt

    once-of : AllPairs (λ a b. a.memory ≢ b.memory) tree.memories
    once-of i j d before lt same =
        let known : i < length tree.memories = omega (arith, before, lt) in
        let one : (slice_index_or tree.memories i d).memory ≡ i = ap (λ (m : MemoryInstance). m.memory) (memory-any i d known) ∙ number-is i known (some-memory i known) in
        let other : (slice_index_or tree.memories j d).memory ≡ j = ap (λ (m : MemoryInstance). m.memory) (memory-any j d lt) ∙ number-is j lt (some-memory j lt) in
        omega (arith, one, other, same, before)

    ordered-of : AllPairs (λ a b. a.instance ≤ b.instance) tree.memories
    ordered-of i j d before lt = go (cases_lt q.holder p.holder)
      where
        known : i < length tree.memories
        known = omega (arith, before, lt)

        p : MemoryPlace circuit tree i
        p = some-memory i known

        q : MemoryPlace circuit tree j
        q = some-memory j lt

        one : (slice_index_or tree.memories i d).instance ≡ p.holder
        one = ap (λ (m : MemoryInstance). m.instance) (memory-any i d known) ∙ holder-is i p

        other : (slice_index_or tree.memories j d).instance ≡ q.holder
        other = ap (λ (m : MemoryInstance). m.instance) (memory-any j d lt) ∙ holder-is j q

        go : (q.holder < p.holder) ⊎ (p.holder ≤ q.holder) → (slice_index_or tree.memories i d).instance ≤ (slice_index_or tree.memories j d).instance
        go (inl sooner) = absurd (omega (arith, q.below, p.counted, before, count-le (held_memories circuit.modules) (sites_of circuit) (suc q.holder) p.holder (omega (arith, sooner))))
        go (inr le) = omega (arith, one, other, le)

    -- the tree of a circuit is a tree of the circuit's flat circuit
    pub tree-of : IsTree flat tree
    tree-of = record {
      top = top_of;
      below = below-all;
      named = ap (λ (l : List (List ℕ)). length l) is_tree.paths ∙ length-map (sites_of circuit) (λ (s : Site). s.path) ∙ sym instance-count;
      distinct = subst (λ (l : List (List ℕ)). Differ l) (sym is_tree.paths) distinct.of_sites;
      apart = apart-of;
      each = instance-of;
      signals = within-of;
      count = flat-memory-count;
      memory_named = ap (λ (l : List (List ℕ)). length l) is_tree.memory_names ∙ length-map (memories_of circuit) (λ (m : FlatMemory). m.path) ∙ sym (memory-count circuit tree top known_top is_tree);
      memory_distinct = subst (λ (l : List (List ℕ)). Differ l) (sym is_tree.memory_names) distinct.of_memories;
      held = held-of;
      once = once-of;
      ordered = ordered-of;
    }
