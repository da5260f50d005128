-- A flat circuit keeps to the scopes of its circuit's tree: ports, the fields of memories, and how signals are named.
use Rattle.std.proofs.Common.{◌≡◌, ◌≢◌, ◌⊎◌, ℕ, ◌+◌, ◌<◌, true, false, List, [], ◌∷◌, ◌++◌, Option, Some, None, length, get_or, map, filter, is_some, refl, sym, ap, ap₂, ◌∙◌, subst, subst₂, arith, length-append, unwrap_or}
use Rattle.std.specs.Prelude.{flat_map, filter_map, Contains, AllPairs}
use Rattle.std.proofs.lemmas.List.{length-map, get_or-map}
use Rattle.std.proofs.Math.Seq.{get_or-append-add}
use Rattle.std.proofs.lemmas.List.Elements.{Contains-get_or}
use Rattle.gg_bits.specs.Shape.{Shape}
use Rattle.gg_ast.specs.declared.module.Direction.{Direction}
use Rattle.gg_ast.specs.declared.module.Direction.TheVariants as direction
use Rattle.gg_ast.specs.declared.module.Port.{Port}
use Rattle.gg_ast.specs.Places.{place_of}
use Rattle.gg_ast.specs.Tree.{CircuitTree, module_names}
use Rattle.gg_flat.specs.Circuit.{FlatCircuit, readers_at}
use Rattle.gg_flat.specs.declared.memory.Memory.{Memory}
use Rattle.gg_flat_tree.specs.declared.tree.InstancePort.{InstancePort}
use Rattle.gg_flat_tree.specs.Tree.{InstanceTree, IsInnermost, IsWithin, IsJustBelow, instance_at, memory_at, path_at, joined}
use Rattle.gg_flat_tree.specs.Scoped.{IsPort, IsOwnPort, IsOwnField, IsFieldOf, input_signals, output_signals, reader_fields, writer_fields, writers_at, memory_fields}
use Rattle.gg_flat.proofs.ListLemmas.{filter-cases, some-item}
use Rattle.gg_elab_sites.specs.Sites.{Held, Site, module_at, held_at, sites_of, top_site}
use Rattle.gg_elab_sites.specs.Flat.{flat_memory}
use Rattle.gg_elab_sites.specs.IsFlat.{IsFlat, number_of, reader_of, writer_of, port_names, top_ports}
use Rattle.gg_elab_tree.specs.IsTreeOf.{IsTreeOf, IsPortFor, signal_paths, signal_ports, is_input, Pairwise}
use Rattle.gg_elab_sites.specs.Known.{types_of}
use Rattle.gg_types.specs.Memories.{type_shape}
use Rattle.gg_elab_sites.specs.Signals.{Own, own_of_port, own_stops, stop_signal, OwnBank, memory_signals}
use Rattle.gg_elab_tree.proofs.PairwiseLemmas.{Pairwise-length}
use Rattle.gg_elab_tree.proofs.PlaceLemmas.{Placed}
use Rattle.gg_elab_tree.proofs.RangeLemmas.{count_to, own-innermost}
use Rattle.gg_elab_tree.proofs.InstanceLemmas.{signals_in, top_placed, instance-for, ranges}
use Rattle.gg_elab_tree.proofs.OwnLemmas.{own_in, own-count, own-place, placed-known, port-own, front}
use Rattle.gg_elab_tree.proofs.HeldMemoryLemmas.{banks_in, MemoryPlace, memory-place}
use Rattle.gg_elab_tree.proofs.TreeLemmas.{HasDistinctPaths, HasPlainNames, no_own, Pairwise-other, path-is, port-at, signal-path, memory-path, holder-is, number-is, memory-is, flat-memory-count}
use Rattle.gg_elab_tree.proofs.NamesLemmas.JoinLemmas.{joined-behind, within-dot}
use Rattle.gg_elab_tree.proofs.FieldLemmas.{StandTogether, bank-together, together-within, number_behind, field-numbers, FieldName, memory-field, FieldPlace}

-- The names of each module are apart: a port's name has no dot; each own signal has a name without a dot or is a field of one of
-- the module's memories; and a memory has a name, which isn't the name of an instance.
pub record HasApartNames (circuit : CircuitTree) : Type 0 where
  pub of_ports : (x : Site) (p : Port) → Contains (module_at circuit.modules x.number).ports p → ¬ Contains p.name 46
  pub of_own : (x : Site) (o : ℕ) → o < length (own_in circuit x) → ((d : Own) → ¬ Contains (get_or (own_in circuit x) o d).name 46) ⊎ ((d : Own) → FieldPlace (module_at circuit.modules x.number).statements (get_or (own_in circuit x) o d))
  pub some_name : (x : Site) (b : OwnBank) → Contains (banks_in circuit x) b → b.name ≢ []
  pub apart : (x : Site) (h : Held) (b : OwnBank) → Contains (held_at circuit.modules x.number) h → Contains (banks_in circuit x) b → h.name ≢ b.name

-- ---- the circuit's ports

pub number-at : (paths : List (List ℕ)) (path : List ℕ) (s : ℕ) → place_of path paths ≡ Some s → number_of paths path ≡ s
number-at paths path s e = ap (λ o. unwrap_or o 0) e

module _ (circuit : CircuitTree) (top : ℕ) where
  abbrev Together : List Port → List InstancePort → Type 0
  Together ports found = Pairwise (IsPortFor circuit (top_site top)) (filter (λ (port : Port). is_some (type_shape port.ty)) ports) found

  ins-are : (ports : List Port) (found : List InstancePort) → Together ports found → input_signals found ≡ map (number_of (signal_paths circuit)) (port_names direction.Input ports)
  ins-are [] [] h = refl
  ins-are [] (y ∷ ys) h = absurd h
  ins-are (p ∷ ps) found h = go (type_shape p.ty) refl p.direction refl found h (ins-are ps)
    where
      go : (o : Option Shape) → type_shape p.ty ≡ o → (way : Direction) → p.direction ≡ way → (found : List InstancePort) → Together (p ∷ ps) found → ((found : List InstancePort) → Together ps found → input_signals found ≡ map (number_of (signal_paths circuit)) (port_names direction.Input ps)) → input_signals found ≡ map (number_of (signal_paths circuit)) (port_names direction.Input (p ∷ ps))
      go None e direction.Input w found h next = rw (e, w) (next found (rw e at h))
      go None e direction.Output w found h next = rw (e, w) (next found (rw e at h))
      go (Some s) e way w [] h next = absurd (rw e at h)
      go (Some s) e direction.Input w (y ∷ ys) h next =
          let k = rw e at h in
          let input : y.is_input ≡ true = k.0.goes ∙ ap is_input w in
          rw (e, w, input) (ap₂ (λ n l. n ∷ l) (sym (number-at (signal_paths circuit) p.name y.signal k.0.signal.is)) (next ys k.1))
      go (Some s) e direction.Output w (y ∷ ys) h next =
          let k = rw e at h in
          let input : y.is_input ≡ false = k.0.goes ∙ ap is_input w in
          rw (e, w, input) (next ys k.1)

  outs-are : (ports : List Port) (found : List InstancePort) → Together ports found → output_signals found ≡ map (number_of (signal_paths circuit)) (port_names direction.Output ports)
  outs-are [] [] h = refl
  outs-are [] (y ∷ ys) h = absurd h
  outs-are (p ∷ ps) found h = go (type_shape p.ty) refl p.direction refl found h (outs-are ps)
    where
      go : (o : Option Shape) → type_shape p.ty ≡ o → (way : Direction) → p.direction ≡ way → (found : List InstancePort) → Together (p ∷ ps) found → ((found : List InstancePort) → Together ps found → output_signals found ≡ map (number_of (signal_paths circuit)) (port_names direction.Output ps)) → output_signals found ≡ map (number_of (signal_paths circuit)) (port_names direction.Output (p ∷ ps))
      go None e direction.Input w found h next = rw (e, w) (next found (rw e at h))
      go None e direction.Output w found h next = rw (e, w) (next found (rw e at h))
      go (Some s) e way w [] h next = absurd (rw e at h)
      go (Some s) e direction.Output w (y ∷ ys) h next =
          let k = rw e at h in
          let input : y.is_input ≡ false = k.0.goes ∙ ap is_input w in
          rw (e, w, input) (ap₂ (λ n l. n ∷ l) (sym (number-at (signal_paths circuit) p.name y.signal k.0.signal.is)) (next ys k.1))
      go (Some s) e direction.Input w (y ∷ ys) h next =
          let k = rw e at h in
          let input : y.is_input ≡ true = k.0.goes ∙ ap is_input w in
          rw (e, w, input) (next ys k.1)

module _ (circuit : CircuitTree) (flat : FlatCircuit) (tree : InstanceTree) (top : ℕ) (known_top : place_of circuit.name (module_names circuit) ≡ Some top) (is_flat : IsFlat circuit flat) (is_tree : IsTreeOf circuit tree) (distinct : HasDistinctPaths circuit) (plain : HasPlainNames circuit) (names : HasApartNames circuit) where
  abbrev Stands : ℕ → Site → Type 0
  Stands k x = Placed (length circuit.modules) circuit.modules (sites_of circuit) k x

  abbrev from_site : ℕ → ℕ
  from_site k = count_to (signals_in circuit) (sites_of circuit) k

  same_ports : top_ports circuit.modules (place_of circuit.name (module_names circuit)) ≡ (module_at circuit.modules top).ports
  same_ports = ap (top_ports circuit.modules) known_top

  top_for : Pairwise (IsPortFor circuit (top_site top)) (signal_ports (module_at circuit.modules top)) (instance_at tree 0).ports
  top_for = (instance-for circuit tree top known_top is_tree distinct.of_sites 0 (top_site top) (top_placed circuit tree top known_top)).ports

  pub ins-of : input_signals (instance_at tree 0).ports ≡ flat.ins
  ins-of =
      ins-are circuit top (module_at circuit.modules top).ports (instance_at tree 0).ports top_for
      ∙ ap (λ ports. map (number_of (signal_paths circuit)) (port_names direction.Input ports)) (sym same_ports)
      ∙ sym is_flat.ins

  -- the numbers of the top's outputs, found by their names
  pub outs-of : output_signals (instance_at tree 0).ports ≡ map (number_of (signal_paths circuit)) (port_names direction.Output (top_ports circuit.modules (place_of circuit.name (module_names circuit))))
  outs-of =
      outs-are circuit top (module_at circuit.modules top).ports (instance_at tree 0).ports top_for
      ∙ ap (λ ports. map (number_of (signal_paths circuit)) (port_names direction.Output ports)) (sym same_ports)

  -- ---- own signals

  pub site-there : (k : ℕ) → k < length tree.instances → (x : Site) × Stands k x
  site-there k lt =
      let r = ranges circuit tree top known_top is_tree distinct.of_sites in
      let known : k < length (sites_of circuit) = omega (arith, lt, r.same) in
      (r.site k known, r.placed k known)

  -- a site's own signal is innermost in its instance
  pub own-is-innermost : (k : ℕ) (x : Site) → Stands k x → (o : ℕ) → o < length (own_in circuit x) → IsInnermost tree k (from_site k + o)
  own-is-innermost k x p o lt =
      own-innermost (length circuit.modules) circuit.modules (signals_in circuit) (sites_of circuit) tree (ranges circuit tree top known_top is_tree distinct.of_sites) k (from_site k + o) (placed-known circuit k x p) (omega arith) (omega (arith, lt, own-count circuit k x p))

  pub path-there : (k : ℕ) (x : Site) → Stands k x → (o : ℕ) (e : Own) → o < length (own_in circuit x) → path_at flat.paths (from_site k + o) ≡ joined x.path (get_or (own_in circuit x) o e).name
  path-there k x p o e lt = signal-path circuit flat tree top known_top is_flat is_tree distinct plain k x p o e lt

  -- an own signal whose name has no dot stands just below its instance
  pub just-below : (k : ℕ) (x : Site) → Stands k x → (o : ℕ) (e : Own) → o < length (own_in circuit x) → (¬ Contains (get_or (own_in circuit x) o e).name 46) → IsJustBelow (path_at tree.paths k) (path_at flat.paths (from_site k + o))
  just-below k x p o e lt dotless = record {
    name = (get_or (own_in circuit x) o e).name;
    plain = dotless;
    is = path-there k x p o e lt ∙ ap (λ path. joined path (get_or (own_in circuit x) o e).name) (sym (path-is circuit flat tree top known_top is_flat is_tree distinct k x p));
  }

  pub port-of : (k s : ℕ) → IsPort tree k s → IsOwnPort flat tree k s
  port-of k s port = subst (λ t. IsOwnPort flat tree k t) (sym counted) (record {
    own = own-is-innermost k x p i at.1;
    path = just-below k x p i no_own at.1 (subst (λ name. ¬ Contains name 46) (sym (own.1 no_own)) dotless);
  })
    where
      x : Site
      x = (site-there k port.known).0

      p : Stands k x
      p = (site-there k port.known).1

      i : ℕ
      i = port.listed.0

      at : ((get_or (instance_at tree k).ports i port.port).signal ≡ from_site k + i) × (i < length (own_in circuit x))
      at = port-at circuit flat tree top known_top is_flat is_tree distinct plain k x p i port.port port.listed.1

      counted : s ≡ from_site k + i
      counted = sym port.is ∙ sym (ap (λ (q : InstancePort). q.signal) port.listed.2) ∙ at.0

      h : Pairwise (IsPortFor circuit x) (signal_ports (module_at circuit.modules x.number)) (instance_at tree k).ports
      h = (instance-for circuit tree top known_top is_tree distinct.of_sites k x p).ports

      any : Port
      any = (Pairwise-other (IsPortFor circuit x) (signal_ports (module_at circuit.modules x.number)) (instance_at tree k).ports i port.port h port.listed.1).0

      inside : i < length (signal_ports (module_at circuit.modules x.number))
      inside = omega (arith, port.listed.1, Pairwise-length (IsPortFor circuit x) (signal_ports (module_at circuit.modules x.number)) (instance_at tree k).ports h)

      own : (i < length (own_in circuit x)) × ((d : Own) → (get_or (own_in circuit x) i d).name ≡ (get_or (signal_ports (module_at circuit.modules x.number)) i any).name)
      own = port-own circuit x i any inside

      dotless : ¬ Contains (get_or (signal_ports (module_at circuit.modules x.number)) i any).name 46
      dotless = names.of_ports x (get_or (signal_ports (module_at circuit.modules x.number)) i any) ((filter-cases (λ (q : Port). is_some (type_shape q.ty)) (module_at circuit.modules x.number).ports (get_or (signal_ports (module_at circuit.modules x.number)) i any) (Contains-get_or (signal_ports (module_at circuit.modules x.number)) i any inside)).among)

  pub ports_once-of : (k : ℕ) → k < length tree.instances → AllPairs (λ a b. a.signal ≢ b.signal) (instance_at tree k).ports
  ports_once-of k lt i j d before inside same =
      let there = site-there k lt in
      let one = port-at circuit flat tree top known_top is_flat is_tree distinct plain k there.0 there.1 i d (omega (arith, before, inside)) in
      let other = port-at circuit flat tree top known_top is_flat is_tree distinct plain k there.0 there.1 j d inside in
      omega (arith, one.0, other.0, same, before)

  -- ---- fields of memories

  -- the fields of a memory stand together among its site's own signals
  pub fields-together : (x : Site) (q : ℕ) (b : OwnBank) → q < length (banks_in circuit x) → get_or (banks_in circuit x) q b ≡ b → StandTogether (own_in circuit x) (memory_signals b.name (Some b.bank))
  fields-together x q b lt is = together-within (filter_map own_of_port (module_at circuit.modules x.number).ports) (map stop_signal (own_stops (module_at circuit.modules x.number).statements)) (bank-together (types_of circuit) x.number (module_at circuit.modules x.number).statements q b lt is)

  together-at : (all part : List Own) (t : StandTogether all part) (i : ℕ) (e : Own) → i < length part → (length t.before + i < length all) × (get_or all (length t.before + i) e ≡ get_or part i e)
  together-at all part t i e lt =
      let size : length all ≡ length t.before + (length part + length t.after) = ap (λ (l : List Own). length l) t.is ∙ length-append t.before (part ++ t.after) ∙ ap (λ n. length t.before + n) (length-append part t.after) in
      (omega (arith, lt, size), ap (λ (l : List Own). get_or l (length t.before + i) e) t.is ∙ get_or-append-add t.before (part ++ t.after) i e ∙ front part t.after i e lt)

  -- the fields of the memory at a place are the numbers of its own signals, found by their paths
  pub fields-are : (j : ℕ) → j < length tree.memories → (p : MemoryPlace circuit tree j) → memory_fields flat (memory_at tree j).memory ≡ map (number_behind (signal_paths circuit) p.site.path) (memory_signals p.own.name (Some p.own.bank))
  fields-are j lt p =
      ap (memory_fields flat) (number-is circuit flat tree top known_top is_flat is_tree distinct plain j lt p)
      ∙ ap₂ (λ readers writers. flat_map (λ reader. reader_fields reader) readers ++ flat_map (λ writer. writer_fields writer) writers) readers writers
      ∙ field-numbers (signal_paths circuit) circuit.modules p.site p.own
    where
      there : j < length flat.memories
      there = omega (arith, lt, flat-memory-count circuit flat tree top known_top is_flat is_tree distinct plain)

      memory : Memory
      memory = some-item flat.memories j there

      readers : readers_at flat j ≡ map (reader_of (signal_paths circuit) (flat_memory circuit.modules p.site p.own)) p.own.bank.readers
      readers = get_or-map (λ (m : Memory). m.readers) flat.memories j memory [] there ∙ (memory-is circuit flat tree top known_top is_flat is_tree distinct plain j lt p memory).readers

      writers : writers_at flat j ≡ map (writer_of (signal_paths circuit) (flat_memory circuit.modules p.site p.own)) p.own.bank.writers
      writers = get_or-map (λ (m : Memory). m.writers) flat.memories j memory [] there ∙ (memory-is circuit flat tree top known_top is_flat is_tree distinct plain j lt p memory).writers

  -- The fields of a memory stand one after another among the site's own signals.
  pub record FieldsInRow (j : ℕ) : Type 0 where
    pub place : MemoryPlace circuit tree j
    pub start : ℕ
    pub size : length (memory_fields flat (memory_at tree j).memory) ≡ length (memory_signals place.own.name (Some place.own.bank))
    pub inside : (i : ℕ) → i < length (memory_signals place.own.name (Some place.own.bank)) → start + i < length (own_in circuit place.site)
    pub is : (i : ℕ) (e : Own) → i < length (memory_signals place.own.name (Some place.own.bank)) → get_or (own_in circuit place.site) (start + i) e ≡ get_or (memory_signals place.own.name (Some place.own.bank)) i e
    pub number : (i d : ℕ) → i < length (memory_signals place.own.name (Some place.own.bank)) → get_or (memory_fields flat (memory_at tree j).memory) i d ≡ count_to (signals_in circuit) (sites_of circuit) place.holder + (start + i)

  pub fields-in-row : (j : ℕ) → j < length tree.memories → (p : MemoryPlace circuit tree j) → FieldsInRow j
  fields-in-row j lt p = record {
    place = p;
    start = length t.before;
    size = ap (λ (l : List ℕ). length l) fields ∙ length-map (memory_signals p.own.name (Some p.own.bank)) (number_behind (signal_paths circuit) p.site.path);
    inside = λ i inside. (together-at (own_in circuit p.site) (memory_signals p.own.name (Some p.own.bank)) t i no_own inside).0;
    is = λ i e inside. (together-at (own_in circuit p.site) (memory_signals p.own.name (Some p.own.bank)) t i e inside).1;
    number = λ i d inside.
        let r = together-at (own_in circuit p.site) (memory_signals p.own.name (Some p.own.bank)) t i no_own inside in
        ap (λ (l : List ℕ). get_or l i d) fields
        ∙ get_or-map (number_behind (signal_paths circuit) p.site.path) (memory_signals p.own.name (Some p.own.bank)) i no_own d inside
        ∙ ap (number_behind (signal_paths circuit) p.site.path) (sym r.1)
        ∙ number-at (signal_paths circuit) (joined p.site.path (get_or (own_in circuit p.site) (length t.before + i) no_own).name) (from_site p.holder + (length t.before + i)) (own-place circuit p.holder p.site p.placed distinct.of_signals (length t.before + i) no_own r.0);
  }
    where
      t : StandTogether (own_in circuit p.site) (memory_signals p.own.name (Some p.own.bank))
      t = fields-together p.site p.offset p.own p.known (p.is_own p.own)

      fields : memory_fields flat (memory_at tree j).memory ≡ map (number_behind (signal_paths circuit) p.site.path) (memory_signals p.own.name (Some p.own.bank))
      fields = fields-are j lt p

  some-row : (j : ℕ) → j < length tree.memories → FieldsInRow j
  some-row j lt = fields-in-row j lt (memory-place circuit tree top known_top is_tree j lt)

  pub field-of : (j s : ℕ) → j < length tree.memories → IsFieldOf flat tree j s → IsOwnField flat tree j s
  field-of j s lt has = subst (λ t. IsOwnField flat tree j t) (sym counted) (record {
    own = subst (λ k. IsInnermost tree k (from_site p.holder + (row.start + i))) (sym holder) (own-is-innermost p.holder p.site p.placed (row.start + i) (row.inside i inside));
    path = subst₂ IsWithin (sym memory) (sym path) (within-dot (joined p.site.path p.own.name) (named.port ++ 46 ∷ named.field));
  })
    where
      row : FieldsInRow j
      row = some-row j lt

      p : MemoryPlace circuit tree j
      p = row.place

      i : ℕ
      i = has.0

      inside : i < length (memory_signals p.own.name (Some p.own.bank))
      inside = omega (arith, has.1, row.size)

      counted : s ≡ from_site p.holder + (row.start + i)
      counted = sym has.2 ∙ row.number i s inside

      holder : (memory_at tree j).instance ≡ p.holder
      holder = holder-is circuit flat tree top known_top is_flat is_tree distinct plain j p

      named : FieldName p.own.name p.own.bank (get_or (memory_signals p.own.name (Some p.own.bank)) i no_own).name
      named = memory-field p.own.name p.own.bank i no_own inside

      memory : path_at tree.memory_paths j ≡ joined p.site.path p.own.name
      memory = memory-path circuit flat tree top known_top is_flat is_tree distinct plain j lt p

      path : path_at flat.paths (from_site p.holder + (row.start + i)) ≡ joined p.site.path p.own.name ++ 46 ∷ (named.port ++ 46 ∷ named.field)
      path =
          path-there p.holder p.site p.placed (row.start + i) no_own (row.inside i inside)
          ∙ ap (λ (o : Own). joined p.site.path o.name) (row.is i no_own inside)
          ∙ ap (joined p.site.path) named.is
          ∙ joined-behind p.site.path p.own.name (named.port ++ 46 ∷ named.field)

  pub fields_once-of : (j : ℕ) → j < length tree.memories → AllPairs (λ a b. a ≢ b) (memory_fields flat (memory_at tree j).memory)
  fields_once-of j lt a b d before inside same =
      let row = some-row j lt in
      let one = row.number a d (omega (arith, before, inside, row.size)) in
      let other = row.number b d (omega (arith, inside, row.size)) in
      omega (arith, one, other, same, before)
