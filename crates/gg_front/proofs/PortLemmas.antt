-- The ports of a memory have names, and no two have the same, since a circuit that keeps to its scopes has each field
-- of a memory once. With that all is known of the paths of a circuit.
use Rattle.std.proofs.Common.{◌≡◌, ◌≢◌, ℕ, ◌+◌, ◌<◌, ◌⊎◌, inl, inr, List, [], ◌∷◌, ◌++◌, codes, length, get_or, map, refl, sym, ap, ap₂, ◌∙◌, subst, arith, length-append}
use Rattle.std.specs.Prelude.{All, AllPairs, Contains, flat_map, unwrap_or}
use Rattle.std.proofs.Math.Seq.{get_or-append-add}
use Rattle.std.proofs.lemmas.List.{get_or-map, get_or_append_left, get_or_default}
use Rattle.std.proofs.lemmas.List.Elements.{Contains-append_cases, Contains-get_or}
use Rattle.std.proofs.lemmas.List.Folds.{flat_map-map}
use Rattle.std.proofs.lemmas.List.Kept.{AllPairs-cons}
use Rattle.gg_ast.specs.Names.{IsName}
use Rattle.gg_ast.specs.inside.Names.{AreNamesOfCircuit}
use Rattle.gg_ast.specs.Tree.{CircuitTree}
use Rattle.gg_flat.specs.Circuit.{FlatCircuit, readers_at}
use Rattle.gg_flat.specs.declared.memory.Memory.{Memory}
use Rattle.gg_flat_tree.specs.declared.tree.MemoryInstance.{MemoryInstance}
use Rattle.gg_flat_tree.specs.Scoped.{IsScoped, memory_fields, reader_fields, writer_fields, writers_at}
use Rattle.gg_flat_tree.specs.Tree.{InstanceTree, IsTree}
use Rattle.gg_flat.proofs.ListLemmas.{some-item}
use Rattle.gg_elab_sites.specs.Sites.{Site, sites_of}
use Rattle.gg_elab_sites.specs.Flat.{FlatMemory, memories_at}
use Rattle.gg_elab_sites.specs.IsFlat.{IsFlat, IsMemoryOf, field_number, memory_paths, reader_of, writer_of}
use Rattle.gg_elab_sites.proofs.AmongLemmas.{element-at, from-map, from-flat_map, in-flat_map}
use Rattle.gg_elab_sites.proofs.NameLemmas.{Differ}
use Rattle.gg_elab_tree.specs.IsTreeOf.{HeldMemory, IsMemoryFor, IsTreeOf, held_memories, held_memory, memories_of, signal_paths}
use Rattle.gg_elab_tree.proofs.OwnLemmas.{Pairwise-at}
use Rattle.gg_elab_tree.proofs.PairwiseLemmas.{Pairwise-length}
use Rattle.gg_elab_tree.proofs.NamesLemmas.DifferLemmas.{Differ-append, Differ-none}
use Rattle.gg_elab_tree.proofs.WellFormedLemmas.DriveLemmas.{Stands, stands-at}
use Rattle.gg_read.specs.Text.{Spells}
use Rattle.gg_front.specs.inside.Paths.{HavePaths}
use Rattle.gg_front.proofs.PathLemmas.{IsBankOf, bank-of, flat-paths, tree-memory-paths, tree-paths}
use Rattle.gg_front.proofs.SpeltLemmas.{names-spelt}

-- ---- numbers that all differ

front : (xs ys : List ℕ) → AllPairs (λ a b. a ≢ b) (xs ++ ys) → AllPairs (λ a b. a ≢ b) xs
front xs ys apart i j d less lt same =
    apart i j d less (omega (arith, lt, length-append xs ys)) (get_or_append_left xs ys d i (omega (arith, less, lt)) ∙ same ∙ sym (get_or_append_left xs ys d j lt))

behind : (xs ys : List ℕ) → AllPairs (λ a b. a ≢ b) (xs ++ ys) → AllPairs (λ a b. a ≢ b) ys
behind xs ys apart i j d less lt same =
    apart (length xs + i) (length xs + j) d (omega (arith, less)) (omega (arith, lt, length-append xs ys))
    (get_or-append-add xs ys i d ∙ same ∙ sym (get_or-append-add xs ys j d))

cross : (xs ys : List ℕ) (n : ℕ) → AllPairs (λ a b. a ≢ b) (xs ++ ys) → Contains xs n → Contains ys n → ⊥
cross xs ys n apart (i, lt, is) (j, below, at) =
    apart i (length xs + j) n (omega (arith, lt)) (omega (arith, below, length-append xs ys))
    (get_or_append_left xs ys n i lt ∙ is ∙ sym at ∙ sym (get_or-append-add xs ys j n))

-- words differ if the numbers that each brings do
words-differ : (f : List ℕ → List ℕ) (h : List ℕ → ℕ) → ((w : List ℕ) → Contains (f w) (h w)) → (ws : List (List ℕ)) → AllPairs (λ a b. a ≢ b) (flat_map f ws) → Differ ws
words-differ f h own [] apart = Differ-none
words-differ f h own (w ∷ ws) apart =
    AllPairs-cons (λ a b. a ≢ b) w ws
    (λ k d lt same.
    let later = element-at ws k lt in
    let equal : w ≡ later.element = same ∙ later.is d in
    cross (f w) (flat_map f ws) (h w) apart (own w)
    (in-flat_map f ws later.element (h w) later.among (subst (λ x. Contains (f later.element) (h x)) (sym equal) (own later.element))))
    (words-differ f h own ws (behind (f w) (flat_map f ws) apart))

-- ---- one memory

abbrev no_memory : MemoryInstance
no_memory = record { instance = 0; memory = 0; ports = []; clocks = [] }

module _ (circuit : CircuitTree) (names : AreNamesOfCircuit circuit) (tree : InstanceTree) (grown : IsTreeOf circuit tree) where
  abbrev held : List HeldMemory
  held = flat_map (held_memories circuit.modules) (sites_of circuit)

  -- the memory at a place of the tree, as the text has it
  record IsSaid (memory : MemoryInstance) : Type 0 where
    site : Site
    said : FlatMemory
    listed : Contains (sites_of circuit) site
    among : Contains (memories_at circuit.modules site) said
    is : IsMemoryFor circuit site said memory

  is-said : (j : ℕ) (any : MemoryInstance) → j < length tree.memories → IsSaid (get_or tree.memories j any)
  is-said j any lt =
      let count = Pairwise-length (λ (h : HeldMemory) (memory : MemoryInstance). IsMemoryFor circuit h.site h.said memory) held tree.memories grown.memories in
      let below : j < length held = omega (arith, lt, count) in
      let at = element-at held j below in
      let site = from-flat_map (held_memories circuit.modules) (sites_of circuit) at.element at.among in
      let said = from-map (held_memory site.of) (memories_at circuit.modules site.of) at.element site.made in
      let h : held_memory site.of said.of ≡ get_or held j at.element = said.made ∙ sym (at.is at.element) in
      record {
        site = site.of;
        said = said.of;
        listed = site.among;
        among = said.among;
        is = subst (λ (x : HeldMemory). IsMemoryFor circuit x.site x.said (get_or tree.memories j any)) (sym h)
            (Pairwise-at (λ (x : HeldMemory) (memory : MemoryInstance). IsMemoryFor circuit x.site x.said memory) held tree.memories j at.element any grown.memories below);
      }

  pub ports-named : All (λ memory. All IsName memory.ports) tree.memories
  ports-named j any lt =
      let s = is-said j any lt in
      let b = bank-of circuit names s.site s.said s.among in
      subst (All IsName) (sym s.is.ports)
      (λ k d less.
      subst (λ (x : FlatMemory). (p : List ℕ) → Contains (x.bank.readers ++ x.bank.writers) p → IsName p) b.is (name b)
      (get_or (s.said.bank.readers ++ s.said.bank.writers) k d) (Contains-get_or (s.said.bank.readers ++ s.said.bank.writers) k d less))
    where
      name : {said : FlatMemory} (b : IsBankOf circuit names said) (p : List ℕ) → Contains (b.bank.bank.readers ++ b.bank.bank.writers) p → IsName p
      name b p c = go (Contains-append_cases b.bank.bank.readers b.bank.bank.writers p c)
        where
          go : Contains b.bank.bank.readers p ⊎ Contains b.bank.bank.writers p → IsName p
          go (inl h) = b.named.readers p h
          go (inr h) = b.named.writers p h

  module _ (flat : FlatCircuit) (is : IsFlat circuit flat) (fits : IsTree flat tree) (scoped : IsScoped flat tree) where
    memories-differ : Differ (memory_paths (memories_of circuit))
    memories-differ = subst Differ grown.memory_names fits.memory_distinct

    -- the memory of the flat circuit at this place, as the text has it
    module _ (j : ℕ) (any : MemoryInstance) (lt : j < length tree.memories) where
      abbrev own : FlatMemory
      own = (is-said j any lt).said

      abbrev number : ℕ
      number = (get_or tree.memories j any).memory

      stands : Stands (memories_of circuit) own number
      stands =
          subst (λ k. Stands (memories_of circuit) own k) (ap (λ o. unwrap_or o 0) (is-said j any lt).is.number.is)
          (stands-at (λ (x : FlatMemory). x.path) (memories_of circuit) own memories-differ
          (in-flat_map (memories_at circuit.modules) (sites_of circuit) (is-said j any lt).site own (is-said j any lt).listed (is-said j any lt).among))

      inside : number < length flat.memories
      inside = omega (arith, stands.inside, is.memory_count)

      laid : (other : Memory) → IsMemoryOf (signal_paths circuit) own (get_or flat.memories number other)
      laid other =
          subst (λ (x : FlatMemory). IsMemoryOf (signal_paths circuit) x (get_or flat.memories number other)) (stands.is own)
          (is.memories number own other stands.inside)

      -- the fields of a port
      abbrev of_reader : List ℕ → List ℕ
      of_reader p = reader_fields (reader_of (signal_paths circuit) own p)

      abbrev of_writer : List ℕ → List ℕ
      of_writer p = writer_fields (writer_of (signal_paths circuit) own p)

      abbrev addr : List ℕ → ℕ
      addr p = field_number (signal_paths circuit) own.path p (codes "addr")

      fields-are : memory_fields flat number ≡ flat_map of_reader own.bank.readers ++ flat_map of_writer own.bank.writers
      fields-are =
          let other = some-item flat.memories number inside in
          let m = laid other in
          let readers : readers_at flat number ≡ map (reader_of (signal_paths circuit) own) own.bank.readers =
          get_or-map (λ (x : Memory). x.readers) flat.memories number other [] inside ∙ m.readers in
          let writers : writers_at flat number ≡ map (writer_of (signal_paths circuit) own) own.bank.writers =
          get_or-map (λ (x : Memory). x.writers) flat.memories number other [] inside ∙ m.writers in
          ap₂ (λ rs ws. flat_map (λ r. reader_fields r) rs ++ flat_map (λ w. writer_fields w) ws) readers writers
          ∙ ap₂ (λ xs ys. xs ++ ys)
          (flat_map-map (λ r. reader_fields r) (reader_of (signal_paths circuit) own) own.bank.readers)
          (flat_map-map (λ w. writer_fields w) (writer_of (signal_paths circuit) own) own.bank.writers)

      ports-apart : Differ (get_or tree.memories j any).ports
      ports-apart = subst Differ (sym (is-said j any lt).is.ports) apart
        where
          all : AllPairs (λ a b. a ≢ b) (flat_map of_reader own.bank.readers ++ flat_map of_writer own.bank.writers)
          all = subst (AllPairs (λ a b. a ≢ b)) fields-are
              (subst (λ (x : MemoryInstance). AllPairs (λ a b. a ≢ b) (memory_fields flat x.memory)) (get_or_default tree.memories j no_memory any lt) (scoped.fields_once j lt))

          apart : Differ (own.bank.readers ++ own.bank.writers)
          apart =
              let rs = own.bank.readers in
              let ws = own.bank.writers in
              Differ-append rs ws
              (words-differ of_reader addr (λ w. (0, omega arith, refl)) rs (front (flat_map of_reader rs) (flat_map of_writer ws) all))
              (words-differ of_writer addr (λ w. (0, omega arith, refl)) ws (behind (flat_map of_reader rs) (flat_map of_writer ws) all))
              (λ w a b. cross (flat_map of_reader rs) (flat_map of_writer ws) (addr w) all
              (in-flat_map of_reader rs w (addr w) a (0, omega arith, refl)) (in-flat_map of_writer ws w (addr w) b (0, omega arith, refl)))

    pub all-apart : All (λ memory. AllPairs (λ a b. a ≢ b) memory.ports) tree.memories
    all-apart j any lt = ports-apart j any lt

-- ---- all paths

pub have-paths : (text : List ℕ) (circuit : CircuitTree) (flat : FlatCircuit) (tree : InstanceTree) → Spells text circuit → IsFlat circuit flat → IsTreeOf circuit tree → IsTree flat tree → IsScoped flat tree → HavePaths flat tree
have-paths text circuit flat tree spelt is grown fits scoped =
    let names = names-spelt text circuit spelt in
    record {
      signals = flat-paths circuit names flat is;
      instances = tree-paths circuit names tree grown;
      memories = tree-memory-paths circuit names tree grown;
      ports = ports-named circuit names tree grown;
      apart = all-apart circuit names tree grown flat is fits scoped;
    }
