-- The signals, the instances and the memories of a circuit whose names are names have paths.
use Rattle.std.proofs.Common.{◌≡◌, ◌⊎◌, inl, inr, ℕ, zero, suc, List, [], ◌∷◌, ◌++◌, Option, None, Some, codes, length, get_or, map, refl, sym, ap, ◌∙◌, subst, append_assoc, arith}
use Rattle.std.specs.Prelude.{All, Contains, flat_map, filter_map, option_map, option_to_list}
use Rattle.std.proofs.lemmas.List.Elements.{All-nil, All-cons, All-contains, Contains-append_cases, Contains-get_or}
use Rattle.gg_bits.specs.Shape.{Shape}
use Rattle.gg_ast.specs.declared.expression.Reference.TheVariants as reference
use Rattle.gg_ast.specs.declared.module.Port.{Port}
use Rattle.gg_ast.specs.declared.statement.Stmt.{Stmt}
use Rattle.gg_ast.specs.declared.statement.StmtKind.{StmtKind}
use Rattle.gg_ast.specs.declared.statement.StmtKind.TheVariants as says
use Rattle.gg_ast.specs.Names.{IsName}
use Rattle.gg_ast.specs.inside.Names.{IsPortNamed, AreNamesOfKind, AreNamesOfStatement, AreNamesOfCircuit}
use Rattle.gg_ast.specs.Places.{place_of}
use Rattle.gg_ast.specs.Tree.{ModuleTree, CircuitTree, module_names}
use Rattle.gg_flat.specs.Circuit.{FlatCircuit}
use Rattle.gg_flat_tree.specs.Tree.{InstanceTree}
use Rattle.gg_flat.proofs.ListLemmas.{Contains-cases, further, here}
use Rattle.gg_elab_sites.specs.Sites.{Held, Site, module_at, held_at, site_below, sites, sites_from, sites_of, top_site}
use Rattle.gg_elab_sites.specs.Flat.{FlatSignal, flat_signal, signals_at, flat_signals, FlatMemory, flat_memory, memories_at}
use Rattle.gg_elab_sites.specs.IsFlat.{IsFlat}
use Rattle.gg_elab_sites.specs.Known.{types_of}
use Rattle.gg_types.specs.Memories.{Bank, bank_of, type_shape}
use Rattle.gg_elab_sites.specs.Signals.{Types, Cause, Connected, Expressed, Kept, Own, own, own_of_port, own_of_kind, own_signals, own_stops, stop_of_kind, stop_signal, OwnBank, own_bank, own_banks, bank_of_kind, cause_of_port, field_name, memory_signals, reader_signals, readers_signals, stop_name, writer_signals}
use Rattle.gg_elab_sites.proofs.StopLemmas.{numbered-among}
use Rattle.gg_elab_sites.proofs.AmongLemmas.{MadeOf, from-map, from-flat_map, from-filter_map, in-filter_map}
use Rattle.gg_elab_tree.specs.IsTreeOf.{IsTreeOf, site_paths, signal_paths, memories_of}
use Rattle.gg_elab_tree.proofs.NamesLemmas.CauseLemmas.{statements-named}
use Rattle.gg_elab_tree.proofs.NamesLemmas.WordLemmas.{BankWords, bank-word, held-word, ports-named}
use Rattle.gg_front.specs.inside.Paths.{HasPathBytes, IsPath, IsSignalPath}
use Rattle.gg_front.proofs.BytesLemmas.{dotted-path, joined-path, joined-signal, name-path, path-signal, stop-path}

-- each of these signals has a path for its name
record ArePaths (all : List Own) : Type 0 where
  each : (o : Own) → Contains all o → IsPath o.name

none-there : {A : Type 0} (x : A) → Contains [] x → ⊥
none-there x c = absurd (omega (arith, c.1))

both-paths : (xs ys : List Own) → ArePaths xs → ArePaths ys → ArePaths (xs ++ ys)
both-paths xs ys a b = record { each = λ o c. go o (Contains-append_cases xs ys o c) }
  where
    go : (o : Own) → Contains xs o ⊎ Contains ys o → IsPath o.name
    go o (inl h) = a.each o h
    go o (inr h) = b.each o h

first-path : (x : Own) (xs : List Own) → IsPath x.name → ArePaths xs → ArePaths (x ∷ xs)
first-path x xs a b = record { each = λ o c. go o (Contains-cases x o xs c) }
  where
    go : (o : Own) → (x ≡ o) ⊎ Contains xs o → IsPath o.name
    go o (inl same) = subst (λ (z : Own). IsPath z.name) same a
    go o (inr h) = b.each o h

no-paths : ArePaths []
no-paths = record { each = λ o c. absurd (none-there o c) }

optional-path : (name : List ℕ) (cause : Cause) (shape : Option Shape) → IsPath name → ArePaths (option_to_list (option_map (own name cause) shape))
optional-path name cause None is = no-paths
optional-path name cause (Some s) is = first-path (own name cause s) [] is no-paths

-- ---- the fields of a memory

field-path : (memory port field : List ℕ) → IsPath memory → IsPath port → IsPath field → IsPath (field_name memory port field)
field-path memory port field a b c = dotted-path memory (port ++ 46 ∷ field) a (dotted-path port field b c)

addr-path : IsPath (codes "addr")
addr-path = record { some = omega arith; bytes = refl }

en-path : IsPath (codes "en")
en-path = record { some = omega arith; bytes = refl }

data-path : IsPath (codes "data")
data-path = record { some = omega arith; bytes = refl }

mask-path : IsPath (codes "mask")
mask-path = record { some = omega arith; bytes = refl }

module _ (memory : List ℕ) (bank : Bank) (named : IsPath memory) where
  reader-paths : (place : ℕ) (ports : List (List ℕ)) → ((p : List ℕ) → Contains ports p → IsName p) → ArePaths (readers_signals memory bank place ports)
  reader-paths place [] words = no-paths
  reader-paths place (p ∷ ports) words =
      let port = name-path p (words p (here p ports)) in
      both-paths (reader_signals memory bank place p) (readers_signals memory bank (suc place) ports)
      (first-path _ _ (field-path memory p (codes "addr") named port addr-path)
      (first-path _ _ (field-path memory p (codes "en") named port en-path)
      (first-path _ _ (field-path memory p (codes "data") named port data-path) no-paths)))
      (reader-paths (suc place) ports (λ q c. words q (further p ports q c)))

  writer-paths : (ports : List (List ℕ)) → ((p : List ℕ) → Contains ports p → IsName p) → ArePaths (flat_map (writer_signals memory bank) ports)
  writer-paths [] words = no-paths
  writer-paths (p ∷ ports) words =
      let port = name-path p (words p (here p ports)) in
      both-paths (writer_signals memory bank p) (flat_map (writer_signals memory bank) ports)
      (first-path _ _ (field-path memory p (codes "addr") named port addr-path)
      (first-path _ _ (field-path memory p (codes "en") named port en-path)
      (first-path _ _ (field-path memory p (codes "data") named port data-path)
      (first-path _ _ (field-path memory p (codes "mask") named port mask-path) no-paths))))
      (writer-paths ports (λ q c. words q (further p ports q c)))

-- ---- the signals of a module

-- a memory's statement alone
bank-alone : (s : Stmt) (b : OwnBank) → AreNamesOfStatement s → bank_of_kind s.kind ≡ Some b → BankWords b
bank-alone s b names is =
    bank-word (s ∷ []) b (All-cons AreNamesOfStatement s [] names (All-nil AreNamesOfStatement))
    (in-filter_map (λ (x : Stmt). bank_of_kind x.kind) (s ∷ []) s b (here s []) is)

memory-paths : (s : Stmt) (name : List ℕ) → AreNamesOfStatement s → IsName name → (o : Option Bank) → ((bank : Bank) → o ≡ Some bank → bank_of_kind s.kind ≡ Some (own_bank name bank))
    → ArePaths (memory_signals name o)
memory-paths s name names is None made = no-paths
memory-paths s name names is (Some bank) made =
    let words = bank-alone s (own_bank name bank) names (made bank refl) in
    both-paths (readers_signals name bank 0 bank.readers) (flat_map (writer_signals name bank) bank.writers)
    (reader-paths name bank (name-path name is) 0 bank.readers words.readers)
    (writer-paths name bank (name-path name is) bank.writers words.writers)

kind-paths : (types : Types) (k at : ℕ) (kind : StmtKind) → AreNamesOfKind kind → ArePaths (own_of_kind types k kind)
kind-paths types k at (says.Wire name ty) h = optional-path name Connected (type_shape ty) (name-path name h)
kind-paths types k at (says.Node name value) h = optional-path name (Expressed value) (types k (reference.Local name)) (name-path name h.0)
kind-paths types k at (says.Register name ty clock reset) h = optional-path name (Kept clock reset) (type_shape ty) (name-path name h.0)
kind-paths types k at (says.Instance name m) h = no-paths
kind-paths types k at (says.Memory name fields) h =
    memory-paths (record { line = at; kind = says.Memory name fields }) name h h.0 (bank_of fields) (λ bank e. ap (option_map (own_bank name)) e)
kind-paths types k at (says.Connect sink source) h = no-paths
kind-paths types k at (says.Invalid sink) h = no-paths
kind-paths types k at says.Skip h = no-paths
kind-paths types k at (says.Stop clock condition code label) h = no-paths
kind-paths types k at (says.Report word arguments label) h = no-paths

port-path : (port : Port) (o : Own) → IsPortNamed port → own_of_port port ≡ Some o → IsPath o.name
port-path port o named e = go (type_shape port.ty) e
  where
    go : (shape : Option Shape) → option_map (own port.name (cause_of_port port.direction)) shape ≡ Some o → IsPath o.name
    go None e = absurd (cc)
    go (Some s) e = let same : own port.name (cause_of_port port.direction) s ≡ o = cc in subst (λ (z : Own). IsPath z.name) same (name-path port.name named)

-- ---- a circuit

module _ (circuit : CircuitTree) (names : AreNamesOfCircuit circuit) where
  abbrev body : ℕ → ModuleTree
  body k = module_at circuit.modules k

  words : (k : ℕ) → All AreNamesOfStatement (body k).statements
  words k = statements-named circuit.modules k names.of_modules

  declared-paths : (k : ℕ) → ArePaths (filter_map own_of_port (body k).ports ++ flat_map (λ (s : Stmt). own_of_kind (types_of circuit) k s.kind) (body k).statements)
  declared-paths k =
      both-paths (filter_map own_of_port (body k).ports) (flat_map (λ (s : Stmt). own_of_kind (types_of circuit) k s.kind) (body k).statements)
      (record { each = λ o c. by-port o (from-filter_map own_of_port (body k).ports o c) })
      (record { each = λ o c. by-statement o (from-flat_map (λ (s : Stmt). own_of_kind (types_of circuit) k s.kind) (body k).statements o c) })
    where
      by-port : (o : Own) → MadeOf (λ (p : Port) (x : Own). own_of_port p ≡ Some x) (body k).ports o → IsPath o.name
      by-port o m = port-path m.of o (All-contains IsPortNamed (body k).ports m.of (ports-named circuit.modules k names.of_modules) m.among) m.made

      by-statement : (o : Own) → MadeOf (λ (s : Stmt) (x : Own). Contains (own_of_kind (types_of circuit) k s.kind) x) (body k).statements o → IsPath o.name
      by-statement o m =
          (kind-paths (types_of circuit) k m.of.line m.of.kind (All-contains AreNamesOfStatement (body k).statements m.of (words k) m.among)).each o m.made

  -- each signal of a module has a path for its name, or it is a stop
  pub own-name : (k : ℕ) (o : Own) → Contains (own_signals (types_of circuit) k (body k)) o → IsPath o.name ⊎ ((n : ℕ) × (o.name ≡ stop_name n))
  own-name k o c = go (Contains-append_cases declared stopped o (subst (λ l. Contains l o) (sym (append_assoc (filter_map own_of_port (body k).ports) (flat_map (λ (s : Stmt). own_of_kind (types_of circuit) k s.kind) (body k).statements) stopped)) c))
    where
      declared : List Own
      declared = filter_map own_of_port (body k).ports ++ flat_map (λ (s : Stmt). own_of_kind (types_of circuit) k s.kind) (body k).statements

      stopped : List Own
      stopped = map stop_signal (own_stops (body k).statements)

      go : Contains declared o ⊎ Contains stopped o → IsPath o.name ⊎ ((n : ℕ) × (o.name ≡ stop_name n))
      go (inl h) = inl ((declared-paths k).each o h)
      go (inr h) =
          let s = from-map stop_signal (own_stops (body k).statements) o h in
          let n = numbered-among 0 (filter_map (λ (s : Stmt). stop_of_kind s.kind) (body k).statements) s.of s.among in
          inr (n.number, sym (ap (λ (x : Own). x.name) s.made) ∙ n.named)

  -- so it has the path of a signal for its name
  own-path : (k : ℕ) (o : Own) → Contains (own_signals (types_of circuit) k (body k)) o → IsSignalPath o.name
  own-path k o c = go (own-name k o c)
    where
      go : IsPath o.name ⊎ ((n : ℕ) × (o.name ≡ stop_name n)) → IsSignalPath o.name
      go (inl is) = path-signal o.name is
      go (inr stop) = subst IsSignalPath (sym stop.1) (stop-path stop.0)

  -- ---- sites

  levels-bytes : (n : ℕ) (x : Site) → HasPathBytes x.path → (y : Site) → Contains (sites n circuit.modules x) y → HasPathBytes y.path
  levels-bytes zero x bytes y c = go (Contains-cases x y [] c)
    where
      go : (x ≡ y) ⊎ Contains [] y → HasPathBytes y.path
      go (inl same) = subst (λ (z : Site). HasPathBytes z.path) same bytes
      go (inr h) = absurd (none-there y h)
  levels-bytes (suc n) x bytes y c =
      go (levels-bytes n) (Contains-cases x y (flat_map (λ h. sites n circuit.modules (site_below x h)) (held_at circuit.modules x.number)) c)
    where
      go : ((z : Site) → HasPathBytes z.path → (w : Site) → Contains (sites n circuit.modules z) w → HasPathBytes w.path)
          → (x ≡ y) ⊎ Contains (flat_map (λ h. sites n circuit.modules (site_below x h)) (held_at circuit.modules x.number)) y → HasPathBytes y.path
      go below (inl same) = subst (λ (z : Site). HasPathBytes z.path) same bytes
      go below (inr h) =
          let m = from-flat_map (λ (k : Held). sites n circuit.modules (site_below x k)) (held_at circuit.modules x.number) y h in
          let named = held-word circuit.modules (body x.number).statements m.of (words x.number) m.among in
          below (site_below x m.of) (joined-path x.path m.of.name bytes (name-path m.of.name named)).bytes y m.made

  pub site-bytes : (s : Site) → Contains (sites_of circuit) s → HasPathBytes s.path
  site-bytes s c = go (place_of circuit.name (module_names circuit)) c
    where
      go : (o : Option ℕ) → Contains (sites_from circuit.modules o) s → HasPathBytes s.path
      go None h = absurd (none-there s h)
      go (Some k) h = levels-bytes (length circuit.modules) (top_site k) refl s h

  -- ---- paths

  signal-path : (path : List ℕ) → Contains (signal_paths circuit) path → IsSignalPath path
  signal-path path c =
      let x = from-map (λ (s : FlatSignal). s.path) (flat_signals (types_of circuit) circuit.modules (sites_of circuit)) path c in
      let s = from-flat_map (signals_at (types_of circuit) circuit.modules) (sites_of circuit) x.of x.among in
      let o = from-map (flat_signal circuit.modules s.of) (own_signals (types_of circuit) s.of.number (body s.of.number)) x.of s.made in
      subst IsSignalPath (ap (λ (z : FlatSignal). z.path) o.made ∙ x.made) (joined-signal s.of.path o.of.name (site-bytes s.of s.among) (own-path s.of.number o.of o.among))

  -- a memory of a site, with its bank
  pub record IsBankOf (said : FlatMemory) : Type 0 where
    pub site : Site
    pub bank : OwnBank
    pub is : flat_memory circuit.modules site bank ≡ said
    pub named : BankWords bank

  pub bank-of : (site : Site) (said : FlatMemory) → Contains (memories_at circuit.modules site) said → IsBankOf said
  bank-of site said c =
      let b = from-map (flat_memory circuit.modules site) (own_banks (body site.number).statements) said c in
      record { site = site; bank = b.of; is = b.made; named = bank-word (body site.number).statements b.of (words site.number) b.among }

  memory-path : (path : List ℕ) → Contains (map (λ (x : FlatMemory). x.path) (memories_of circuit)) path → IsPath path
  memory-path path c =
      let x = from-map (λ (m : FlatMemory). m.path) (memories_of circuit) path c in
      let s = from-flat_map (memories_at circuit.modules) (sites_of circuit) x.of x.among in
      let b = from-map (flat_memory circuit.modules s.of) (own_banks (body s.of.number).statements) x.of s.made in
      let named = bank-word (body s.of.number).statements b.of (words s.of.number) b.among in
      subst IsPath (ap (λ (z : FlatMemory). z.path) b.made ∙ x.made) (joined-path s.of.path b.of.name (site-bytes s.of s.among) (name-path b.of.name named.name))

  site-path : (path : List ℕ) → Contains (site_paths circuit) path → HasPathBytes path
  site-path path c =
      let s = from-map (λ (x : Site). x.path) (sites_of circuit) path c in
      subst HasPathBytes s.made (site-bytes s.of s.among)

  pub all-of : (P : List ℕ → Type 0) (paths : List (List ℕ)) → ((path : List ℕ) → Contains paths path → P path) → All P paths
  all-of P paths h = λ k d lt. h (get_or paths k d) (Contains-get_or paths k d lt)

  pub flat-paths : (flat : FlatCircuit) → IsFlat circuit flat → All IsSignalPath flat.paths
  flat-paths flat is = subst (All IsSignalPath) (sym is.paths) (all-of IsSignalPath (signal_paths circuit) signal-path)

  pub tree-paths : (tree : InstanceTree) → IsTreeOf circuit tree → All HasPathBytes tree.paths
  tree-paths tree is = subst (All HasPathBytes) (sym is.paths) (all-of HasPathBytes (site_paths circuit) site-path)

  pub tree-memory-paths : (tree : InstanceTree) → IsTreeOf circuit tree → All IsPath tree.memory_paths
  tree-memory-paths tree is = subst (All IsPath) (sym is.memory_names) (all-of IsPath (map (λ (x : FlatMemory). x.path) (memories_of circuit)) memory-path)
