-- If all names of a circuit are valid and none is repeated, the names of each module differ, and so do the paths of its sites
-- and memories.
use Rattle.std.proofs.Common.{◌≡◌, ◌≢◌, ◌⊎◌, inl, inr, ℕ, zero, suc, ◌<◌, List, [], ◌∷◌, ◌++◌, Option, Some, None, option_to_list, length, get_or, map, refl, sym, ap, ap₂, ◌∙◌, subst, append_assoc, arith}
use Rattle.std.specs.Prelude.{Contains, All, flat_map, filter_map, option_map}
use Rattle.std.proofs.lemmas.List.{map-append, length-map, get_or-map}
use Rattle.std.proofs.lemmas.List.Concat.{flat_map_single}
use Rattle.std.proofs.lemmas.List.Elements.{Contains-append_cases, All-contains}
use Rattle.std.proofs.lemmas.Simd.{map-map}
use Rattle.gg_bits.specs.Shape.{Shape}
use Rattle.gg_ast.specs.Names.{IsName}
use Rattle.gg_ast.specs.inside.Names.{IsPortNamed, AreNamesOfKind, AreNamesOfStatement, AreNamesOfCircuit}
use Rattle.gg_ast.specs.declared.expression.Reference.TheVariants as reference
use Rattle.gg_ast.specs.declared.module.Port.{Port}
use Rattle.gg_ast.specs.declared.statement.Stmt.{Stmt}
use Rattle.gg_ast.specs.declared.statement.StmtKind.{StmtKind}
use Rattle.gg_ast.specs.declared.statement.StmtKind.TheVariants as says
use Rattle.gg_ast.specs.Places.{place_of}
use Rattle.gg_ast.specs.Tree.{ModuleTree, CircuitTree, module_names}
use Rattle.gg_shape_names.specs.Along.{along, along_from}
use Rattle.gg_shape_names.specs.Namespace.{name_by, name_by_kind, port_names, names_after}
use Rattle.gg_shape_names.specs.inside.Namespace.{names_in}
use Rattle.gg_shape_names.specs.Repetitions.{repeated_in, repeated_in_field, repeated_port, repeated_by, repeated_by_kind, repeated_declarations, repetitions}
use Rattle.gg_flat_tree.specs.Tree.{joined}
use Rattle.gg_flat.proofs.ListLemmas.{Contains-map}
use Rattle.gg_elab_sites.specs.Sites.{Held, Site, top_site, module_at, held_at, held_by_kind, sites_from, sites_of}
use Rattle.gg_elab_sites.specs.Flat.{FlatMemory, flat_memory, memories_at}
use Rattle.gg_elab_sites.specs.IsFlat.{memory_paths}
use Rattle.gg_elab_sites.specs.Known.{types_of}
use Rattle.gg_types.specs.Memories.{Bank, bank_of, type_shape}
use Rattle.gg_elab_sites.specs.Signals.{Types, Cause, Connected, Expressed, Kept, Own, own, own_of_port, cause_of_port, own_of_kind, own_signals, own_stops, statement_signals, stop_signal, OwnBank, own_bank, own_banks, bank_of_kind, memory_signals}
use Rattle.gg_elab_sites.proofs.FreshLemmas.{Differ-front}
use Rattle.gg_elab_sites.proofs.NameLemmas.{Differ}
use Rattle.gg_elab_tree.specs.IsTreeOf.{site_paths, memories_of}
use Rattle.gg_elab_tree.proofs.NamesLemmas.CauseLemmas.{name-some, name-dotless, statements-named}
use Rattle.gg_elab_tree.proofs.NamesLemmas.DeclaredLemmas.{append-none, names-differ, module-declared, Differ-behind, held-named, bank-named}
use Rattle.gg_elab_tree.proofs.FieldLemmas.{memory-field}
use Rattle.gg_elab_tree.proofs.NamesLemmas.JoinLemmas.{dot-within}
use Rattle.gg_elab_tree.proofs.NamesLemmas.WordLemmas.{ports-named, held-word, bank-word, BankWords}
use Rattle.gg_elab_sites.proofs.AmongLemmas.{from-map, in-flat_map, from-flat_map, in-filter_map}
use Rattle.gg_elab_tree.proofs.NamesLemmas.ApartLemmas.{behind, AreApart, own_paths, paths-differ}
use Rattle.gg_elab_tree.proofs.NamesLemmas.DifferLemmas.{Differ-none, Differ-one, Differ-append, IsDotless, BeginsIn, begins-apart, parts-differ, filter_map-parts, flat_map-parts}
use Rattle.gg_elab_tree.proofs.NamesLemmas.PortNameLemmas.{bank-differs, fields-apart}
use Rattle.gg_elab_tree.proofs.WellFormedLemmas.BankFieldLemmas.{bank_or}
use Rattle.gg_elab_tree.proofs.NamesLemmas.StopNameLemmas.{StopWord, stop-apart, stop_words}

-- ---- the names of statements

one-word : (name w : List ℕ) → Contains (name ∷ []) w → w ≡ name
one-word name w (zero, lt, is) = sym is
one-word name w (suc i, lt, is) = absurd (omega (arith, lt))

kind-named : (kind : StmtKind) (n : List ℕ) → AreNamesOfKind kind → Contains (name_by_kind kind) n → IsName n
kind-named (says.Wire name ty) n h c = subst IsName (sym (one-word name n c)) h
kind-named (says.Node name value) n h c = subst IsName (sym (one-word name n c)) h.0
kind-named (says.Register name ty clock reset) n h c = subst IsName (sym (one-word name n c)) h.0
kind-named (says.Instance name m) n h c = subst IsName (sym (one-word name n c)) h.0
kind-named (says.Memory name fields) n h c = subst IsName (sym (one-word name n c)) h.0
kind-named (says.Connect sink source) n h c = absurd (omega (arith, c.1))
kind-named (says.Invalid sink) n h c = absurd (omega (arith, c.1))
kind-named says.Skip n h c = absurd (omega (arith, c.1))
kind-named (says.Stop clock condition code label) n h c = absurd (omega (arith, c.1))
kind-named (says.Report word arguments label) n h c = absurd (omega (arith, c.1))

-- ---- the signals of one statement

abbrev names_of : List Own → List (List ℕ)
names_of all = map (λ (o : Own). o.name) all

optional-differs : (name : List ℕ) (cause : Cause) (shape : Option Shape) → Differ (names_of (option_to_list (option_map (own name cause) shape)))
optional-differs name cause None = Differ-none
optional-differs name cause (Some s) = Differ-one name

optional-begins : (name : List ℕ) (cause : Cause) (shape : Option Shape) (w : List ℕ) → Contains (names_of (option_to_list (option_map (own name cause) shape))) w → BeginsIn (name ∷ []) w
optional-begins name cause None w c = absurd (omega (arith, c.1))
optional-begins name cause (Some s) w c = record { first = name; among = (0, omega arith, refl); is = inl (one-word name w c) }

memory-begins : (name : List ℕ) (bank : Option Bank) (w : List ℕ) → Contains (names_of (memory_signals name bank)) w → BeginsIn (name ∷ []) w
memory-begins name None w c = absurd (omega (arith, c.1))
memory-begins name (Some bank) w c =
    let m = from-map (λ (o : Own). o.name) (memory_signals name (Some bank)) w c in
    let f = memory-field name bank m.among.0 m.of m.among.1 in
    record { first = name; among = (0, omega arith, refl); is = inr (f.port ++ 46 ∷ f.field, sym m.made ∙ ap (λ (o : Own). o.name) (sym m.among.2) ∙ f.is) }

kind-begins : (types : Types) (k : ℕ) (kind : StmtKind) (w : List ℕ) → Contains (names_of (own_of_kind types k kind)) w → BeginsIn (name_by_kind kind) w
kind-begins types k (says.Wire name ty) w c = optional-begins name Connected (type_shape ty) w c
kind-begins types k (says.Node name value) w c = optional-begins name (Expressed value) (types k (reference.Local name)) w c
kind-begins types k (says.Register name ty clock reset) w c = optional-begins name (Kept clock reset) (type_shape ty) w c
kind-begins types k (says.Instance name m) w c = absurd (omega (arith, c.1))
kind-begins types k (says.Memory name fields) w c = memory-begins name (bank_of fields) w c
kind-begins types k (says.Connect sink source) w c = absurd (omega (arith, c.1))
kind-begins types k (says.Invalid sink) w c = absurd (omega (arith, c.1))
kind-begins types k says.Skip w c = absurd (omega (arith, c.1))
kind-begins types k (says.Stop clock condition code label) w c = absurd (omega (arith, c.1))
kind-begins types k (says.Report word arguments label) w c = absurd (omega (arith, c.1))

-- The names of a memory's ports: none comes twice, and none has a dot.
abbrev HasPorts : StmtKind → Type 0
HasPorts kind = (b : OwnBank) → bank_of_kind kind ≡ Some b → Differ (b.bank.readers ++ b.bank.writers) × ((p : List ℕ) → Contains (b.bank.readers ++ b.bank.writers) p → IsDotless p)

kind-apart : (types : Types) (k : ℕ) (kind : StmtKind) → HasPorts kind → Differ (names_of (own_of_kind types k kind))
kind-apart types k (says.Wire name ty) h = optional-differs name Connected (type_shape ty)
kind-apart types k (says.Node name value) h = optional-differs name (Expressed value) (types k (reference.Local name))
kind-apart types k (says.Register name ty clock reset) h = optional-differs name (Kept clock reset) (type_shape ty)
kind-apart types k (says.Instance name m) h = Differ-none
kind-apart types k (says.Memory name fields) h = go (bank_of fields) refl
  where
    go : (o : Option Bank) → bank_of fields ≡ o → Differ (names_of (memory_signals name o))
    go None is = Differ-none
    go (Some bank) is = let p = h (own_bank name bank) (ap (option_map (own_bank name)) is) in fields-apart name bank p.0 p.1
kind-apart types k (says.Connect sink source) h = Differ-none
kind-apart types k (says.Invalid sink) h = Differ-none
kind-apart types k says.Skip h = Differ-none
kind-apart types k (says.Stop clock condition code label) h = Differ-none
kind-apart types k (says.Report word arguments label) h = Differ-none

-- ---- the ports of memories, if no name is repeated

kind-ports : (names : List (List ℕ)) (line : ℕ) (kind : StmtKind) (b : OwnBank) → repeated_by_kind names line kind ≡ [] → bank_of_kind kind ≡ Some b → Differ (b.bank.readers ++ b.bank.writers)
kind-ports names line (says.Wire name ty) b h e = absurd (cc)
kind-ports names line (says.Node name value) b h e = absurd (cc)
kind-ports names line (says.Register name ty clock reset) b h e = absurd (cc)
kind-ports names line (says.Instance name m) b h e = absurd (cc)
kind-ports names line (says.Memory name fields) b h e = go (bank_of fields) refl e
  where
    go : (o : Option Bank) → bank_of fields ≡ o → option_map (own_bank name) o ≡ Some b → Differ (b.bank.readers ++ b.bank.writers)
    go None is e = absurd (cc)
    go (Some bank) is e =
        subst (λ (x : OwnBank). Differ (x.bank.readers ++ x.bank.writers)) (ap (bank_or b) e)
        (bank-differs fields bank is (append-none (repeated_in names line name) (along repeated_in_field fields) h).1)
kind-ports names line (says.Connect sink source) b h e = absurd (cc)
kind-ports names line (says.Invalid sink) b h e = absurd (cc)
kind-ports names line says.Skip b h e = absurd (cc)
kind-ports names line (says.Stop clock condition code label) b h e = absurd (cc)
kind-ports names line (says.Report word arguments label) b h e = absurd (cc)

statement-ports : (ports : List Port) (before ss : List Stmt) (s : Stmt) (b : OwnBank) → along_from (repeated_by ports) before ss ≡ [] → Contains ss s → bank_of_kind s.kind ≡ Some b → Differ (b.bank.readers ++ b.bank.writers)
statement-ports ports before [] s b h c e = absurd (omega (arith, c.1))
statement-ports ports before (x ∷ ss) s b h (zero, lt, is) e =
    kind-ports (names_after ports before) x.line x.kind b (append-none (repeated_by ports before x) (along_from (repeated_by ports) (before ++ x ∷ []) ss) h).0 (ap (λ (y : Stmt). bank_of_kind y.kind) is ∙ e)
statement-ports ports before (x ∷ ss) s b h (suc i, lt, is) e =
    statement-ports ports (before ++ x ∷ []) ss s b (append-none (repeated_by ports before x) (along_from (repeated_by ports) (before ++ x ∷ []) ss) h).1 (i, omega (arith, lt), is) e

pub flat_map-same : {A B : Type 0} (f g : A → List B) (xs : List A) → ((x : A) → f x ≡ g x) → flat_map f xs ≡ flat_map g xs
flat_map-same f g [] h = refl
flat_map-same f g (x ∷ xs) h = ap₂ (λ a b. a ++ b) (h x) (flat_map-same f g xs h)

-- ---- a circuit

module _ (circuit : CircuitTree) (are_names : AreNamesOfCircuit circuit) (once : repetitions circuit ≡ []) where
  abbrev body : ℕ → ModuleTree
  body k = module_at circuit.modules k

  declared : (k : ℕ) → repeated_declarations (body k) ≡ []
  declared k = module-declared [] circuit.modules k once

  differ-in : (k : ℕ) → Differ (names_in (body k))
  differ-in k = names-differ (body k) (declared k)

  statements-differ : (k : ℕ) → Differ (flat_map name_by (body k).statements)
  statements-differ k = Differ-behind (port_names (body k).ports) (flat_map name_by (body k).statements) (differ-in k)

  pub words : (k : ℕ) → All AreNamesOfStatement (body k).statements
  words k = statements-named circuit.modules k are_names.of_modules

  statement-word : (k : ℕ) (n : List ℕ) → Contains (flat_map name_by (body k).statements) n → IsName n
  statement-word k n c =
      let s = from-flat_map name_by (body k).statements n c in
      kind-named s.of.kind n (All-contains AreNamesOfStatement (body k).statements s.of (words k) s.among) s.made

  plain-statements : (k : ℕ) (n : List ℕ) → Contains (flat_map name_by (body k).statements) n → IsDotless n
  plain-statements k n c = name-dotless n (statement-word k n c)

  port-word : (k : ℕ) (n : List ℕ) → Contains (port_names (body k).ports) n → IsName n
  port-word k n c =
      let p = from-map (λ (q : Port). q.name) (body k).ports n c in
      subst IsName p.made (All-contains IsPortNamed (body k).ports p.of (ports-named circuit.modules k are_names.of_modules) p.among)

  plain-ports : (k : ℕ) (n : List ℕ) → Contains (port_names (body k).ports) n → IsDotless n
  plain-ports k n c = name-dotless n (port-word k n c)

  plain-in : (k : ℕ) (n : List ℕ) → Contains (names_in (body k)) n → IsDotless n
  plain-in k n c = go (Contains-append_cases (port_names (body k).ports) (flat_map name_by (body k).statements) n c)
    where
      go : Contains (port_names (body k).ports) n ⊎ Contains (flat_map name_by (body k).statements) n → IsDotless n
      go (inl h) = plain-ports k n h
      go (inr h) = plain-statements k n h

  has-ports : (k : ℕ) (s : Stmt) → Contains (body k).statements s → HasPorts s.kind
  has-ports k s c b e = (
    statement-ports (body k).ports [] (body k).statements s b (append-none (along repeated_port (body k).ports) (along (repeated_by (body k).ports) (body k).statements) (declared k)).1 c e,
    λ p has. plain p (Contains-append_cases b.bank.readers b.bank.writers p has),
  )
    where
      w : BankWords b
      w = bank-word (body k).statements b (words k) (in-filter_map (λ (t : Stmt). bank_of_kind t.kind) (body k).statements s b c e)

      plain : (p : List ℕ) → Contains b.bank.readers p ⊎ Contains b.bank.writers p → IsDotless p
      plain p (inl h) = name-dotless p (w.readers p h)
      plain p (inr h) = name-dotless p (w.writers p h)

  -- ---- names of signals

  abbrev pub own_names : ℕ → List (List ℕ)
  own_names k = names_of (own_signals (types_of circuit) k (body k))

  abbrev pub port_words : Port → List (List ℕ)
  port_words p = names_of (option_to_list (own_of_port p))

  abbrev pub statement_words : ℕ → Stmt → List (List ℕ)
  statement_words k s = names_of (own_of_kind (types_of circuit) k s.kind)

  -- the names of what a module's ports and statements declare
  abbrev pub declared_words : ℕ → List (List ℕ)
  declared_words k = flat_map port_words (body k).ports ++ flat_map (statement_words k) (body k).statements

  pub own-parts : (k : ℕ) → own_names k ≡ declared_words k ++ stop_words (body k).statements
  own-parts k =
      map-append (λ (o : Own). o.name) (filter_map own_of_port (body k).ports) (statement_signals (types_of circuit) k (body k).statements)
      ∙ ap₂ (λ xs ys. xs ++ ys) (filter_map-parts own_of_port (λ (o : Own). o.name) (body k).ports) (
      map-append (λ (o : Own). o.name) (flat_map (λ (s : Stmt). own_of_kind (types_of circuit) k s.kind) (body k).statements) (map stop_signal (own_stops (body k).statements))
      ∙ ap (λ xs. xs ++ stop_words (body k).statements) (flat_map-parts (λ (s : Stmt). own_of_kind (types_of circuit) k s.kind) (λ (o : Own). o.name) (body k).statements)
      )
      ∙ sym (append_assoc (flat_map port_words (body k).ports) (flat_map (statement_words k) (body k).statements) (stop_words (body k).statements))

  single-ports : (k : ℕ) → flat_map (λ (p : Port). p.name ∷ []) (body k).ports ≡ port_names (body k).ports
  single-ports k = flat_map_single (λ (p : Port). p.name) (body k).ports

  ports-begin : (k : ℕ) (w : List ℕ) → Contains (flat_map port_words (body k).ports) w → BeginsIn (port_names (body k).ports) w
  ports-begin k w c =
      let p = from-flat_map port_words (body k).ports w c in
      let b = optional-begins p.of.name (cause_of_port p.of.direction) (type_shape p.of.ty) w p.made in
      record { first = p.of.name; among = Contains-map (λ (q : Port). q.name) (body k).ports p.of p.among; is = named p.of.name w b }
    where
      named : (n w : List ℕ) → BeginsIn (n ∷ []) w → (w ≡ n) ⊎ ((r : List ℕ) × (w ≡ n ++ 46 ∷ r))
      named n w b = subst (λ (x : List ℕ). (w ≡ x) ⊎ ((r : List ℕ) × (w ≡ x ++ 46 ∷ r))) (one-word n b.first b.among) b.is

  statements-begin : (k : ℕ) (w : List ℕ) → Contains (flat_map (statement_words k) (body k).statements) w → BeginsIn (flat_map name_by (body k).statements) w
  statements-begin k w c =
      let s = from-flat_map (statement_words k) (body k).statements w c in
      let b = kind-begins (types_of circuit) k s.of.kind w s.made in
      record { first = b.first; among = in-flat_map name_by (body k).statements s.of b.first s.among b.among; is = b.is }

  pub declared-differ : (k : ℕ) → Differ (declared_words k)
  declared-differ k =
      Differ-append (flat_map port_words (body k).ports) (flat_map (statement_words k) (body k).statements)
      (parts-differ (λ (p : Port). p.name ∷ []) port_words (body k).ports (subst Differ (sym (single-ports k)) (Differ-front (port_names (body k).ports) (flat_map name_by (body k).statements) (differ-in k))) (λ n c. plain-ports k n (subst (λ l. Contains l n) (single-ports k) c)) (λ p c. optional-differs p.name (cause_of_port p.direction) (type_shape p.ty)) (λ p w c h. optional-begins p.name (cause_of_port p.direction) (type_shape p.ty) w h))
      (parts-differ name_by (statement_words k) (body k).statements (statements-differ k) (plain-statements k) (λ s c. kind-apart (types_of circuit) k s.kind (has-ports k s c)) (λ s w c h. kind-begins (types_of circuit) k s.kind w h))
      (λ w a b. begins-apart (port_names (body k).ports) (flat_map name_by (body k).statements) w (differ-in k) (plain-in k) (ports-begin k w a) (statements-begin k w b))

  pub no-stop : (k : ℕ) (w : List ℕ) → StopWord w → Contains (flat_map port_words (body k).ports) w ⊎ Contains (flat_map (statement_words k) (body k).statements) w → ⊥
  no-stop k w stop (inl c) = stop-apart (port_names (body k).ports) w (port-word k) (ports-begin k w c) stop
  no-stop k w stop (inr c) = stop-apart (flat_map name_by (body k).statements) w (statement-word k) (statements-begin k w c) stop

  -- ---- names of instances

  held-parts : (k : ℕ) → map (λ (h : Held). h.name) (held_at circuit.modules k) ≡ flat_map (λ (s : Stmt). map (λ (h : Held). h.name) (option_to_list (held_by_kind circuit.modules s.kind))) (body k).statements
  held-parts k = filter_map-parts (λ (s : Stmt). held_by_kind circuit.modules s.kind) (λ (h : Held). h.name) (body k).statements

  pub held-differ : (k : ℕ) → Differ (map (λ (h : Held). h.name) (held_at circuit.modules k))
  held-differ k =
      subst Differ (sym (held-parts k))
      (parts-differ name_by (λ (s : Stmt). map (λ (h : Held). h.name) (option_to_list (held_by_kind circuit.modules s.kind))) (body k).statements (statements-differ k) (plain-statements k)
      (λ s c. single (held_by_kind circuit.modules s.kind))
      (λ s w c h. begins s w (held_by_kind circuit.modules s.kind) refl h))
    where
      single : (o : Option Held) → Differ (map (λ (h : Held). h.name) (option_to_list o))
      single None = Differ-none
      single (Some h) = Differ-one h.name

      begins : (s : Stmt) (w : List ℕ) (o : Option Held) → held_by_kind circuit.modules s.kind ≡ o → Contains (map (λ (h : Held). h.name) (option_to_list o)) w → BeginsIn (name_by s) w
      begins s w None e c = absurd (omega (arith, c.1))
      begins s w (Some h) e c = record { first = h.name; among = subst (λ l. Contains l h.name) (sym (held-named circuit.modules s.kind h e)) (0, omega arith, refl); is = inl (one-word h.name w c) }

  pub held-some : (k : ℕ) (h : Held) → Contains (held_at circuit.modules k) h → h.name ≢ []
  held-some k h c = name-some h.name (held-word circuit.modules (body k).statements h (words k) c)

  pub held-plain : (k : ℕ) (h : Held) → Contains (held_at circuit.modules k) h → IsDotless h.name
  held-plain k h c = name-dotless h.name (held-word circuit.modules (body k).statements h (words k) c)

  -- ---- memories

  abbrev bank_names : ℕ → List (List ℕ)
  bank_names k = map (λ (b : OwnBank). b.name) (own_banks (body k).statements)

  banks-differ : (k : ℕ) → Differ (bank_names k)
  banks-differ k =
      subst Differ (sym (filter_map-parts (λ (s : Stmt). bank_of_kind s.kind) (λ (b : OwnBank). b.name) (body k).statements))
      (parts-differ name_by (λ (s : Stmt). map (λ (b : OwnBank). b.name) (option_to_list (bank_of_kind s.kind))) (body k).statements (statements-differ k) (plain-statements k)
      (λ s c. single (bank_of_kind s.kind))
      (λ s w c h. begins s w (bank_of_kind s.kind) refl h))
    where
      single : (o : Option OwnBank) → Differ (map (λ (b : OwnBank). b.name) (option_to_list o))
      single None = Differ-none
      single (Some b) = Differ-one b.name

      begins : (s : Stmt) (w : List ℕ) (o : Option OwnBank) → bank_of_kind s.kind ≡ o → Contains (map (λ (b : OwnBank). b.name) (option_to_list o)) w → BeginsIn (name_by s) w
      begins s w None e c = absurd (omega (arith, c.1))
      begins s w (Some b) e c = record { first = b.name; among = subst (λ l. Contains l b.name) (sym (bank-named s.kind b e)) (0, omega arith, refl); is = inl (one-word b.name w c) }

  banks-apart : AreApart circuit.modules bank_names
  banks-apart = record {
    differ = banks-differ;
    held = held-differ;
    some = held-some;
    plain = held-plain;
    apart = λ k h r c has.
        let m = from-map (λ (b : OwnBank). b.name) (own_banks (body k).statements) (behind h r) has in
        let word = bank-word (body k).statements m.of (words k) m.among in
        name-dotless m.of.name word.name (subst (λ n. Contains n 46) (sym m.made) (dot-within h.name r));
  }

  -- ---- sites

  -- a name that stands for the module itself, the same for all modules, so that each site has one path
  abbrev mark : List ℕ
  mark = 42 ∷ []

  abbrev marks : ℕ → List (List ℕ)
  marks k = mark ∷ []

  marks-apart : AreApart circuit.modules marks
  marks-apart = record {
    differ = λ k. Differ-one mark;
    held = held-differ;
    some = held-some;
    plain = held-plain;
    apart = λ k h r c has. clash (subst (λ n. Contains n 46) (one-word mark (behind h r) has) (dot-within h.name r));
  }
    where
      clash : ¬ Contains mark 46
      clash (zero, lt, is) = absurd (omega (arith, is))
      clash (suc i, lt, is) = absurd (omega (arith, lt))

  -- ---- the circuit's paths

  pub of-sites : (own : ℕ → List (List ℕ)) → (are : AreApart circuit.modules own) → (o : Option ℕ) → Differ (flat_map (own_paths circuit.modules own are) (sites_from circuit.modules o))
  of-sites own are None = Differ-none
  of-sites own are (Some k) = paths-differ circuit.modules own are (length circuit.modules) (top_site k)

  pub memory-paths-differ : Differ (memory_paths (memories_of circuit))
  memory-paths-differ =
      subst Differ (sym (flat_map-parts (memories_at circuit.modules) (λ (x : FlatMemory). x.path) (sites_of circuit) ∙ flat_map-same (λ (s : Site). map (λ (x : FlatMemory). x.path) (memories_at circuit.modules s)) (own_paths circuit.modules bank_names banks-apart) (sites_of circuit) same))
      (of-sites bank_names banks-apart (place_of circuit.name (module_names circuit)))
    where
      same : (s : Site) → map (λ (x : FlatMemory). x.path) (memories_at circuit.modules s) ≡ map (joined s.path) (bank_names s.number)
      same s =
          map-map (λ (x : FlatMemory). x.path) (flat_memory circuit.modules s) (own_banks (body s.number).statements)
          ∙ sym (map-map (joined s.path) (λ (b : OwnBank). b.name) (own_banks (body s.number).statements))

  pub site-paths-differ : Differ (site_paths circuit)
  site-paths-differ =
      back (sites_of circuit) (subst Differ (flat_map_single (λ (s : Site). joined s.path mark) (sites_of circuit)) (of-sites marks marks-apart (place_of circuit.name (module_names circuit))))
    where
      back : (all : List Site) → Differ (map (λ (s : Site). joined s.path mark) all) → Differ (map (λ (s : Site). s.path) all)
      back all differ i j d lt within e =
          let size = length-map all (λ (s : Site). s.path) in
          let inside : j < length all = omega (arith, within, size) in
          let x = get_or all i (top_site 0) in
          let y = get_or all j (top_site 0) in
          let same : x.path ≡ y.path = sym (get_or-map (λ (s : Site). s.path) all i (top_site 0) d (omega (arith, lt, inside))) ∙ e ∙ get_or-map (λ (s : Site). s.path) all j (top_site 0) d inside in
          differ i j d lt (omega (arith, inside, length-map all (λ (s : Site). joined s.path mark)))
          (get_or-map (λ (s : Site). joined s.path mark) all i (top_site 0) d (omega (arith, lt, inside)) ∙ ap (λ p. joined p mark) same ∙ sym (get_or-map (λ (s : Site). joined s.path mark) all j (top_site 0) d inside))
