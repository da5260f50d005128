-- A reference to a port of an instance, or to a field of a memory: which statement it comes from.
use Rattle.std.proofs.Common.{◌≡◌, ◌⊎◌, inl, inr, ℕ, zero, suc, ◌<◌, Bool, true, false, ◌&&◌, List, [], ◌∷◌, Option, Some, None, is_some, length, get_or, map, refl, sym, ap, ◌∙◌, subst, arith, true≢false, if◌then◌else◌}
use Rattle.std.specs.Prelude.{flat_map, Contains, option_map}
use Rattle.std.specs.Str.{bytes_eq}
use Rattle.std.proofs.lemmas.List.Elements.{Contains-append_cases}
use Rattle.std.proofs.lemmas.Option.{same_Some}
use Rattle.std.proofs.lemmas.Bool.{and_parts}
use Rattle.gg_ast.specs.declared.expression.Reference.{Reference}
use Rattle.gg_ast.specs.declared.expression.Reference.TheVariants.{Local, PortOf, FieldOf}
use Rattle.gg_ast.specs.declared.module.Port.{Port}
use Rattle.gg_ast.specs.declared.statement.Field.{Field}
use Rattle.gg_ast.specs.declared.statement.Stmt.{Stmt}
use Rattle.gg_ast.specs.declared.statement.StmtKind.{StmtKind}
use Rattle.gg_ast.specs.declared.statement.StmtKind.TheVariants as says
use Rattle.gg_ast.specs.Places.{place_of}
use Rattle.gg_ast.specs.Tree.{ModuleTree, CircuitTree, names_of}
use Rattle.gg_shape_names.specs.declared.role.Role.{Role}
use Rattle.gg_shape_names.specs.declared.role.Role.TheVariants as roles
use Rattle.gg_shape_names.specs.declared.role.PortKind.{PortKind}
use Rattle.gg_shape_names.specs.declared.role.PortField.{PortField}
use Rattle.gg_shape_names.specs.Memory.{memory_ports, port_fields, field_name}
use Rattle.gg_shape_names.specs.Scope.{same_reference, entry_of, first_name}
use Rattle.gg_shape_names.specs.Namespace.{module_named, entry_by_port, entries_by, entries_by_kind, scope_of, instance_port, instance_ports, port_entries, port_field, name_by, name_by_kind}
use Rattle.gg_shape_names.proofs.BlockLemmas.{at-place}
use Rattle.gg_types.specs.declared.sort.Own.{Own}
use Rattle.gg_bits.specs.Lists.{find_word}
use Rattle.gg_types.specs.Owned.{typed, known_sort, sort_of_reference}
use Rattle.gg_types.specs.Types.{known_in}
use Rattle.gg_types.proofs.PlaceLemmas.{same_bytes}
use Rattle.gg_elab_sites.specs.Sites.{Held, held, held_by, held_by_kind, module_at}
use Rattle.gg_elab_sites.specs.Known.{types_of, value_shape}
use Rattle.gg_elab_sites.proofs.NameLemmas.{Differ}
use Rattle.gg_elab_tree.proofs.NamesLemmas.DeclaredLemmas.{made-by, one-statement, held-named}

-- ---- a name that is known has an entry

-- An entry of a scope whose reference is this one.
pub record EntryOf (scope : List (Reference × Role)) (r : Reference) : Type 0 where
  pub entry : Reference × Role
  pub among : Contains scope entry
  pub same : same_reference r entry.0 ≡ true

entry-found : (scope : List (Reference × Role)) (r : Reference) (role : Role) → entry_of r scope ≡ Some role → EntryOf scope r
entry-found [] r role h = absurd (cc)
entry-found (e ∷ es) r role h = go (same_reference r e.0) refl h (entry-found es r role)
  where
    go : (b : Bool) → same_reference r e.0 ≡ b → (if b then Some e.1 else entry_of r es) ≡ Some role → (entry_of r es ≡ Some role → EntryOf es r) → EntryOf (e ∷ es) r
    go true same h next = record { entry = e; among = (0, omega arith, refl); same = same }
    go false same h next = let f = next h in record { entry = f.entry; among = (suc f.among.0, omega (arith, f.among.1), f.among.2); same = f.same }

-- what has no role has no shape
untyped : (o : Option (Option Own)) → is_some (value_shape (known_sort (typed o None))) ≡ true → ⊥
untyped None h = absurd (true≢false (sym h))
untyped (Some None) h = absurd (true≢false (sym h))
untyped (Some (Some own)) h = absurd (true≢false (sym h))

shaped-entry : (scope : List (Reference × Role)) (known : List (List ℕ × Option Own)) (r : Reference) → is_some (value_shape (sort_of_reference scope known r)) ≡ true → EntryOf scope r
shaped-entry scope known r h = go (entry_of r scope) refl
  where
    go : (role : Option Role) → entry_of r scope ≡ role → EntryOf scope r
    go None e = absurd (untyped (find_word (first_name r) known) (ap (λ role. is_some (value_shape (known_sort (typed (find_word (first_name r) known) role)))) (sym e) ∙ h))
    go (Some role) e = entry-found scope r role e

pub known-entry : (circuit : CircuitTree) (n : ℕ) (r : Reference) → is_some (types_of circuit n r) ≡ true → EntryOf (scope_of circuit.modules (module_at circuit.modules n)) r
unfolding types_of
known-entry circuit n r h = shaped-entry (scope_of circuit.modules (module_at circuit.modules n)) (known_in circuit.modules (module_at circuit.modules n)) r h

-- ---- the statement that an entry comes from

-- The statement among whose entries this one is.
pub record BroughtBy (modules : List ModuleTree) (ss : List Stmt) (e : Reference × Role) : Type 0 where
  pub place : ℕ
  pub statement : Stmt
  pub inside : place < length ss
  pub at : get_or ss place statement ≡ statement
  pub among : Contains (entries_by_kind modules statement.kind) e

brought-by : (modules : List ModuleTree) (ss : List Stmt) (e : Reference × Role) → Contains (flat_map (entries_by modules) ss) e → BroughtBy modules ss e
brought-by modules [] e c = absurd (omega (arith, c.1))
brought-by modules (s ∷ ss) e c = go (Contains-append_cases (entries_by modules s) (flat_map (entries_by modules) ss) e c) (brought-by modules ss e)
  where
    go : Contains (entries_by modules s) e ⊎ Contains (flat_map (entries_by modules) ss) e → (Contains (flat_map (entries_by modules) ss) e → BroughtBy modules ss e) → BroughtBy modules (s ∷ ss) e
    go (inl here) next = record { place = 0; statement = s; inside = omega arith; at = refl; among = here }
    go (inr there) next = let b = next there in record { place = suc b.place; statement = b.statement; inside = omega (arith, b.inside); at = b.at; among = b.among }

-- the reference in a port's entry is a local name
not-port : (ports : List Port) (e : Reference × Role) → Contains (map entry_by_port ports) e → (name : List ℕ) × (e.0 ≡ Local name)
not-port [] e c = absurd (omega (arith, c.1))
not-port (p ∷ ps) e (zero, lt, is) = (p.name, ap (λ (x : Reference × Role). x.0) (sym is))
not-port (p ∷ ps) e (suc k, lt, is) = not-port ps e (k, omega (arith, lt), is)

-- ---- ports of instances

-- The statement declares the instance `a`, whose module has the port `b`.
pub record MakesChild (modules : List ModuleTree) (kind : StmtKind) (a b : List ℕ) : Type 0 where
  pub of_module : List ℕ
  pub is : kind ≡ says.Instance a of_module
  pub child : ModuleTree
  pub named : module_named of_module modules ≡ Some child
  pub port : Port
  pub listed : Contains child.ports port
  pub port_name : port.name ≡ b

not-local : (a b name : List ℕ) (e : Reference × Role) → e.0 ≡ Local name → same_reference (PortOf a b) e.0 ≡ true → ⊥
not-local a b name e is same = true≢false (sym same ∙ ap (same_reference (PortOf a b)) is)

alone : (a b name : List ℕ) (role : Role) (e : Reference × Role) → Contains ((Local name, role) ∷ []) e → same_reference (PortOf a b) e.0 ≡ true → ⊥
alone a b name role e (zero, lt, is) same = not-local a b name e (ap (λ (x : Reference × Role). x.0) (sym is)) same
alone a b name role e (suc k, lt, is) same = absurd (omega (arith, lt))

child-port : (instance : List ℕ) (ports : List Port) (a b : List ℕ) (e : Reference × Role) → Contains (map (instance_port instance) ports) e → same_reference (PortOf a b) e.0 ≡ true → (a ≡ instance) × (p : Port) × Contains ports p × (p.name ≡ b)
child-port instance [] a b e c same = absurd (omega (arith, c.1))
child-port instance (p ∷ ps) a b e (zero, lt, is) same =
    let parts = and_parts (bytes_eq a instance) (bytes_eq b p.name) (ap (λ (x : Reference × Role). same_reference (PortOf a b) x.0) is ∙ same) in
    (same_bytes a instance parts.0, p, (0, omega arith, refl), sym (same_bytes b p.name parts.1))
child-port instance (p ∷ ps) a b e (suc k, lt, is) same =
    let r = child-port instance ps a b e (k, omega (arith, lt), is) same in
    (r.0, r.1, (suc r.2.0, omega (arith, r.2.1), r.2.2), r.3)

field-entries : (memory : List ℕ) (port : List ℕ) (kind : PortKind) (fields : List PortField) (a b : List ℕ) (e : Reference × Role) → Contains (map (port_field memory port kind) fields) e → same_reference (PortOf a b) e.0 ≡ true → ⊥
field-entries memory port kind [] a b e c same = absurd (omega (arith, c.1))
field-entries memory port kind (f ∷ fs) a b e (zero, lt, is) same = true≢false (sym (ap (λ (x : Reference × Role). same_reference (PortOf a b) x.0) is ∙ same))
field-entries memory port kind (f ∷ fs) a b e (suc k, lt, is) same = field-entries memory port kind fs a b e (k, omega (arith, lt), is) same

no-memory : (memory : List ℕ) (ports : List (List ℕ × PortKind)) (a b : List ℕ) (e : Reference × Role) → Contains (flat_map (port_entries memory) ports) e → same_reference (PortOf a b) e.0 ≡ true → ⊥
no-memory memory [] a b e c same = absurd (omega (arith, c.1))
no-memory memory (p ∷ ps) a b e c same = go (Contains-append_cases (port_entries memory p) (flat_map (port_entries memory) ps) e c) (no-memory memory ps a b e)
  where
    go : Contains (port_entries memory p) e ⊎ Contains (flat_map (port_entries memory) ps) e → (Contains (flat_map (port_entries memory) ps) e → same_reference (PortOf a b) e.0 ≡ true → ⊥) → ⊥
    go (inl c) next = field-entries memory p.0 p.1 (port_fields p.1) a b e c same
    go (inr c) next = next c same

makes-child : (modules : List ModuleTree) (kind : StmtKind) (a b : List ℕ) (e : Reference × Role) → Contains (entries_by_kind modules kind) e → same_reference (PortOf a b) e.0 ≡ true → MakesChild modules kind a b
makes-child modules (says.Wire name ty) a b e c same = absurd (alone a b name roles.Wire e c same)
makes-child modules (says.Node name value) a b e c same = absurd (alone a b name roles.Node e c same)
makes-child modules (says.Register name ty clock reset) a b e c same = absurd (alone a b name roles.Register e c same)
makes-child modules (says.Instance name of_module) a b e (zero, lt, is) same = absurd (not-local a b name e (ap (λ (x : Reference × Role). x.0) (sym is)) same)
makes-child modules (says.Instance name of_module) a b e (suc k, lt, is) same = go (module_named of_module modules) refl (omega (arith, lt)) is
  where
    go : (o : Option ModuleTree) → module_named of_module modules ≡ o → k < length (instance_ports name o) → get_or (instance_ports name o) k e ≡ e → MakesChild modules (says.Instance name of_module) a b
    go None found lt is = absurd (omega (arith, lt))
    go (Some m) found lt is =
        let r = child-port name m.ports a b e (k, lt, is) same in
        record { of_module = of_module; is = ap (λ n. says.Instance n of_module) (sym r.0); child = m; named = found; port = r.1; listed = r.2; port_name = r.3 }
makes-child modules (says.Memory name fields) a b e (zero, lt, is) same = absurd (not-local a b name e (ap (λ (x : Reference × Role). x.0) (sym is)) same)
makes-child modules (says.Memory name fields) a b e (suc k, lt, is) same = absurd (no-memory name (memory_ports fields) a b e (k, omega (arith, lt), is) same)
makes-child modules (says.Connect sink source) a b e c same = absurd (omega (arith, c.1))
makes-child modules (says.Invalid sink) a b e c same = absurd (omega (arith, c.1))
makes-child modules says.Skip a b e c same = absurd (omega (arith, c.1))
makes-child modules (says.Stop clock condition code label) a b e c same = absurd (omega (arith, c.1))
makes-child modules (says.Report word arguments label) a b e c same = absurd (omega (arith, c.1))

-- the number of an instance's module is the place of the module's name
held-module : (modules : List ModuleTree) (a of_module : List ℕ) (h : Held) → held_by_kind modules (says.Instance a of_module) ≡ Some h → place_of of_module (names_of modules) ≡ Some h.number
held-module modules a of_module h e = go (place_of of_module (names_of modules)) e
  where
    go : (o : Option ℕ) → option_map (held a) o ≡ Some h → o ≡ Some h.number
    go None e = absurd (cc)
    go (Some k) e = ap (option_map (λ (x : Held). x.number)) e

-- where `i` is an instance, a reference `i.p` that has a type is to a port `p` of its module
pub child-known : (circuit : CircuitTree) (n : ℕ) (h : Held) (a b : List ℕ) → Differ (flat_map name_by (module_at circuit.modules n).statements) → is_some (types_of circuit n (PortOf a b)) ≡ true → Contains (held_by circuit.modules (module_at circuit.modules n).statements) h → h.name ≡ a → (p : Port) × Contains (module_at circuit.modules h.number).ports p × (p.name ≡ b)
child-known circuit n h a b differ typed c named = go (Contains-append_cases (map entry_by_port m.ports) (flat_map (entries_by circuit.modules) m.statements) entry.entry entry.among)
  where
    m : ModuleTree
    m = module_at circuit.modules n

    entry : EntryOf (scope_of circuit.modules (module_at circuit.modules n)) (PortOf a b)
    entry = known-entry circuit n (PortOf a b) typed

    go : Contains (map entry_by_port (module_at circuit.modules n).ports) entry.entry ⊎ Contains (flat_map (entries_by circuit.modules) (module_at circuit.modules n).statements) entry.entry → (p : Port) × Contains (module_at circuit.modules h.number).ports p × (p.name ≡ b)
    go (inl c) = let l = not-port (module_at circuit.modules n).ports entry.entry c in absurd (not-local a b l.0 entry.entry l.1 entry.same)
    go (inr there) =
        let s = brought-by circuit.modules (module_at circuit.modules n).statements entry.entry there in
        let child = makes-child circuit.modules s.statement.kind a b entry.entry s.among entry.same in
        let made = made-by (held_by_kind circuit.modules) (module_at circuit.modules n).statements h c in
        let one : made.statement ≡ s.statement = one-statement (module_at circuit.modules n).statements made.place s.place made.statement s.statement a differ made.inside s.inside made.at s.at (held-named circuit.modules made.statement.kind h made.makes ∙ ap (λ x. x ∷ []) named) (ap name_by_kind child.is) in
        let place = held-module circuit.modules a child.of_module h (ap (held_by_kind circuit.modules) (sym child.is) ∙ ap (λ (x : Stmt). held_by_kind circuit.modules x.kind) (sym one) ∙ made.makes) in
        let same : child.child ≡ module_at circuit.modules h.number = same_Some child.child (module_at circuit.modules h.number) (sym child.named ∙ (at-place circuit.modules child.of_module h.number place).named) in
        (child.port, subst (λ (x : ModuleTree). Contains x.ports child.port) same child.listed, child.port_name)

-- ---- fields of memories

not-field : (a b c name : List ℕ) (e : Reference × Role) → e.0 ≡ Local name → same_reference (FieldOf a b c) e.0 ≡ true → ⊥
not-field a b c name e is same = true≢false (sym same ∙ ap (same_reference (FieldOf a b c)) is)

alone-field : (a b c name : List ℕ) (role : Role) (e : Reference × Role) → Contains ((Local name, role) ∷ []) e → same_reference (FieldOf a b c) e.0 ≡ true → ⊥
alone-field a b c name role e (zero, lt, is) same = not-field a b c name e (ap (λ (x : Reference × Role). x.0) (sym is)) same
alone-field a b c name role e (suc k, lt, is) same = absurd (omega (arith, lt))

no-child : (instance : List ℕ) (ports : List Port) (a b c : List ℕ) (e : Reference × Role) → Contains (map (instance_port instance) ports) e → same_reference (FieldOf a b c) e.0 ≡ true → ⊥
no-child instance [] a b c e at same = absurd (omega (arith, at.1))
no-child instance (p ∷ ps) a b c e (zero, lt, is) same = true≢false (sym (ap (λ (x : Reference × Role). same_reference (FieldOf a b c) x.0) is ∙ same))
no-child instance (p ∷ ps) a b c e (suc k, lt, is) same = no-child instance ps a b c e (k, omega (arith, lt), is) same

one-field : (memory port : List ℕ) (kind : PortKind) (fields : List PortField) (a b c : List ℕ) (e : Reference × Role) → Contains (map (port_field memory port kind) fields) e → same_reference (FieldOf a b c) e.0 ≡ true → a ≡ memory
one-field memory port kind [] a b c e at same = absurd (omega (arith, at.1))
one-field memory port kind (f ∷ fs) a b c e (zero, lt, is) same =
    same_bytes a memory (and_parts (bytes_eq a memory) (bytes_eq b port && bytes_eq c (field_name f)) (ap (λ (x : Reference × Role). same_reference (FieldOf a b c) x.0) is ∙ same)).0
one-field memory port kind (f ∷ fs) a b c e (suc k, lt, is) same = one-field memory port kind fs a b c e (k, omega (arith, lt), is) same

of-memory : (memory : List ℕ) (ports : List (List ℕ × PortKind)) (a b c : List ℕ) (e : Reference × Role) → Contains (flat_map (port_entries memory) ports) e → same_reference (FieldOf a b c) e.0 ≡ true → a ≡ memory
of-memory memory [] a b c e at same = absurd (omega (arith, at.1))
of-memory memory (p ∷ ps) a b c e at same = go (Contains-append_cases (port_entries memory p) (flat_map (port_entries memory) ps) e at) (of-memory memory ps a b c e)
  where
    go : Contains (port_entries memory p) e ⊎ Contains (flat_map (port_entries memory) ps) e → (Contains (flat_map (port_entries memory) ps) e → same_reference (FieldOf a b c) e.0 ≡ true → a ≡ memory) → a ≡ memory
    go (inl at) next = one-field memory p.0 p.1 (port_fields p.1) a b c e at same
    go (inr at) next = next at same

-- a statement with an entry for the field `a.b.c` declares the memory `a`
makes-memory : (modules : List ModuleTree) (kind : StmtKind) (a b c : List ℕ) (e : Reference × Role) → Contains (entries_by_kind modules kind) e → same_reference (FieldOf a b c) e.0 ≡ true → (fields : List Field) × (kind ≡ says.Memory a fields)
makes-memory modules (says.Wire name ty) a b c e at same = absurd (alone-field a b c name roles.Wire e at same)
makes-memory modules (says.Node name value) a b c e at same = absurd (alone-field a b c name roles.Node e at same)
makes-memory modules (says.Register name ty clock reset) a b c e at same = absurd (alone-field a b c name roles.Register e at same)
makes-memory modules (says.Instance name of_module) a b c e (zero, lt, is) same = absurd (not-field a b c name e (ap (λ (x : Reference × Role). x.0) (sym is)) same)
makes-memory modules (says.Instance name of_module) a b c e (suc k, lt, is) same = go (module_named of_module modules) (omega (arith, lt)) is
  where
    go : (o : Option ModuleTree) → k < length (instance_ports name o) → get_or (instance_ports name o) k e ≡ e → (fields : List Field) × (says.Instance name of_module ≡ says.Memory a fields)
    go None lt is = absurd (omega (arith, lt))
    go (Some m) lt is = absurd (no-child name m.ports a b c e (k, lt, is) same)
makes-memory modules (says.Memory name fields) a b c e (zero, lt, is) same = absurd (not-field a b c name e (ap (λ (x : Reference × Role). x.0) (sym is)) same)
makes-memory modules (says.Memory name fields) a b c e (suc k, lt, is) same = (fields, ap (λ n. says.Memory n fields) (sym (of-memory name (memory_ports fields) a b c e (k, omega (arith, lt), is) same)))
makes-memory modules (says.Connect sink source) a b c e at same = absurd (omega (arith, at.1))
makes-memory modules (says.Invalid sink) a b c e at same = absurd (omega (arith, at.1))
makes-memory modules says.Skip a b c e at same = absurd (omega (arith, at.1))
makes-memory modules (says.Stop clock condition code label) a b c e at same = absurd (omega (arith, at.1))
makes-memory modules (says.Report word arguments label) a b c e at same = absurd (omega (arith, at.1))

-- where `a` is an instance, no reference `a.b.c` has a type
pub field-known : (circuit : CircuitTree) (n : ℕ) (h : Held) (a b c : List ℕ) → Differ (flat_map name_by (module_at circuit.modules n).statements) → is_some (types_of circuit n (FieldOf a b c)) ≡ true → Contains (held_by circuit.modules (module_at circuit.modules n).statements) h → h.name ≡ a → ⊥
field-known circuit n h a b c differ typed has named = go (Contains-append_cases (map entry_by_port (module_at circuit.modules n).ports) (flat_map (entries_by circuit.modules) (module_at circuit.modules n).statements) entry.entry entry.among)
  where
    entry : EntryOf (scope_of circuit.modules (module_at circuit.modules n)) (FieldOf a b c)
    entry = known-entry circuit n (FieldOf a b c) typed

    go : Contains (map entry_by_port (module_at circuit.modules n).ports) entry.entry ⊎ Contains (flat_map (entries_by circuit.modules) (module_at circuit.modules n).statements) entry.entry → ⊥
    go (inl at) = let l = not-port (module_at circuit.modules n).ports entry.entry at in absurd (not-field a b c l.0 entry.entry l.1 entry.same)
    go (inr there) =
        let s = brought-by circuit.modules (module_at circuit.modules n).statements entry.entry there in
        let memory = makes-memory circuit.modules s.statement.kind a b c entry.entry s.among entry.same in
        let made = made-by (held_by_kind circuit.modules) (module_at circuit.modules n).statements h has in
        let one : made.statement ≡ s.statement = one-statement (module_at circuit.modules n).statements made.place s.place made.statement s.statement a differ made.inside s.inside made.at s.at (held-named circuit.modules made.statement.kind h made.makes ∙ ap (λ x. x ∷ []) named) (ap name_by_kind memory.1) in
        let never : None ≡ Some h = ap (held_by_kind circuit.modules) (sym memory.1) ∙ ap (λ (x : Stmt). held_by_kind circuit.modules x.kind) (sym one) ∙ made.makes in
        cc
