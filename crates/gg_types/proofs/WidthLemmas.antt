-- In a circuit without faults of types each type has a width of 1 to 128, or is a Clock.
use Rattle.std.proofs.Common.{◌≡◌, ℕ, zero, suc, ◌+◌, ◌≤◌, ◌<◌, ◌^◌, Bool, true, false, ◌&&◌, not, List, [], ◌∷◌, ◌++◌, length, map, nat_le, Option, Some, None, option_map, Result, Ok, Err, IfSome, refl, sym, ap, subst, ◌∙◌, if◌then◌else◌, append_assoc, get_or, arith}
use Rattle.std.proofs.lemmas.Bool.Decides.{nat_tests}
use Rattle.std.specs.List.{flat_map}
use Rattle.std.specs.Str.{bytes_eq}
use Rattle.std.proofs.lemmas.List.{get_or_default, append-nil}
use Rattle.gg_bits.specs.declared.types.Bad.{Bad}
use Rattle.gg_bits.specs.Shape.{Shape, of_kind}
use Rattle.gg_bits.specs.ResultType.{answer, type1, type2, type_const, type_mux, shape1, shape2, shape_const, shape_mux, kinds2, params_const, is_condition, same_kind}
use Rattle.gg_ast.specs.declared.expression.Literal.{Literal}
use Rattle.gg_ast.specs.declared.expression.Reference.{Reference}
use Rattle.gg_ast.specs.declared.module.Direction.{Direction}
use Rattle.gg_ast.specs.declared.module.Direction.TheVariants.{Input, Output}
use Rattle.gg_ast.specs.declared.module.GroundType.{GroundType}
use Rattle.gg_ast.specs.declared.module.GroundType.TheVariants as types
use Rattle.gg_ast.specs.declared.module.Port.{Port}
use Rattle.gg_ast.specs.declared.statement.Field.{Field}
use Rattle.gg_ast.specs.declared.statement.MemoryField.{MemoryField}
use Rattle.gg_ast.specs.declared.statement.MemoryField.TheVariants as field
use Rattle.gg_ast.specs.declared.statement.Stmt.{Stmt}
use Rattle.gg_ast.specs.declared.statement.StmtKind as statements
use Rattle.gg_ast.specs.declared.statement.StmtKind.TheVariants as kinds
use Rattle.gg_ast.specs.Term.{Term, NamedTerm, ConstantTerm, UnaryTerm, BinaryTerm, FixedTerm, MuxTerm}
use Rattle.gg_ast.specs.Tree.{ModuleTree, CircuitTree}
use Rattle.gg_flat.specs.Memory.{first_width, address_width}
use Rattle.gg_shape_names.specs.declared.role.Role.{Role}
use Rattle.gg_shape_names.specs.declared.role.Role.TheVariants as roles
use Rattle.gg_shape_names.specs.declared.role.PortField.{PortField}
use Rattle.gg_shape_names.specs.declared.role.PortField.TheVariants.{Addr, En, Clk, Data, Mask}
use Rattle.gg_shape_names.specs.Memory.{memory_ports, port_fields}
use Rattle.gg_shape_names.specs.Modules.{module_at}
use Rattle.gg_shape_names.specs.Namespace.{module_named, entry_by_port, entries_by, entries_by_kind, instance_ports, instance_port, port_entries, port_field, scope_of, meaning_of, role_of_port, role_of_instance_port}
use Rattle.gg_shape_names.specs.inside.Namespace.{names_in}
use Rattle.gg_shape_names.specs.Scope.{entry_of, first_name, same_reference}
use Rattle.gg_shape.specs.declared.fault.Fault.{Fault}
use Rattle.gg_shape.specs.declared.fault.Word.{Word}
use Rattle.gg_shape.specs.declared.fault.Word.TheVariants as words
use Rattle.gg_shape_names.specs.Along.{along, along_from}
use Rattle.gg_shape.specs.Faults.{fault_if}
use Rattle.gg_types.specs.declared.sort.Own.{Own}
use Rattle.gg_types.specs.declared.sort.Own.TheVariants as own
use Rattle.gg_types.specs.declared.sort.Sort.{Sort}
use Rattle.gg_types.specs.declared.sort.Sort.TheVariants.{Bits, Clock}
use Rattle.gg_types.specs.Clocks.{leads_to_input}
use Rattle.gg_types.specs.Fields.{first_said, type_said}
use Rattle.gg_bits.specs.Lists.{or_else, find_word}
use Rattle.gg_types.specs.Literal.{literal_fits}
use Rattle.gg_types.specs.inside.Named.{owned}
use Rattle.gg_types.specs.Owned.{port_own, single, field_of, field_sort, typed_by, typed, known_entry, known_sort, sort_of_reference}
use Rattle.gg_types.specs.Sorts.{is_clock, sort_of, bits}
use Rattle.gg_types.specs.inside.Typed.{IsTyped}
use Rattle.gg_types.specs.Types.{is_width, width_faults, stored_type_faults, field_faults, memory_type_faults, literal_sort, read_sort, is_traced, result1, result2, result3, result_sort, sort_in, faults_of_kind, own_by, known_after, faults_of, port_faults, faults_of_module, type_faults, known_in, sort_named}
use Rattle.gg_types.proofs.StepLemmas.{known_after-push}

abbrev pub IsWide : Sort → Type 0
IsWide (Bits k w) = (1 ≤ w) × (w ≤ 128)
IsWide Clock = Unit {0}

either : {A : Type 0} (P : A → Type 0) (b : Bool) (x : A) (o : Option A) → P x → IfSome o P → IfSome (if b then Some x else o) P
either P true x o h g = h
either P false x o h g = g

-- ---- lists of faults

none-front : (xs ys : List Fault) → xs ++ ys ≡ [] → xs ≡ []
none-front [] ys h = refl
none-front (x ∷ xs) ys h = cc

none-back : (xs ys : List Fault) → xs ++ ys ≡ [] → ys ≡ []
none-back [] ys h = h
none-back (x ∷ xs) ys h = cc

some-fault : (f : Fault) → f ∷ [] ≡ [] → ⊥
some-fault f h = cc

-- ---- widths

pub is_width-tells : (w : ℕ) → is_width w ≡ true → (1 ≤ w) × (w ≤ 128)
is_width-tells w h = grind (arith, nat_tests)

width-from : (f : Fault) (w : ℕ) (b : Bool) → is_width w ≡ b → fault_if (not b) f ≡ [] → (1 ≤ w) × (w ≤ 128)
width-from f w true is h = is_width-tells w is
width-from f w false is h = absurd (some-fault f h)

written-wide : (line : ℕ) (ty : GroundType) → width_faults line ty ≡ [] → IsWide (sort_of ty)
written-wide line (types.UInt w) h = width-from _ w (is_width w) refl h
written-wide line (types.SInt w) h = width-from _ w (is_width w) refl h
written-wide line types.Clock h = tt

stored-wide : (line : ℕ) (word : Word) (ty : GroundType) → stored_type_faults line word ty ≡ [] → IsWide (sort_of ty)
stored-wide line word (types.UInt w) h = width-from _ w (is_width w) refl h
stored-wide line word (types.SInt w) h = width-from _ w (is_width w) refl h
stored-wide line word types.Clock h = absurd (some-fault _ h)

-- ---- results

within-wide : (s t : Shape) (bad : Bad) (b : Bool) → is_width s.width ≡ b → (if b then Ok s else Err bad) ≡ Ok t → IsWide (bits t)
within-wide s t bad true is h = let same : s ≡ t = cc in subst (λ x. IsWide (bits x)) same (is_width-tells s.width is)
within-wide s t bad false is h = cc

pub answer-wide : (a b : Bool) (s t : Shape) → answer a b s ≡ Ok t → IsWide (bits t)
answer-wide false b s t h = cc
answer-wide true false s t h = cc
answer-wide true true s t h = within-wide s t _ (is_width s.width) refl h

sort-of-result : (r : Result Shape Bad) → ((t : Shape) → r ≡ Ok t → IsWide (bits t)) → IfSome (result_sort (Some r)) IsWide
sort-of-result (Ok t) h = h t refl
sort-of-result (Err bad) h = tt

wide1 : (op : Shape → Result Shape Bad) → ((s t : Shape) → op s ≡ Ok t → IsWide (bits t)) → (a : Option Sort) → IfSome (result_sort (result1 op a)) IsWide
wide1 op h None = tt
wide1 op h (Some (Bits k w)) = sort-of-result (op (of_kind k w)) (h (of_kind k w))
wide1 op h (Some Clock) = tt

wide2 : (op : Shape → Shape → Result Shape Bad) → ((s r t : Shape) → op s r ≡ Ok t → IsWide (bits t)) → (a b : Option Sort) → IfSome (result_sort (result2 op a b)) IsWide
wide2 op h None b = tt
wide2 op h (Some (Bits k w)) b = wide1 (op (of_kind k w)) (h (of_kind k w)) b
wide2 op h (Some Clock) None = tt
wide2 op h (Some Clock) (Some b) = tt

wide3 : (op : Shape → Shape → Shape → Result Shape Bad) → ((s r q t : Shape) → op s r q ≡ Ok t → IsWide (bits t)) → (a b c : Option Sort) → IfSome (result_sort (result3 op a b c)) IsWide
wide3 op h None b c = tt
wide3 op h (Some (Bits k w)) b c = wide2 (op (of_kind k w)) (h (of_kind k w)) b c
wide3 op h (Some Clock) None c = tt
wide3 op h (Some Clock) (Some b) None = tt
wide3 op h (Some Clock) (Some b) (Some c) = tt

literal-wide : (l : Literal) → IfSome (literal_sort l) IsWide
literal-wide l = go (is_width l.width) refl (literal_fits l)
  where
    go : (b : Bool) → is_width l.width ≡ b → (c : Bool) → IfSome (if b && c then Some (Bits l.kind l.width) else None) IsWide
    go true is true = is_width-tells l.width is
    go true is false = tt
    go false is c = tt

read-wide : (traced : List ℕ → Bool) (r : Reference) (o : Option Sort) → IfSome o IsWide → IfSome (read_sort traced r o) IsWide
read-wide traced r None h = tt
read-wide traced r (Some (Bits k w)) h = h
read-wide traced r (Some Clock) h = go (is_traced traced r)
  where
    go : (b : Bool) → IfSome (if b then Some Clock else None) IsWide
    go true = tt
    go false = tt

module _ (rs : List (Reference × Role)) (traced : List ℕ → Bool) (known : List (List ℕ × Option Own)) (refs : (r : Reference) → IfSome (sort_of_reference rs known r) IsWide) where
  term-wide : (e : Term) → IfSome (sort_in rs traced known e) IsWide
  term-wide (NamedTerm r) = read-wide traced r (sort_of_reference rs known r) (refs r)
  term-wide (ConstantTerm l) = literal-wide l
  term-wide (UnaryTerm o a) = wide1 (type1 o) (λ s t. answer-wide true true (shape1 o s) t) (sort_in rs traced known a)
  term-wide (BinaryTerm o a b) = wide2 (type2 o) (λ s r t. answer-wide (kinds2 o s r) true (shape2 o s r) t) (sort_in rs traced known a) (sort_in rs traced known b)
  term-wide (FixedTerm o a n m) = wide1 (λ s. type_const o s n m) (λ s t. answer-wide true (params_const o s n m) (shape_const o s n m) t) (sort_in rs traced known a)
  term-wide (MuxTerm c a b) = wide3 type_mux (λ s r q t. answer-wide (is_condition s && same_kind r.kind q.kind) true (shape_mux r q) t) (sort_in rs traced known c) (sort_in rs traced known a) (sort_in rs traced known b)

-- ---- what names have of their own

abbrev OwnWide : Own → Type 0
OwnWide (own.Single s) = IsWide s
OwnWide own.Instance = Unit {0}
OwnWide (own.Memory word depth) = IfSome word (λ ty. IsWide (sort_of ty))

abbrev KnownWide : List (List ℕ × Option Own) → Type 0
KnownWide [] = Unit {0}
KnownWide (e ∷ es) = IfSome e.1 OwnWide × KnownWide es

known-append : (xs ys : List (List ℕ × Option Own)) → KnownWide xs → KnownWide ys → KnownWide (xs ++ ys)
known-append [] ys h g = g
known-append (x ∷ xs) ys h g = (h.0, known-append xs ys h.1 g)

find-wide : (name : List ℕ) (es : List (List ℕ × Option Own)) → KnownWide es → IfSome (find_word name es) (λ o. IfSome o OwnWide)
find-wide name [] h = tt
find-wide name (e ∷ es) h = either (λ o. IfSome o OwnWide) (bytes_eq name e.0) e.1 (find_word name es) h.0 (find-wide name es h.1)

-- ---- roles

abbrev RoleWide : Role → Type 0
RoleWide roles.InputPort = Unit {0}
RoleWide roles.OutputPort = Unit {0}
RoleWide roles.Wire = Unit {0}
RoleWide roles.Register = Unit {0}
RoleWide roles.Node = Unit {0}
RoleWide roles.Instance = Unit {0}
RoleWide roles.Memory = Unit {0}
RoleWide (roles.InstanceInput ty) = IsWide (sort_of ty)
RoleWide (roles.InstanceOutput ty) = IsWide (sort_of ty)
RoleWide (roles.MemoryPort kind field) = Unit {0}

abbrev ScopeWide : List (Reference × Role) → Type 0
ScopeWide [] = Unit {0}
ScopeWide (e ∷ es) = RoleWide e.1 × ScopeWide es

scope-append : (xs ys : List (Reference × Role)) → ScopeWide xs → ScopeWide ys → ScopeWide (xs ++ ys)
scope-append [] ys h g = g
scope-append (x ∷ xs) ys h g = (h.0, scope-append xs ys h.1 g)

entry-wide : (r : Reference) (es : List (Reference × Role)) → ScopeWide es → IfSome (entry_of r es) RoleWide
entry-wide r [] h = tt
entry-wide r (e ∷ es) h = either RoleWide (same_reference r e.0) e.1 (entry_of r es) h.0 (entry-wide r es h.1)

map-wide : {X : Type 0} (f : X → Reference × Role) → ((x : X) → RoleWide (f x).1) → (xs : List X) → ScopeWide (map f xs)
map-wide f h [] = tt
map-wide f h (x ∷ xs) = (h x, map-wide f h xs)

flat-wide : {X : Type 0} (f : X → List (Reference × Role)) → ((x : X) → ScopeWide (f x)) → (xs : List X) → ScopeWide (flat_map f xs)
flat-wide f h [] = tt
flat-wide f h (x ∷ xs) = scope-append (f x) (flat_map f xs) (h x) (flat-wide f h xs)

abbrev PortsWide : List Port → Type 0
PortsWide [] = Unit {0}
PortsWide (p ∷ ps) = IsWide (sort_of p.ty) × PortsWide ps

abbrev ModulesWide : List ModuleTree → Type 0
ModulesWide [] = Unit {0}
ModulesWide (m ∷ ms) = PortsWide m.ports × ModulesWide ms

named-wide : (name : List ℕ) (ms : List ModuleTree) → ModulesWide ms → IfSome (module_named name ms) (λ m. PortsWide m.ports)
named-wide name [] h = tt
named-wide name (m ∷ ms) h = either (λ n. PortsWide n.ports) (bytes_eq name m.name) m (module_named name ms) h.0 (named-wide name ms h.1)

port-role-wide : (d : Direction) → RoleWide (role_of_port d)
port-role-wide Input = tt
port-role-wide Output = tt

instance-role-wide : (d : Direction) (ty : GroundType) → IsWide (sort_of ty) → RoleWide (role_of_instance_port d ty)
instance-role-wide Input ty h = h
instance-role-wide Output ty h = h

ports-wide : (i : List ℕ) (ps : List Port) → PortsWide ps → ScopeWide (map (instance_port i) ps)
ports-wide i [] h = tt
ports-wide i (p ∷ ps) h = (instance-role-wide p.direction p.ty h.0, ports-wide i ps h.1)

instance-wide : (i : List ℕ) (o : Option ModuleTree) → IfSome o (λ m. PortsWide m.ports) → ScopeWide (instance_ports i o)
instance-wide i None h = tt
instance-wide i (Some m) h = ports-wide i m.ports h

entries-wide : (ms : List ModuleTree) → ModulesWide ms → (k : statements.StmtKind) → ScopeWide (entries_by_kind ms k)
entries-wide ms h (kinds.Wire name ty) = (tt, tt)
entries-wide ms h (kinds.Node name value) = (tt, tt)
entries-wide ms h (kinds.Register name ty clock reset) = (tt, tt)
entries-wide ms h (kinds.Instance name of_module) = (tt, instance-wide name (module_named of_module ms) (named-wide of_module ms h))
entries-wide ms h (kinds.Memory name fields) =
    (tt, flat-wide (port_entries name) (λ p. map-wide (port_field name p.0 p.1) (λ f. tt) (port_fields p.1)) (memory_ports fields))
entries-wide ms h (kinds.Connect sink source) = tt
entries-wide ms h (kinds.Invalid sink) = tt
entries-wide ms h kinds.Skip = tt
entries-wide ms h (kinds.Stop clock condition code label) = tt
entries-wide ms h (kinds.Report word arguments label) = tt

scope-wide : (ms : List ModuleTree) → ModulesWide ms → (m : ModuleTree) → ScopeWide (scope_of ms m)
scope-wide ms h m =
    scope-append (map entry_by_port m.ports) (flat_map (entries_by ms) m.statements)
    (map-wide entry_by_port (λ p. port-role-wide p.direction) m.ports)
    (flat-wide (entries_by ms) (λ s. entries-wide ms h s.kind) m.statements)

-- ---- references

first-between : (more w depth : ℕ) → 1 ≤ w → (1 ≤ first_width more w depth) × (first_width more w depth ≤ more + w)
first-between zero w depth h = (h, omega arith)
first-between (suc more) w depth h = go (nat_le depth (2 ^ w)) (first-between more (suc w) depth (omega arith))
  where
    go : (b : Bool) → (1 ≤ first_width more (suc w) depth) × (first_width more (suc w) depth ≤ more + suc w) → (1 ≤ (if b then w else first_width more (suc w) depth)) × ((if b then w else first_width more (suc w) depth) ≤ suc more + w)
    go true later = (h, omega arith)
    go false later = (later.0, omega (arith, later.1))

pub address-wide : (depth : ℕ) → (1 ≤ address_width depth) × (address_width depth ≤ 128)
address-wide depth = let b = first-between 31 1 depth (omega arith) in (b.0, omega (arith, b.1))

one-bit : (1 ≤ 1) × (1 ≤ 128)
one-bit = (omega arith, omega arith)

field-wide : (word : Option GroundType) (depth : Option ℕ) (f : PortField) → IfSome word (λ ty. IsWide (sort_of ty)) → IfSome (field_sort word depth f) IsWide
field-wide word None Addr h = tt
field-wide word (Some n) Addr h = address-wide n
field-wide word depth En h = one-bit
field-wide word depth Clk h = tt
field-wide None depth Data h = tt
field-wide (Some ty) depth Data h = h
field-wide word depth Mask h = one-bit

single-wide : (o : Own) → OwnWide o → IfSome (single o) IsWide
single-wide (own.Single s) h = h
single-wide own.Instance h = tt
single-wide (own.Memory word depth) h = tt

field_of-wide : (o : Own) (f : PortField) → OwnWide o → IfSome (field_of o f) IsWide
field_of-wide (own.Single s) f h = tt
field_of-wide own.Instance f h = tt
field_of-wide (own.Memory word depth) f h = field-wide word depth f h

typed_by-wide : (o : Own) (r : Role) → OwnWide o → RoleWide r → IfSome (typed_by o r) IsWide
typed_by-wide o roles.InputPort h g = single-wide o h
typed_by-wide o roles.OutputPort h g = single-wide o h
typed_by-wide o roles.Wire h g = single-wide o h
typed_by-wide o roles.Register h g = single-wide o h
typed_by-wide o roles.Node h g = single-wide o h
typed_by-wide o roles.Instance h g = tt
typed_by-wide o roles.Memory h g = tt
typed_by-wide o (roles.InstanceInput ty) h g = g
typed_by-wide o (roles.InstanceOutput ty) h g = g
typed_by-wide o (roles.MemoryPort kind f) h g = field_of-wide o f h

typed-wide : (o : Option (Option Own)) (r : Option Role) → IfSome o (λ x. IfSome x OwnWide) → IfSome r RoleWide → IfSome (known_sort (typed o r)) IsWide
typed-wide None r h g = tt
typed-wide (Some None) r h g = tt
typed-wide (Some (Some o)) None h g = tt
typed-wide (Some (Some o)) (Some r) h g = go (typed_by o r) (typed_by-wide o r h g)
  where
    go : (x : Option Sort) → IfSome x IsWide → IfSome (known_sort (option_map (λ s. Some s) x)) IsWide
    go None w = tt
    go (Some s) w = w

reference-wide : (rs : List (Reference × Role)) (known : List (List ℕ × Option Own)) → ScopeWide rs → KnownWide known → (r : Reference) → IfSome (sort_of_reference rs known r) IsWide
reference-wide rs known h g r =
    typed-wide (find_word (first_name r) known) (meaning_of rs r) (find-wide (first_name r) known g) (entry-wide r rs h)

-- ---- statements

word-wide : (fs : List Field) → memory_type_faults fs ≡ [] → IfSome (first_said type_said fs) (λ ty. IsWide (sort_of ty))
word-wide [] h = tt
word-wide (f ∷ fs) h =
    go f.kind (none-front (field_faults f.line f.kind) (memory_type_faults fs) h) (word-wide fs (none-back (field_faults f.line f.kind) (memory_type_faults fs) h))
  where
    go : (k : MemoryField) → field_faults f.line k ≡ [] → IfSome (first_said type_said fs) (λ ty. IsWide (sort_of ty)) → IfSome (or_else (type_said k) (first_said type_said fs)) (λ ty. IsWide (sort_of ty))
    go (field.DataType ty) e later = stored-wide f.line words.Memory ty e
    go (field.Depth n) e later = later
    go (field.ReadLatency n) e later = later
    go (field.WriteLatency n) e later = later
    go (field.Readers names) e later = later
    go (field.Writers names) e later = later
    go (field.ReadUnderWrite word) e later = later

module _ (rs : List (Reference × Role)) (scope : ScopeWide rs) (traced : List ℕ → Bool) where
  own-wide : (known : List (List ℕ × Option Own)) → KnownWide known → (line : ℕ) (k : statements.StmtKind) → faults_of_kind rs traced known line k ≡ [] → KnownWide (own_by rs traced known k)
  own-wide known g line (kinds.Wire name ty) h = (written-wide line ty h, tt)
  own-wide known g line (kinds.Node name value) h = (go (sort_in rs traced known value) (term-wide rs traced known (reference-wide rs known scope g) value), tt)
    where
      go : (o : Option Sort) → IfSome o IsWide → IfSome (option_map own.Single o) OwnWide
      go None w = tt
      go (Some s) w = w
  own-wide known g line (kinds.Register name ty clock reset) h =
      (stored-wide line words.Register ty (none-front (stored_type_faults line words.Register ty) _ h), tt)
  own-wide known g line (kinds.Instance name of_module) h = (tt, tt)
  own-wide known g line (kinds.Memory name fields) h = (word-wide fields h, tt)
  own-wide known g line (kinds.Connect sink source) h = tt
  own-wide known g line (kinds.Invalid sink) h = tt
  own-wide known g line kinds.Skip h = tt
  own-wide known g line (kinds.Stop clock condition code label) h = tt
  own-wide known g line (kinds.Report word arguments label) h = tt

  after-wide : (start : List (List ℕ × Option Own)) (before rest : List Stmt) → KnownWide (known_after rs traced start before) → along_from (faults_of rs traced start) before rest ≡ [] → KnownWide (known_after rs traced start (before ++ rest))
  after-wide start before [] g h = subst (λ l. KnownWide (known_after rs traced start l)) (sym (append-nil before)) g
  after-wide start before (s ∷ rest) g h =
      let here = own-wide (known_after rs traced start before) g s.line s.kind (none-front (faults_of rs traced start before s) (along_from (faults_of rs traced start) (before ++ s ∷ []) rest) h) in
      let grown = subst KnownWide (sym (known_after-push rs traced start before s)) (known-append (known_after rs traced start before) (own_by rs traced (known_after rs traced start before) s.kind) g here) in
      subst (λ l. KnownWide (known_after rs traced start l)) (append_assoc before (s ∷ []) rest)
      (after-wide start (before ++ s ∷ []) rest grown (none-back (faults_of rs traced start before s) (along_from (faults_of rs traced start) (before ++ s ∷ []) rest) h))

-- ---- modules

judged-wide : (line : ℕ) (name : List ℕ) (f : Fault) (b : Bool) (ty : GroundType) → (if is_clock ty then fault_if b f else width_faults line ty) ≡ [] → IsWide (sort_of ty)
judged-wide line name f b (types.UInt w) h = written-wide line (types.UInt w) h
judged-wide line name f b (types.SInt w) h = written-wide line (types.SInt w) h
judged-wide line name f b types.Clock h = tt

all-ports-wide : (ports : List Port) → flat_map port_faults ports ≡ [] → PortsWide ports
all-ports-wide [] h = tt
all-ports-wide (p ∷ ps) h = (
  judged-wide p.line p.name _ _ p.ty (none-front (port_faults p) (flat_map port_faults ps) h),
  all-ports-wide ps (none-back (port_faults p) (flat_map port_faults ps) h),
)

port-own-wide : (ports : List Port) → PortsWide ports → KnownWide (map port_own ports)
port-own-wide [] h = tt
port-own-wide (p ∷ ps) h = (h.0, port-own-wide ps h.1)

module _ (circuit : CircuitTree) where
  module-ports : (m : ModuleTree) → faults_of_module circuit.modules m ≡ [] → PortsWide m.ports
  module-ports m h = all-ports-wide m.ports (none-front (flat_map port_faults m.ports) _ h)

  all-modules : (ms : List ModuleTree) → flat_map (faults_of_module circuit.modules) ms ≡ [] → ModulesWide ms
  all-modules [] h = tt
  all-modules (m ∷ ms) h = (
    module-ports m (none-front (faults_of_module circuit.modules m) (flat_map (faults_of_module circuit.modules) ms) h),
    all-modules ms (none-back (faults_of_module circuit.modules m) (flat_map (faults_of_module circuit.modules) ms) h),
  )

  each-module : (ms : List ModuleTree) → flat_map (faults_of_module circuit.modules) ms ≡ [] → (k : ℕ) (d : ModuleTree) → k < length ms → faults_of_module circuit.modules (get_or ms k d) ≡ []
  each-module [] h k d lt = absurd (omega arith)
  each-module (m ∷ ms) h zero d lt = none-front (faults_of_module circuit.modules m) (flat_map (faults_of_module circuit.modules) ms) h
  each-module (m ∷ ms) h (suc k) d lt = each-module ms (none-back (faults_of_module circuit.modules m) (flat_map (faults_of_module circuit.modules) ms) h) k d (omega arith)

  known-wide : type_faults circuit ≡ [] → (k : ℕ) → k < length circuit.modules → KnownWide (known_in circuit.modules (module_at circuit.modules k))
  known-wide h k lt =
      let m = module_at circuit.modules k in
      let none = each-module circuit.modules h k _ lt in
      after-wide (scope_of circuit.modules m) (scope-wide circuit.modules (all-modules circuit.modules h) m) (leads_to_input m) (map port_own m.ports) [] m.statements
      (port-own-wide m.ports (module-ports m none))
      (none-back (flat_map port_faults m.ports) (along (faults_of (scope_of circuit.modules m) (leads_to_input m) (map port_own m.ports)) m.statements) none)

  -- in a circuit without faults of types, the type of each reference has a width of 1 to 128, or is a Clock
  pub sort-wide : type_faults circuit ≡ [] → (k : ℕ) → k < length circuit.modules → (r : Reference) → IfSome (sort_named circuit.modules (module_at circuit.modules k) r) IsWide
  sort-wide h k lt r =
      let m = module_at circuit.modules k in
      reference-wide (scope_of circuit.modules m) (known_in circuit.modules m) (scope-wide circuit.modules (all-modules circuit.modules h) m) (known-wide h k lt) r

-- a type that a look-up finds is the type of the reference
pub looked_up : (rs : List (Reference × Role)) (known : List (List ℕ × Option Own)) (r : Reference) (found : Option Sort) → option_map (λ s. Some s) found ≡ known_entry rs known r → found ≡ sort_of_reference rs known r
looked_up rs known r None h = ap known_sort h
looked_up rs known r (Some s) h = ap known_sort h

-- a type that a look-up finds in a typed circuit has a width of 1 to 128, or is a Clock
pub typing-wide : (circuit : CircuitTree) (order : List ℕ) (lists : List (List Own)) (k : ℕ) (r : Reference) (list : List Own) (clocks : List (List (Option ℕ))) (found : Option Sort) (s : Sort) → IsTyped circuit order lists clocks → k < length circuit.modules → list ≡ get_or lists k list → option_map (λ x. Some x) found ≡ known_entry (scope_of circuit.modules (module_at circuit.modules k)) (owned (names_in (module_at circuit.modules k)) list) r → found ≡ Some s → IsWide s
typing-wide circuit order lists k r list clocks found s typed lt is looked there =
    let m = module_at circuit.modules k in
    let rs = scope_of circuit.modules m in
    let within : k < length lists = omega (arith, lt, typed.tells.count) in
    let list-is : list ≡ get_or lists k [] = is ∙ get_or_default lists k list [] within in
    let e : found ≡ sort_named circuit.modules m r =
    looked_up rs (owned (names_in m) list) r found looked
    ∙ ap (λ l. sort_of_reference rs l r) (ap (owned (names_in m)) list-is ∙ (typed.tells.each k lt).told) in
    subst (λ o. IfSome o IsWide) (sym e ∙ there) (sort-wide circuit typed.faultless k lt r)
