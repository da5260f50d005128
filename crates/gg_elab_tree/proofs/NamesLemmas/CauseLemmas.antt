-- What gives the signals of a module their values: the names in it are names as the language allows them (IsName), and a reader's
-- address and enable are signals of the module.
use Rattle.std.proofs.Common.{◌≡◌, ◌≢◌, ℕ, zero, suc, ◌+◌, ◌<◌, Bool, true, false, ◌&&◌, List, [], ◌∷◌, ◌++◌, Option, Some, None, is_some, length, get_or, map, filter, refl, sym, ap, ◌∙◌, subst, arith, codes, length-append, true≢false, if◌then◌else◌}
use Rattle.std.specs.Prelude.{flat_map, filter_map, option_map, option_to_list, Contains, All, IfSome}
use Rattle.std.specs.List.{list_all}
use Rattle.std.specs.Str.{bytes_eq}
use Rattle.std.proofs.lemmas.List.{length-map, get_or-map}
use Rattle.std.proofs.Math.Seq.{get_or-append-add}
use Rattle.gg_bits.specs.Shape.{Shape}
use Rattle.gg_ast.specs.Names.{IsName, is_name_byte, begins_name}
use Rattle.gg_ast.specs.inside.Names.{AreNamesOfTerm, AreNamesOfReset, AreNamesOfKind, AreNamesOfStatement, AreNamesOfModule}
use Rattle.gg_ast.specs.declared.expression.Reference.TheVariants as reference
use Rattle.gg_ast.specs.declared.module.Port.{Port}
use Rattle.gg_ast.specs.declared.statement.Stmt.{Stmt}
use Rattle.gg_ast.specs.declared.statement.StmtKind.{StmtKind}
use Rattle.gg_ast.specs.declared.statement.StmtKind.TheVariants as says
use Rattle.gg_ast.specs.Tree.{ModuleTree, empty_module}
use Rattle.gg_shape_names.specs.Scope.{written}
use Rattle.gg_elab_tree.proofs.OwnLemmas.{front}
use Rattle.gg_elab_sites.specs.Connection.{Connection, ConnectedTo, Zeroed, connection_by, connection_in}
use Rattle.gg_types.specs.Memories.{Bank, bank_of, type_shape}
use Rattle.gg_bits.specs.Lists.{or_else}
use Rattle.gg_elab_sites.specs.Signals.{Types, Cause, FromOutside, Connected, Expressed, Kept, Answered, Own, own, own_of_port, own_of_kind, cause_of_port, field_name, memory_signals, readers_signals, writer_signals}

-- ---- names

-- a name isn't empty
pub name-some : (a : List ℕ) → IsName a → a ≢ []
name-some [] h e = absurd (true≢false (sym h))
name-some (b ∷ bs) h e = let never : (b ∷ bs) ≡ [] = e in absurd (cc)

-- no byte of a name is one that a name can't have
without : (bad : ℕ) (bs : List ℕ) → is_name_byte bad ≡ false → list_all is_name_byte bs ≡ true → ¬ Contains bs bad
without bad [] never h c = absurd (omega (arith, c.1))
without bad (b ∷ bs) never h c = go (is_name_byte b) refl h c (without bad bs never)
  where
    go : (t : Bool) → is_name_byte b ≡ t → (t && list_all is_name_byte bs) ≡ true → Contains (b ∷ bs) bad → (list_all is_name_byte bs ≡ true → ¬ Contains bs bad) → ⊥
    go false e h c next = absurd (true≢false (sym h))
    go true e h (zero, lt, is) next = absurd (true≢false (sym e ∙ ap is_name_byte is ∙ never))
    go true e h (suc k, lt, is) next = next h (k, omega (arith, lt), is)

name-without : (bad : ℕ) (a : List ℕ) → is_name_byte bad ≡ false → begins_name bad ≡ false → IsName a → ¬ Contains a bad
name-without bad [] never first h c = absurd (true≢false (sym h))
name-without bad (b ∷ bs) never first h c = go (begins_name b) refl h c
  where
    go : (t : Bool) → begins_name b ≡ t → (t && list_all is_name_byte bs) ≡ true → Contains (b ∷ bs) bad → ⊥
    go false e h c = absurd (true≢false (sym h))
    go true e h (zero, lt, is) = absurd (true≢false (sym e ∙ ap begins_name is ∙ first))
    go true e h (suc k, lt, is) = without bad bs never h (k, omega (arith, lt), is)

-- a name has no dot
pub name-dotless : (a : List ℕ) → IsName a → ¬ Contains a 46
name-dotless a h c = name-without 46 a refl refl h c

-- a name has no colon
pub name-colonless : (a : List ℕ) → IsName a → ¬ Contains a 58
name-colonless a h c = name-without 58 a refl refl h c

-- ---- connections

abbrev pub AreNamesOfConnection : Option Connection → Type 0
AreNamesOfConnection None = Unit {0}
AreNamesOfConnection (Some Zeroed) = Unit {0}
AreNamesOfConnection (Some (ConnectedTo e)) = AreNamesOfTerm e

later-names : (first later : Option Connection) → AreNamesOfConnection first → AreNamesOfConnection later → AreNamesOfConnection (or_else first later)
later-names None later h k = k
later-names (Some Zeroed) later h k = tt
later-names (Some (ConnectedTo e)) later h k = h

connection-names : (name : List ℕ) (kind : StmtKind) → AreNamesOfKind kind → AreNamesOfConnection (connection_by name kind)
connection-names name (says.Wire n ty) h = tt
connection-names name (says.Node n value) h = tt
connection-names name (says.Register n ty clock reset) h = tt
connection-names name (says.Instance n m) h = tt
connection-names name (says.Memory n fields) h = tt
connection-names name (says.Connect sink source) h = go (bytes_eq name (written sink))
  where
    go : (b : Bool) → AreNamesOfConnection (if b then Some (ConnectedTo source) else None)
    go true = h.1
    go false = tt
connection-names name (says.Invalid sink) h = go (bytes_eq name (written sink))
  where
    go : (b : Bool) → AreNamesOfConnection (if b then Some Zeroed else None)
    go true = tt
    go false = tt
connection-names name says.Skip h = tt
connection-names name (says.Stop clock condition code label) h = tt
connection-names name (says.Report word arguments label) h = tt

-- if all names in statements are IsName, so are those in what a sink is connected to
pub connected-names : (ss : List Stmt) (name : List ℕ) → All AreNamesOfStatement ss → AreNamesOfConnection (connection_in ss name)
connected-names [] name h = tt
connected-names (s ∷ ss) name h =
    later-names (connection_by name s.kind) (connection_in ss name) (connection-names name s.kind (h 0 s (omega arith))) (connected-names ss name (λ i d lt. h (suc i) d (omega (arith, lt))))

-- if all names in modules are IsName, so are those in the statements of the module at a place
pub statements-named : (modules : List ModuleTree) (n : ℕ) → All AreNamesOfModule modules → All AreNamesOfStatement (get_or modules n (empty_module 0 [])).statements
statements-named [] n h = λ i d lt. absurd (omega (arith, lt))
statements-named (m ∷ ms) zero h = (h 0 m (omega arith)).of_statements
statements-named (m ∷ ms) (suc n) h = statements-named ms n (λ i d lt. h (suc i) d (omega (arith, lt)))

-- ---- causes

-- All names in what gives a signal its value are IsName; a reader's address and enable are signals of the module.
abbrev pub IsNamed : (List ℕ → Type 0) → Cause → Type 0
IsNamed Has FromOutside = ⊥
IsNamed Has Connected = Unit {0}
IsNamed Has (Expressed value) = AreNamesOfTerm value
IsNamed Has (Kept clock reset) = IfSome reset AreNamesOfReset
IsNamed Has (Answered memory port place latency) = Has (field_name memory port (codes "addr")) × Has (field_name memory port (codes "en"))

abbrev pub AreNamed : (List ℕ → Type 0) → List Own → Type 0
AreNamed Has all = (i : ℕ) (d : Own) → i < length all → IsNamed Has (get_or all i d).cause

pub named-append : (Has : List ℕ → Type 0) (xs ys : List Own) → AreNamed Has xs → AreNamed Has ys → AreNamed Has (xs ++ ys)
named-append Has [] ys h k i d lt = k i d lt
named-append Has (x ∷ xs) ys h k zero d lt = h 0 x (omega arith)
named-append Has (x ∷ xs) ys h k (suc i) d lt = named-append Has xs ys (λ j e inside. h (suc j) e (omega (arith, inside))) k i d (omega (arith, lt))

named-none : (Has : List ℕ → Type 0) → AreNamed Has []
named-none Has i d lt = absurd (omega (arith, lt))

named-one : (Has : List ℕ → Type 0) (name : List ℕ) (cause : Cause) (shape : Option Shape) → IsNamed Has cause → AreNamed Has (option_to_list (option_map (own name cause) shape))
named-one Has name cause None h i d lt = absurd (omega (arith, lt))
named-one Has name cause (Some s) h zero d lt = h
named-one Has name cause (Some s) h (suc i) d lt = absurd (omega (arith, lt))

-- each of these own signals has the name of a signal of the module
abbrev pub AreHad : (List ℕ → Type 0) → List Own → Type 0
AreHad Has all = (i : ℕ) (d : Own) → i < length all → Has (get_or all i d).name

readers-named : (Has : List ℕ → Type 0) (memory : List ℕ) (bank : Bank) (place : ℕ) (ports : List (List ℕ)) → AreHad Has (readers_signals memory bank place ports) → AreNamed Has (readers_signals memory bank place ports)
readers-named Has memory bank place [] had i d lt = absurd (omega (arith, lt))
readers-named Has memory bank place (p ∷ ps) had zero d lt = tt
readers-named Has memory bank place (p ∷ ps) had (suc zero) d lt = tt
readers-named Has memory bank place (p ∷ ps) had (suc (suc zero)) d lt = (had 0 d (omega arith), had 1 d (omega arith))
readers-named Has memory bank place (p ∷ ps) had (suc (suc (suc i))) d lt = readers-named Has memory bank (suc place) ps (λ j e inside. had (suc (suc (suc j))) e (omega (arith, inside))) i d (omega (arith, lt))

writers-named : (Has : List ℕ → Type 0) (memory : List ℕ) (bank : Bank) (ports : List (List ℕ)) → AreNamed Has (flat_map (writer_signals memory bank) ports)
writers-named Has memory bank [] i d lt = absurd (omega (arith, lt))
writers-named Has memory bank (p ∷ ps) zero d lt = tt
writers-named Has memory bank (p ∷ ps) (suc zero) d lt = tt
writers-named Has memory bank (p ∷ ps) (suc (suc zero)) d lt = tt
writers-named Has memory bank (p ∷ ps) (suc (suc (suc zero))) d lt = tt
writers-named Has memory bank (p ∷ ps) (suc (suc (suc (suc i)))) d lt = writers-named Has memory bank ps i d (omega (arith, lt))

memory-named : (Has : List ℕ → Type 0) (memory : List ℕ) (bank : Option Bank) → AreHad Has (memory_signals memory bank) → AreNamed Has (memory_signals memory bank)
memory-named Has memory None had = named-none Has
memory-named Has memory (Some bank) had =
    named-append Has (readers_signals memory bank 0 bank.readers) (flat_map (writer_signals memory bank) bank.writers)
    (readers-named Has memory bank 0 bank.readers (λ i d lt.
    subst (λ (o : Own). Has o.name) (front (readers_signals memory bank 0 bank.readers) (flat_map (writer_signals memory bank) bank.writers) i d lt)
    (had i d (omega (arith, lt, length-append (readers_signals memory bank 0 bank.readers) (flat_map (writer_signals memory bank) bank.writers))))))
    (writers-named Has memory bank bank.writers)

kind-named : (Has : List ℕ → Type 0) (types : Types) (k : ℕ) (kind : StmtKind) → AreNamesOfKind kind → AreHad Has (own_of_kind types k kind) → AreNamed Has (own_of_kind types k kind)
kind-named Has types k (says.Wire name ty) h had = named-one Has name Connected (type_shape ty) tt
kind-named Has types k (says.Node name value) h had = named-one Has name (Expressed value) (types k (reference.Local name)) h.1
kind-named Has types k (says.Register name ty clock reset) h had = named-one Has name (Kept clock reset) (type_shape ty) h.2
kind-named Has types k (says.Instance name m) h had = named-none Has
kind-named Has types k (says.Memory name fields) h had = memory-named Has name (bank_of fields) had
kind-named Has types k (says.Connect sink source) h had = named-none Has
kind-named Has types k (says.Invalid sink) h had = named-none Has
kind-named Has types k says.Skip h had = named-none Has
kind-named Has types k (says.Stop clock condition code label) h had = named-none Has
kind-named Has types k (says.Report word arguments label) h had = named-none Has

pub statements-cause : (Has : List ℕ → Type 0) (types : Types) (k : ℕ) (ss : List Stmt) → All AreNamesOfStatement ss → AreHad Has (flat_map (λ (s : Stmt). own_of_kind types k s.kind) ss) → AreNamed Has (flat_map (λ (s : Stmt). own_of_kind types k s.kind) ss)
statements-cause Has types k [] h had = named-none Has
statements-cause Has types k (s ∷ ss) h had =
    let sum = length-append (own_of_kind types k s.kind) (flat_map (λ (s : Stmt). own_of_kind types k s.kind) ss) in
    named-append Has (own_of_kind types k s.kind) (flat_map (λ (s : Stmt). own_of_kind types k s.kind) ss)
    (kind-named Has types k s.kind (h 0 s (omega arith)) (λ i d lt.
    subst (λ (o : Own). Has o.name) (front (own_of_kind types k s.kind) (flat_map (λ (s : Stmt). own_of_kind types k s.kind) ss) i d lt) (had i d (omega (arith, lt, sum)))))
    (statements-cause Has types k ss (λ i d lt. h (suc i) d (omega (arith, lt))) (λ i d lt.
    subst (λ (o : Own). Has o.name) (get_or-append-add (own_of_kind types k s.kind) (flat_map (λ (s : Stmt). own_of_kind types k s.kind) ss) i d) (had (length (own_of_kind types k s.kind) + i) d (omega (arith, lt, sum)))))

-- ---- ports

ports-cause : (ports : List Port) → map (λ (o : Own). o.cause) (filter_map own_of_port ports) ≡ map (λ (p : Port). cause_of_port p.direction) (filter (λ (port : Port). is_some (type_shape port.ty)) ports)
ports-cause [] = refl
ports-cause (p ∷ ps) = go (type_shape p.ty) refl (ports-cause ps)
  where
    go : (o : Option Shape) → type_shape p.ty ≡ o → map (λ (o : Own). o.cause) (filter_map own_of_port ps) ≡ map (λ (p : Port). cause_of_port p.direction) (filter (λ (port : Port). is_some (type_shape port.ty)) ps) → map (λ (o : Own). o.cause) (filter_map own_of_port (p ∷ ps)) ≡ map (λ (p : Port). cause_of_port p.direction) (filter (λ (port : Port). is_some (type_shape port.ty)) (p ∷ ps))
    go None e rest = rw e rest
    go (Some s) e rest = rw e (ap (λ l. cause_of_port p.direction ∷ l) rest)

-- the port at a place, among the ports that are signals, gets its value as its direction says
pub port-cause : (ports : List Port) (i : ℕ) (d : Own) (p : Port) → i < length (filter (λ (port : Port). is_some (type_shape port.ty)) ports) → (i < length (filter_map own_of_port ports)) × ((get_or (filter_map own_of_port ports) i d).cause ≡ cause_of_port (get_or (filter (λ (port : Port). is_some (type_shape port.ty)) ports) i p).direction)
port-cause ports i d p lt =
    let same = ap (λ (l : List Cause). length l) (ports-cause ports) in
    let inside : i < length (filter_map own_of_port ports) = omega (arith, lt, same, length-map (filter_map own_of_port ports) (λ (o : Own). o.cause), length-map (filter (λ (port : Port). is_some (type_shape port.ty)) ports) (λ (q : Port). cause_of_port q.direction)) in (
      inside,
      sym (get_or-map (λ (o : Own). o.cause) (filter_map own_of_port ports) i d FromOutside inside)
          ∙ ap (λ (l : List Cause). get_or l i FromOutside) (ports-cause ports)
          ∙ get_or-map (λ (q : Port). cause_of_port q.direction) (filter (λ (port : Port). is_some (type_shape port.ty)) ports) i p FromOutside lt,
    )

pub port-count : (ports : List Port) → length (filter_map own_of_port ports) ≡ length (filter (λ (port : Port). is_some (type_shape port.ty)) ports)
port-count ports =
    sym (length-map (filter_map own_of_port ports) (λ (o : Own). o.cause))
    ∙ ap (λ (l : List Cause). length l) (ports-cause ports)
    ∙ length-map (filter (λ (port : Port). is_some (type_shape port.ty)) ports) (λ (q : Port). cause_of_port q.direction)
