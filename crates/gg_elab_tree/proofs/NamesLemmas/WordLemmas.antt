-- The names of ports and instances, of memories and their ports, and of all own signals but the fields of memories, are names as
-- the language allows them (IsName), without dots.
use Rattle.std.proofs.Common.{◌≡◌, ◌⊎◌, inl, inr, ℕ, zero, suc, ◌-◌, ◌<◌, ◌≤◌, Bool, true, false, List, [], ◌∷◌, ◌++◌, Option, Some, None, length, get_or, refl, sym, ap, subst, arith, length-append, if◌then◌else◌, nat_lt}
use Rattle.std.specs.Prelude.{flat_map, Contains, All, option_map, option_to_list, option_and_then, unwrap_or}
use Rattle.std.specs.List.{cons_option}
use Rattle.std.proofs.lemmas.Bool.{cases_lt}
use Rattle.std.proofs.lemmas.List.Elements.{Contains-append_cases, Contains-append_right, All-contains}
use Rattle.std.proofs.Math.Seq.{get_or-append_right}
use Rattle.std.proofs.lemmas.List.{get_or_default}
use Rattle.gg_bits.specs.Shape.{Shape}
use Rattle.gg_ast.specs.Names.{IsName}
use Rattle.gg_ast.specs.inside.Names.{IsPortNamed, AreNamesOfKind, AreNamesOfField, AreNamesOfMemoryField, AreNamesOfStatement, AreNamesOfModule}
use Rattle.gg_ast.specs.declared.expression.Reference.TheVariants as reference
use Rattle.gg_ast.specs.declared.statement.Field.{Field}
use Rattle.gg_ast.specs.declared.statement.MemoryField.{MemoryField}
use Rattle.gg_ast.specs.declared.statement.MemoryField.TheVariants as field
use Rattle.gg_ast.specs.declared.statement.Stmt.{Stmt}
use Rattle.gg_ast.specs.declared.statement.StmtKind.{StmtKind}
use Rattle.gg_ast.specs.declared.statement.StmtKind.TheVariants as says
use Rattle.gg_ast.specs.Places.{place_of}
use Rattle.gg_ast.specs.Tree.{ModuleTree, empty_module, names_of}
use Rattle.gg_flat.specs.declared.memory.Latency.{Latency}
use Rattle.gg_flat.specs.declared.memory.UnderWrite.TheVariants.{Undefined}
use Rattle.gg_shape_names.specs.Namespace.{name_by, name_by_kind}
use Rattle.gg_elab_sites.specs.Sites.{Held, held, held_by, held_by_kind}
use Rattle.gg_types.specs.Memories.{Bank, bank_of, bank_with, readers_said, writers_said, type_shape, first_said, type_said, depth_said, latency_said, under_said, latency_of}
use Rattle.gg_elab_sites.specs.Signals.{Types, Cause, Connected, Expressed, Kept, Own, own, OwnBank, own_bank, own_banks, bank_of_kind, own_of_kind, memory_signals}
use Rattle.gg_elab_tree.proofs.ElementLemmas.{value_or}
use Rattle.gg_elab_tree.proofs.NamesLemmas.CauseLemmas.{name-dotless}
use Rattle.gg_elab_tree.proofs.NamesLemmas.DeclaredLemmas.{made-by}
use Rattle.gg_elab_tree.proofs.FieldLemmas.{FieldPlace}
use Rattle.gg_elab_tree.proofs.OwnLemmas.{front}

-- the ports of the module at a place have such names
pub ports-named : (modules : List ModuleTree) (n : ℕ) → All AreNamesOfModule modules → All IsPortNamed (get_or modules n (empty_module 0 [])).ports
ports-named [] n h = λ i d lt. absurd (omega (arith, lt))
ports-named (m ∷ ms) zero h = (h 0 m (omega arith)).of_ports
ports-named (m ∷ ms) (suc n) h = ports-named ms n (λ i d lt. h (suc i) d (omega (arith, lt)))

held-name : (modules : List ModuleTree) (kind : StmtKind) (h : Held) → held_by_kind modules kind ≡ Some h → AreNamesOfKind kind → IsName h.name
held-name modules (says.Wire name ty) h e n = absurd (cc)
held-name modules (says.Node name value) h e n = absurd (cc)
held-name modules (says.Register name ty clock reset) h e n = absurd (cc)
held-name modules (says.Instance name m) h e n = go (place_of m (names_of modules)) e
  where
    go : (o : Option ℕ) → option_map (held name) o ≡ Some h → IsName h.name
    go None e = absurd (cc)
    go (Some k) e = subst (λ (x : Held). IsName x.name) (ap (value_or h) e) n.0
held-name modules (says.Memory name fields) h e n = absurd (cc)
held-name modules (says.Connect sink source) h e n = absurd (cc)
held-name modules (says.Invalid sink) h e n = absurd (cc)
held-name modules says.Skip h e n = absurd (cc)
held-name modules (says.Stop clock condition code label) h e n = absurd (cc)
held-name modules (says.Report word arguments label) h e n = absurd (cc)

-- an instance has such a name
pub held-word : (modules : List ModuleTree) (ss : List Stmt) (h : Held) → All AreNamesOfStatement ss → Contains (held_by modules ss) h → IsName h.name
held-word modules ss h n c =
    let m = made-by (held_by_kind modules) ss h c in
    held-name modules m.statement.kind h m.makes (All-contains AreNamesOfStatement ss m.statement n (m.place, m.inside, m.at))

-- ---- memories

readers-words : (fields : List Field) (p : List ℕ) → All AreNamesOfField fields → Contains (flat_map (λ (f : Field). readers_said f.kind) fields) p → IsName p
readers-words [] p h c = absurd (omega (arith, c.1))
readers-words (f ∷ fs) p h c = go (Contains-append_cases (readers_said f.kind) (flat_map (λ (f : Field). readers_said f.kind) fs) p c) (readers-words fs p (λ i d lt. h (suc i) d (omega (arith, lt))))
  where
    here : (kind : MemoryField) → AreNamesOfMemoryField kind → Contains (readers_said kind) p → IsName p
    here (field.DataType ty) n c = absurd (omega (arith, c.1))
    here (field.Depth k) n c = absurd (omega (arith, c.1))
    here (field.ReadLatency k) n c = absurd (omega (arith, c.1))
    here (field.WriteLatency k) n c = absurd (omega (arith, c.1))
    here (field.Readers names) n c = All-contains IsName names p n c
    here (field.Writers names) n c = absurd (omega (arith, c.1))
    here (field.ReadUnderWrite word) n c = absurd (omega (arith, c.1))

    go : Contains (readers_said f.kind) p ⊎ Contains (flat_map (λ (f : Field). readers_said f.kind) fs) p → (Contains (flat_map (λ (f : Field). readers_said f.kind) fs) p → IsName p) → IsName p
    go (inl c) next = here f.kind (h 0 f (omega arith)) c
    go (inr c) next = next c

writers-words : (fields : List Field) (p : List ℕ) → All AreNamesOfField fields → Contains (flat_map (λ (f : Field). writers_said f.kind) fields) p → IsName p
writers-words [] p h c = absurd (omega (arith, c.1))
writers-words (f ∷ fs) p h c = go (Contains-append_cases (writers_said f.kind) (flat_map (λ (f : Field). writers_said f.kind) fs) p c) (writers-words fs p (λ i d lt. h (suc i) d (omega (arith, lt))))
  where
    here : (kind : MemoryField) → AreNamesOfMemoryField kind → Contains (writers_said kind) p → IsName p
    here (field.DataType ty) n c = absurd (omega (arith, c.1))
    here (field.Depth k) n c = absurd (omega (arith, c.1))
    here (field.ReadLatency k) n c = absurd (omega (arith, c.1))
    here (field.WriteLatency k) n c = absurd (omega (arith, c.1))
    here (field.Readers names) n c = absurd (omega (arith, c.1))
    here (field.Writers names) n c = All-contains IsName names p n c
    here (field.ReadUnderWrite word) n c = absurd (omega (arith, c.1))

    go : Contains (writers_said f.kind) p ⊎ Contains (flat_map (λ (f : Field). writers_said f.kind) fs) p → (Contains (flat_map (λ (f : Field). writers_said f.kind) fs) p → IsName p) → IsName p
    go (inl c) next = here f.kind (h 0 f (omega arith)) c
    go (inr c) next = next c

abbrev none_bank : Option Bank → Bank → Bank
none_bank None b = b
none_bank (Some x) b = x

-- a memory has the readers and writers that its fields say
pub bank-ports : (word : Option Shape) (depth : ℕ) (latency : Option Latency) (readers writers : List (List ℕ)) (bank : Bank) → bank_with word depth latency readers writers ≡ Some bank → (bank.readers ≡ readers) × (bank.writers ≡ writers)
bank-ports None depth latency readers writers bank e = absurd (cc)
bank-ports (Some word) depth None readers writers bank e = absurd (cc)
bank-ports (Some word) depth (Some latency) readers writers bank e = go (nat_lt 0 depth) e
  where
    go : (b : Bool) → (if b then Some (record { word = word; depth = depth; latency = latency; readers = readers; writers = writers }) else None) ≡ Some bank → (bank.readers ≡ readers) × (bank.writers ≡ writers)
    go true e = (ap (λ (x : Bank). x.readers) (sym (ap (λ o. none_bank o bank) e)), ap (λ (x : Bank). x.writers) (sym (ap (λ o. none_bank o bank) e)))
    go false e = absurd (cc)

-- A memory and its ports have such names.
pub record BankWords (b : OwnBank) : Type 0 where
  pub name : IsName b.name
  pub readers : (p : List ℕ) → Contains b.bank.readers p → IsName p
  pub writers : (p : List ℕ) → Contains b.bank.writers p → IsName p

bank-words : (kind : StmtKind) (b : OwnBank) → bank_of_kind kind ≡ Some b → AreNamesOfKind kind → BankWords b
bank-words (says.Wire name ty) b e n = absurd (cc)
bank-words (says.Node name value) b e n = absurd (cc)
bank-words (says.Register name ty clock reset) b e n = absurd (cc)
bank-words (says.Instance name m) b e n = absurd (cc)
bank-words (says.Memory name fields) b e n = go (bank_of fields) refl e
  where
    go : (o : Option Bank) → bank_of fields ≡ o → option_map (own_bank name) o ≡ Some b → BankWords b
    go None is e = absurd (cc)
    go (Some bank) is e =
        let ports = bank-ports (option_and_then type_shape (first_said type_said fields)) (unwrap_or (first_said depth_said fields) 0) (option_and_then (latency_of (unwrap_or (first_said under_said fields) Undefined)) (first_said latency_said fields)) (flat_map (λ (f : Field). readers_said f.kind) fields) (flat_map (λ (f : Field). writers_said f.kind) fields) bank is in
        subst BankWords (ap (value_or b) e) (record {
          name = n.0;
          readers = λ p c. readers-words fields p n.1 (subst (λ l. Contains l p) ports.0 c);
          writers = λ p c. writers-words fields p n.1 (subst (λ l. Contains l p) ports.1 c);
        })
bank-words (says.Connect sink source) b e n = absurd (cc)
bank-words (says.Invalid sink) b e n = absurd (cc)
bank-words says.Skip b e n = absurd (cc)
bank-words (says.Stop clock condition code label) b e n = absurd (cc)
bank-words (says.Report word arguments label) b e n = absurd (cc)

pub bank-word : (ss : List Stmt) (b : OwnBank) → All AreNamesOfStatement ss → Contains (own_banks ss) b → BankWords b
bank-word ss b n c =
    let m = made-by bank_of_kind ss b c in
    bank-words m.statement.kind b m.makes (All-contains AreNamesOfStatement ss m.statement n (m.place, m.inside, m.at))

-- ---- the signals of statements

-- The signal has the name that the statement declares, without a dot.
pub record IsDeclared (kind : StmtKind) (o : Own) : Type 0 where
  pub by : name_by_kind kind ≡ o.name ∷ []
  pub dotless : ¬ Contains o.name 46

-- The signal is a field of the memory that the statement declares.
pub record IsFieldBy (kind : StmtKind) (o : Own) : Type 0 where
  pub bank : OwnBank
  pub by : bank_of_kind kind ≡ Some bank
  pub among : Contains (memory_signals bank.name (Some bank.bank)) o

one-kind : (kind : StmtKind) (name : List ℕ) (cause : Cause) (shape : Option Shape) → name_by_kind kind ≡ name ∷ [] → IsName name → (i : ℕ) (d : Own) → i < length (option_to_list (option_map (own name cause) shape)) → IsDeclared kind (get_or (option_to_list (option_map (own name cause) shape)) i d) ⊎ IsFieldBy kind (get_or (option_to_list (option_map (own name cause) shape)) i d)
one-kind kind name cause None by n i d lt = absurd (omega (arith, lt))
one-kind kind name cause (Some s) by n zero d lt = inl (record { by = by; dotless = name-dotless name n })
one-kind kind name cause (Some s) by n (suc i) d lt = absurd (omega (arith, lt))

kind-own : (types : Types) (k : ℕ) (kind : StmtKind) (i : ℕ) (d : Own) → i < length (own_of_kind types k kind) → AreNamesOfKind kind → IsDeclared kind (get_or (own_of_kind types k kind) i d) ⊎ IsFieldBy kind (get_or (own_of_kind types k kind) i d)
kind-own types k (says.Wire name ty) i d lt n = one-kind (says.Wire name ty) name Connected (type_shape ty) refl n i d lt
kind-own types k (says.Node name value) i d lt n = one-kind (says.Node name value) name (Expressed value) (types k (reference.Local name)) refl n.0 i d lt
kind-own types k (says.Register name ty clock reset) i d lt n = one-kind (says.Register name ty clock reset) name (Kept clock reset) (type_shape ty) refl n.0 i d lt
kind-own types k (says.Instance name m) i d lt n = absurd (omega (arith, lt))
kind-own types k (says.Memory name fields) i d lt n = go (bank_of fields) refl lt
  where
    go : (o : Option Bank) → bank_of fields ≡ o → i < length (memory_signals name o) → IsDeclared (says.Memory name fields) (get_or (memory_signals name o) i d) ⊎ IsFieldBy (says.Memory name fields) (get_or (memory_signals name o) i d)
    go None e lt = absurd (omega (arith, lt))
    go (Some bank) e lt = inr (record { bank = own_bank name bank; by = ap (option_map (own_bank name)) e; among = (i, lt, get_or_default (memory_signals name (Some bank)) i (get_or (memory_signals name (Some bank)) i d) d lt) })
kind-own types k (says.Connect sink source) i d lt n = absurd (omega (arith, lt))
kind-own types k (says.Invalid sink) i d lt n = absurd (omega (arith, lt))
kind-own types k says.Skip i d lt n = absurd (omega (arith, lt))
kind-own types k (says.Stop clock condition code label) i d lt n = absurd (omega (arith, lt))
kind-own types k (says.Report word arguments label) i d lt n = absurd (omega (arith, lt))

-- The signal has a name that one of the statements declares, without a dot.
pub record DeclaredIn (ss : List Stmt) (o : Own) : Type 0 where
  pub among : Contains (flat_map name_by ss) o.name
  pub dotless : ¬ Contains o.name 46

first-bank : (kind : StmtKind) (ss : List Stmt) (b : OwnBank) → bank_of_kind kind ≡ Some b → (0 < length (cons_option (bank_of_kind kind) (own_banks ss))) × ((d : OwnBank) → get_or (cons_option (bank_of_kind kind) (own_banks ss)) 0 d ≡ b)
first-bank kind ss b e = rw e (omega arith, λ d. refl)

later-bank : (o : Option OwnBank) (ss : List Stmt) (q : ℕ) (b : OwnBank) → q < length (own_banks ss) → ((d : OwnBank) → get_or (own_banks ss) q d ≡ b) → (r : ℕ) × (r < length (cons_option o (own_banks ss))) × ((d : OwnBank) → get_or (cons_option o (own_banks ss)) r d ≡ b)
later-bank None ss q b lt is = (q, lt, is)
later-bank (Some x) ss q b lt is = (suc q, omega (arith, lt), is)

-- each own signal of statements has the name of one of them, or is a field of the memory of one
pub statement-own : (types : Types) (k : ℕ) (ss : List Stmt) (i : ℕ) (d : Own) → All AreNamesOfStatement ss → i < length (flat_map (λ (s : Stmt). own_of_kind types k s.kind) ss) → DeclaredIn ss (get_or (flat_map (λ (s : Stmt). own_of_kind types k s.kind) ss) i d) ⊎ FieldPlace ss (get_or (flat_map (λ (s : Stmt). own_of_kind types k s.kind) ss) i d)
statement-own types k [] i d n lt = absurd (omega (arith, lt))
statement-own types k (s ∷ ss) i d n lt = go (cases_lt i (length (own_of_kind types k s.kind))) (statement-own types k ss (i - length (own_of_kind types k s.kind)) d (λ j e inside. n (suc j) e (omega (arith, inside))))
  where
    here : (o : Own) → IsDeclared s.kind o ⊎ IsFieldBy s.kind o → DeclaredIn (s ∷ ss) o ⊎ FieldPlace (s ∷ ss) o
    here o (inl x) = inl (record { among = subst (λ l. Contains (l ++ flat_map name_by ss) o.name) (sym x.by) (0, omega arith, refl); dotless = x.dotless })
    here o (inr x) = let f = first-bank s.kind ss x.bank x.by in inr (record { place = 0; bank = x.bank; known = f.0; is = f.1; among = x.among })

    there : (o : Own) → DeclaredIn ss o ⊎ FieldPlace ss o → DeclaredIn (s ∷ ss) o ⊎ FieldPlace (s ∷ ss) o
    there o (inl x) = inl (record { among = Contains-append_right (name_by s) (flat_map name_by ss) o.name x.among; dotless = x.dotless })
    there o (inr x) = let f = later-bank (bank_of_kind s.kind) ss x.place x.bank x.known x.is in inr (record { place = f.0; bank = x.bank; known = f.1; is = f.2; among = x.among })

    go : (i < length (own_of_kind types k s.kind)) ⊎ (length (own_of_kind types k s.kind) ≤ i) → (i - length (own_of_kind types k s.kind) < length (flat_map (λ (s : Stmt). own_of_kind types k s.kind) ss) → DeclaredIn ss (get_or (flat_map (λ (s : Stmt). own_of_kind types k s.kind) ss) (i - length (own_of_kind types k s.kind)) d) ⊎ FieldPlace ss (get_or (flat_map (λ (s : Stmt). own_of_kind types k s.kind) ss) (i - length (own_of_kind types k s.kind)) d)) → DeclaredIn (s ∷ ss) (get_or (own_of_kind types k s.kind ++ flat_map (λ (s : Stmt). own_of_kind types k s.kind) ss) i d) ⊎ FieldPlace (s ∷ ss) (get_or (own_of_kind types k s.kind ++ flat_map (λ (s : Stmt). own_of_kind types k s.kind) ss) i d)
    go (inl inside) next =
        subst (λ o. DeclaredIn (s ∷ ss) o ⊎ FieldPlace (s ∷ ss) o) (sym (front (own_of_kind types k s.kind) (flat_map (λ (s : Stmt). own_of_kind types k s.kind) ss) i d inside))
        (here (get_or (own_of_kind types k s.kind) i d) (kind-own types k s.kind i d inside (n 0 s (omega arith))))
    go (inr behind) next =
        subst (λ o. DeclaredIn (s ∷ ss) o ⊎ FieldPlace (s ∷ ss) o) (sym (get_or-append_right (own_of_kind types k s.kind) (flat_map (λ (s : Stmt). own_of_kind types k s.kind) ss) i d behind))
        (there (get_or (flat_map (λ (s : Stmt). own_of_kind types k s.kind) ss) (i - length (own_of_kind types k s.kind)) d)
        (next (omega (arith, lt, behind, length-append (own_of_kind types k s.kind) (flat_map (λ (s : Stmt). own_of_kind types k s.kind) ss)))))
