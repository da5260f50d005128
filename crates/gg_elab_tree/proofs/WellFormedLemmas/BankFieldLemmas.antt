-- The fields of a memory's ports are signals of its module, and a signal that a reader answers is the reader's data.
use Rattle.std.proofs.Common.{◌≡◌, ◌⊎◌, inl, inr, ℕ, zero, suc, ◌+◌, ◌<◌, Bool, true, false, List, [], ◌∷◌, ◌++◌, Option, Some, None, length, get_or, map, refl, sym, ap, ◌∙◌, subst, arith, codes, if◌then◌else◌, nat_lt}
use Rattle.std.specs.Prelude.{Contains, flat_map, filter_map, option_map, option_to_list, option_and_then, unwrap_or}
use Rattle.std.proofs.lemmas.Bool.{ltb-true}
use Rattle.std.proofs.lemmas.List.Elements.{Contains-append_left, Contains-append_right, Contains-append_cases}
use Rattle.gg_bits.specs.Shape.{Shape}
use Rattle.gg_ast.specs.declared.expression.Reference.TheVariants as reference
use Rattle.gg_ast.specs.declared.module.Direction.{Direction}
use Rattle.gg_ast.specs.declared.module.Direction.TheVariants.{Input, Output}
use Rattle.gg_ast.specs.declared.module.Port.{Port}
use Rattle.gg_ast.specs.declared.statement.Field.{Field}
use Rattle.gg_ast.specs.declared.statement.Stmt.{Stmt}
use Rattle.gg_ast.specs.declared.statement.StmtKind.{StmtKind}
use Rattle.gg_ast.specs.declared.statement.StmtKind.TheVariants as says
use Rattle.gg_ast.specs.Tree.{ModuleTree}
use Rattle.gg_flat.specs.declared.memory.Latency.{Latency}
use Rattle.gg_flat.specs.declared.memory.UnderWrite.TheVariants.{Undefined}
use Rattle.gg_types.specs.Memories.{Bank, bank_of, bank_with, type_shape, first_said, type_said, depth_said, latency_said, under_said, latency_of, readers_said, writers_said}
use Rattle.gg_elab_sites.specs.Signals.{Types, Cause, FromOutside, Connected, Expressed, Kept, Answered, Own, own, own_of_port, cause_of_port, own_of_kind, own_signals, own_stops, statement_signals, stop_signal, OwnBank, own_bank, own_banks, bank_of_kind, memory_signals, reader_signals, readers_signals, writer_signals, field_name}
use Rattle.gg_elab_sites.proofs.AmongLemmas.{from-map, in-flat_map, from-flat_map, in-filter_map, from-filter_map}
use Rattle.gg_elab_tree.proofs.NamesLemmas.DeclaredLemmas.{made-by}
use Rattle.gg_elab_tree.proofs.FieldLemmas.{bank-together}

-- ---- the fields of a memory are signals of its module

pub bank-signal : (types : Types) (k : ℕ) (m : ModuleTree) (b : OwnBank) (o : Own) → Contains (own_banks m.statements) b → Contains (memory_signals b.name (Some b.bank)) o → Contains (own_signals types k m) o
bank-signal types k m b o c has =
    let t = bank-together types k m.statements c.0 b c.1 c.2 in
    Contains-append_right (filter_map own_of_port m.ports) (statement_signals types k m.statements) o
    (Contains-append_left (flat_map (λ (s : Stmt). own_of_kind types k s.kind) m.statements) (map stop_signal (own_stops m.statements)) o
    (subst (λ l. Contains l o) (sym t.is)
    (Contains-append_right t.before (memory_signals b.name (Some b.bank) ++ t.after) o (Contains-append_left (memory_signals b.name (Some b.bank)) t.after o has))))

among-readers : (memory : List ℕ) (bank : Bank) (place : ℕ) (ports : List (List ℕ)) (r : ℕ) (p : List ℕ) (o : Own) → r < length ports → get_or ports r p ≡ p → Contains (reader_signals memory bank (place + r) p) o → Contains (readers_signals memory bank place ports) o
among-readers memory bank place [] r p o lt is has = absurd (omega (arith, lt))
among-readers memory bank place (q ∷ ports) zero p o lt is has =
    let same : place + 0 ≡ place = omega arith in
    Contains-append_left (reader_signals memory bank place q) (readers_signals memory bank (suc place) ports) o
    (subst (λ i. Contains (reader_signals memory bank i q) o) same (subst (λ x. Contains (reader_signals memory bank (place + 0) x) o) (sym is) has))
among-readers memory bank place (q ∷ ports) (suc r) p o lt is has =
    let same : place + suc r ≡ suc place + r = omega arith in
    Contains-append_right (reader_signals memory bank place q) (readers_signals memory bank (suc place) ports) o
    (among-readers memory bank (suc place) ports r p o (omega (arith, lt)) is (subst (λ i. Contains (reader_signals memory bank i p) o) same has))

-- the fields of the reader at a place are signals of the memory
pub reader-among : (memory : List ℕ) (bank : Bank) (r : ℕ) (p : List ℕ) (o : Own) → r < length bank.readers → get_or bank.readers r p ≡ p → Contains (reader_signals memory bank r p) o → Contains (memory_signals memory (Some bank)) o
reader-among memory bank r p o lt is has =
    let same : r ≡ 0 + r = omega arith in
    Contains-append_left (readers_signals memory bank 0 bank.readers) (flat_map (writer_signals memory bank) bank.writers) o
    (among-readers memory bank 0 bank.readers r p o lt is (subst (λ i. Contains (reader_signals memory bank i p) o) same has))

-- the fields of a writer are signals of the memory
pub writer-among : (memory : List ℕ) (bank : Bank) (p : List ℕ) (o : Own) → Contains bank.writers p → Contains (writer_signals memory bank p) o → Contains (memory_signals memory (Some bank)) o
writer-among memory bank p o c has =
    Contains-append_right (readers_signals memory bank 0 bank.readers) (flat_map (writer_signals memory bank) bank.writers) o
    (in-flat_map (writer_signals memory bank) bank.writers p o c has)

-- ---- a memory has a word

abbrev depth_in : Option Bank → ℕ
depth_in None = 0
depth_in (Some b) = b.depth

some-depth : (word : Option Shape) (depth : ℕ) (latency : Option Latency) (readers writers : List (List ℕ)) (bank : Bank) → bank_with word depth latency readers writers ≡ Some bank → 0 < bank.depth
some-depth None depth latency readers writers bank e = absurd (cc)
some-depth (Some word) depth None readers writers bank e = absurd (cc)
some-depth (Some word) depth (Some latency) readers writers bank e = go (nat_lt 0 depth) refl e
  where
    go : (b : Bool) → nat_lt 0 depth ≡ b → (if b then Some (record { word = word; depth = depth; latency = latency; readers = readers; writers = writers }) else None) ≡ Some bank → 0 < bank.depth
    go true is e =
        let same : depth ≡ bank.depth = ap depth_in e in
        let some : 0 < depth = ltb-true 0 depth is in
        omega (arith, same, some)
    go false is e = absurd (cc)

abbrev pub bank_or : OwnBank → Option OwnBank → OwnBank
bank_or b None = b
bank_or b (Some x) = x

kind-depth : (kind : StmtKind) (b : OwnBank) → bank_of_kind kind ≡ Some b → 0 < b.bank.depth
kind-depth (says.Wire name ty) b e = absurd (cc)
kind-depth (says.Node name value) b e = absurd (cc)
kind-depth (says.Register name ty clock reset) b e = absurd (cc)
kind-depth (says.Instance name m) b e = absurd (cc)
kind-depth (says.Memory name fields) b e = go (bank_of fields) refl e
  where
    go : (o : Option Bank) → bank_of fields ≡ o → option_map (own_bank name) o ≡ Some b → 0 < b.bank.depth
    go None is e = absurd (cc)
    go (Some bank) is e =
        subst (λ (x : OwnBank). 0 < x.bank.depth) (ap (bank_or b) e)
        (some-depth (option_and_then type_shape (first_said type_said fields)) (unwrap_or (first_said depth_said fields) 0) (option_and_then (latency_of (unwrap_or (first_said under_said fields) Undefined)) (first_said latency_said fields)) (flat_map (λ (f : Field). readers_said f.kind) fields) (flat_map (λ (f : Field). writers_said f.kind) fields) bank is)
kind-depth (says.Connect sink source) b e = absurd (cc)
kind-depth (says.Invalid sink) b e = absurd (cc)
kind-depth says.Skip b e = absurd (cc)
kind-depth (says.Stop clock condition code label) b e = absurd (cc)
kind-depth (says.Report word arguments label) b e = absurd (cc)

pub bank-depth : (ss : List Stmt) (b : OwnBank) → Contains (own_banks ss) b → 0 < b.bank.depth
bank-depth ss b c = let m = made-by bank_of_kind ss b c in kind-depth m.statement.kind b m.makes

-- ---- what a reader answers is its data

-- A signal is the data of the reader at this place of a memory.
pub record IsAnswerOf (memory : List ℕ) (bank : Bank) (place : ℕ) (latency : Latency) (o : Own) : Type 0 where
  pub port : List ℕ
  pub inside : place < length bank.readers
  pub at : (d : List ℕ) → get_or bank.readers place d ≡ port
  pub late : latency ≡ bank.latency
  pub name : o.name ≡ field_name memory port (codes "data")

abbrev is_answered : Cause → Bool
is_answered FromOutside = false
is_answered Connected = false
is_answered (Expressed value) = false
is_answered (Kept clock reset) = false
is_answered (Answered memory port place latency) = true

abbrev memory_answering : List ℕ → Cause → List ℕ
memory_answering d FromOutside = d
memory_answering d Connected = d
memory_answering d (Expressed value) = d
memory_answering d (Kept clock reset) = d
memory_answering d (Answered memory port place latency) = memory

abbrev place_answering : ℕ → Cause → ℕ
place_answering d FromOutside = d
place_answering d Connected = d
place_answering d (Expressed value) = d
place_answering d (Kept clock reset) = d
place_answering d (Answered memory port place latency) = place

abbrev latency_answering : Latency → Cause → Latency
latency_answering d FromOutside = d
latency_answering d Connected = d
latency_answering d (Expressed value) = d
latency_answering d (Kept clock reset) = d
latency_answering d (Answered memory port place latency) = latency

no-answer : (cause : Cause) (memory port : List ℕ) (place : ℕ) (latency : Latency) → is_answered cause ≡ false → cause ≡ Answered memory port place latency → ⊥
no-answer cause memory port place latency none e = let never : true ≡ false = sym (ap is_answered e) ∙ none in absurd (cc)

-- A signal is the data of the reader at this place of the memory of this name.
pub record AnsweredBy (memory : List ℕ) (name : List ℕ) (bank : Bank) (place : ℕ) (latency : Latency) (o : Own) : Type 0 where
  pub is : memory ≡ name
  pub data_of : IsAnswerOf name bank place latency o

readers-answer : (memory : List ℕ) (bank : Bank) (from : ℕ) (ports : List (List ℕ)) (o : Own) (said port : List ℕ) (place : ℕ) (latency : Latency) → ((i : ℕ) (d : List ℕ) → i < length ports → (from + i < length bank.readers) × (get_or bank.readers (from + i) d ≡ get_or ports i d)) → Contains (readers_signals memory bank from ports) o → o.cause ≡ Answered said port place latency → AnsweredBy said memory bank place latency o
readers-answer memory bank from [] o said port place latency of c e = absurd (omega (arith, c.1))
readers-answer memory bank from (p ∷ ps) o said port place latency of (zero, lt, is) e =
    absurd (no-answer Connected said port place latency refl (ap (λ (x : Own). x.cause) is ∙ e))
readers-answer memory bank from (p ∷ ps) o said port place latency of (suc zero, lt, is) e =
    absurd (no-answer Connected said port place latency refl (ap (λ (x : Own). x.cause) is ∙ e))
readers-answer memory bank from (p ∷ ps) o said port place latency of (suc (suc zero), lt, is) e =
    let cause : Answered memory p from bank.latency ≡ Answered said port place latency = ap (λ (x : Own). x.cause) is ∙ e in
    let there : place ≡ from + 0 = sym (ap (place_answering 0) cause) ∙ omega arith in
    let first = of 0 p (omega arith) in
    record {
      is = sym (ap (memory_answering said) cause);
      data_of = record {
        port = p;
        inside = omega (arith, there, first.0);
        at = λ d. ap (λ i. get_or bank.readers i d) there ∙ (of 0 d (omega arith)).1;
        late = sym (ap (latency_answering latency) cause);
        name = sym (ap (λ (x : Own). x.name) is);
      };
    }
readers-answer memory bank from (p ∷ ps) o said port place latency of (suc (suc (suc i)), lt, is) e =
    readers-answer memory bank (suc from) ps o said port place latency (λ j d below.
    let same : from + suc j ≡ suc from + j = omega arith in
    let next = of (suc j) d (omega (arith, below)) in
    (omega (arith, next.0), ap (λ k. get_or bank.readers k d) (sym same) ∙ next.1)) (i, omega (arith, lt), is) e

writer-no-answer : (memory : List ℕ) (bank : Bank) (p : List ℕ) (o : Own) → Contains (writer_signals memory bank p) o → is_answered o.cause ≡ false
writer-no-answer memory bank p o (zero, lt, is) = ap (λ (x : Own). is_answered x.cause) (sym is)
writer-no-answer memory bank p o (suc zero, lt, is) = ap (λ (x : Own). is_answered x.cause) (sym is)
writer-no-answer memory bank p o (suc (suc zero), lt, is) = ap (λ (x : Own). is_answered x.cause) (sym is)
writer-no-answer memory bank p o (suc (suc (suc zero)), lt, is) = ap (λ (x : Own). is_answered x.cause) (sym is)
writer-no-answer memory bank p o (suc (suc (suc (suc i))), lt, is) = absurd (omega (arith, lt))

memory-answer : (memory : List ℕ) (bank : Bank) (o : Own) (said port : List ℕ) (place : ℕ) (latency : Latency) → Contains (memory_signals memory (Some bank)) o → o.cause ≡ Answered said port place latency → AnsweredBy said memory bank place latency o
memory-answer memory bank o said port place latency c e = go (Contains-append_cases (readers_signals memory bank 0 bank.readers) (flat_map (writer_signals memory bank) bank.writers) o c)
  where
    go : Contains (readers_signals memory bank 0 bank.readers) o ⊎ Contains (flat_map (writer_signals memory bank) bank.writers) o → AnsweredBy said memory bank place latency o
    go (inl here) = readers-answer memory bank 0 bank.readers o said port place latency (λ i d lt. let same : 0 + i ≡ i = omega arith in (omega (arith, lt), ap (λ k. get_or bank.readers k d) same)) here e
    go (inr there) =
        let m = from-flat_map (writer_signals memory bank) bank.writers o there in
        absurd (no-answer o.cause said port place latency (writer-no-answer memory bank m.of o m.made) e)

one-no-answer : (name : List ℕ) (cause : Cause) (shape : Option Shape) (o : Own) → is_answered cause ≡ false → Contains (option_to_list (option_map (own name cause) shape)) o → is_answered o.cause ≡ false
one-no-answer name cause None o none c = absurd (omega (arith, c.1))
one-no-answer name cause (Some s) o none (zero, lt, is) = ap (λ (x : Own). is_answered x.cause) (sym is) ∙ none
one-no-answer name cause (Some s) o none (suc i, lt, is) = absurd (omega (arith, lt))

-- A signal of a statement that a reader answers is the data of a reader of that statement's memory.
pub record AnswerIn (kind : StmtKind) (memory : List ℕ) (place : ℕ) (latency : Latency) (o : Own) : Type 0 where
  pub bank : OwnBank
  pub by : bank_of_kind kind ≡ Some bank
  pub is : memory ≡ bank.name
  pub data_of : IsAnswerOf bank.name bank.bank place latency o

kind-answer : (types : Types) (k : ℕ) (kind : StmtKind) (o : Own) (memory port : List ℕ) (place : ℕ) (latency : Latency) → Contains (own_of_kind types k kind) o → o.cause ≡ Answered memory port place latency → AnswerIn kind memory place latency o
kind-answer types k (says.Wire name ty) o memory port place latency c e = absurd (no-answer o.cause memory port place latency (one-no-answer name Connected (type_shape ty) o refl c) e)
kind-answer types k (says.Node name value) o memory port place latency c e = absurd (no-answer o.cause memory port place latency (one-no-answer name (Expressed value) (types k (reference.Local name)) o refl c) e)
kind-answer types k (says.Register name ty clock reset) o memory port place latency c e = absurd (no-answer o.cause memory port place latency (one-no-answer name (Kept clock reset) (type_shape ty) o refl c) e)
kind-answer types k (says.Instance name m) o memory port place latency c e = absurd (omega (arith, c.1))
kind-answer types k (says.Memory name fields) o memory port place latency c e = go (bank_of fields) refl c
  where
    go : (b : Option Bank) → bank_of fields ≡ b → Contains (memory_signals name b) o → AnswerIn (says.Memory name fields) memory place latency o
    go None is c = absurd (omega (arith, c.1))
    go (Some bank) is c =
        let a = memory-answer name bank o memory port place latency c e in
        record { bank = own_bank name bank; by = ap (option_map (own_bank name)) is; is = a.is; data_of = a.data_of }
kind-answer types k (says.Connect sink source) o memory port place latency c e = absurd (omega (arith, c.1))
kind-answer types k (says.Invalid sink) o memory port place latency c e = absurd (omega (arith, c.1))
kind-answer types k says.Skip o memory port place latency c e = absurd (omega (arith, c.1))
kind-answer types k (says.Stop clock condition code label) o memory port place latency c e = absurd (omega (arith, c.1))
kind-answer types k (says.Report word arguments label) o memory port place latency c e = absurd (omega (arith, c.1))

abbrev cause_or : Cause → Option Own → Cause
cause_or d None = d
cause_or d (Some x) = x.cause

port-no-answer : (p : Port) (o : Own) → own_of_port p ≡ Some o → is_answered o.cause ≡ false
port-no-answer p o e = go (type_shape p.ty) p.direction e
  where
    go : (s : Option Shape) (way : Direction) → option_map (own p.name (cause_of_port way)) s ≡ Some o → is_answered o.cause ≡ false
    go None way e = absurd (cc)
    go (Some s) Input e = ap (λ x. is_answered (cause_or FromOutside x)) (sym e)
    go (Some s) Output e = ap (λ x. is_answered (cause_or FromOutside x)) (sym e)

-- A signal of a module that a reader answers is the data of a reader of one of its memories.
pub record AnswerAmong (ss : List Stmt) (memory : List ℕ) (place : ℕ) (latency : Latency) (o : Own) : Type 0 where
  pub bank : OwnBank
  pub listed : Contains (own_banks ss) bank
  pub is : memory ≡ bank.name
  pub data_of : IsAnswerOf bank.name bank.bank place latency o

pub answer-among : (types : Types) (k : ℕ) (m : ModuleTree) (o : Own) (memory port : List ℕ) (place : ℕ) (latency : Latency) → Contains (own_signals types k m) o → o.cause ≡ Answered memory port place latency → AnswerAmong m.statements memory place latency o
answer-among types k m o memory port place latency c e = go (Contains-append_cases (filter_map own_of_port m.ports) (statement_signals types k m.statements) o c)
  where
    declared : Contains (flat_map (λ (s : Stmt). own_of_kind types k s.kind) m.statements) o ⊎ Contains (map stop_signal (own_stops m.statements)) o → AnswerAmong m.statements memory place latency o
    declared (inl there) =
        let s = from-flat_map (λ (s : Stmt). own_of_kind types k s.kind) m.statements o there in
        let a = kind-answer types k s.of.kind o memory port place latency s.made e in
        record { bank = a.bank; listed = in-filter_map (λ (s : Stmt). bank_of_kind s.kind) m.statements s.of a.bank s.among a.by; is = a.is; data_of = a.data_of }
    declared (inr there) =
        let s = from-map stop_signal (own_stops m.statements) o there in
        absurd (no-answer o.cause memory port place latency (ap (λ (x : Own). is_answered x.cause) (sym s.made)) e)

    go : Contains (filter_map own_of_port m.ports) o ⊎ Contains (statement_signals types k m.statements) o → AnswerAmong m.statements memory place latency o
    go (inl here) =
        let p = from-filter_map own_of_port m.ports o here in
        absurd (no-answer o.cause memory port place latency (port-no-answer p.of o p.made) e)
    go (inr there) = declared (Contains-append_cases (flat_map (λ (s : Stmt). own_of_kind types k s.kind) m.statements) (map stop_signal (own_stops m.statements)) o there)
