-- The fields of a memory among the own signals of its site.
use Rattle.std.proofs.Common.{◌≡◌, ◌⊎◌, inl, inr, ℕ, zero, suc, ◌-◌, ◌<◌, ◌≤◌, List, [], ◌∷◌, ◌++◌, Option, Some, None, length, get_or, map, refl, sym, ap, ap₂, ◌∙◌, subst, arith, append_assoc, length-append, codes, true, not, nat_eq}
use Rattle.std.specs.Prelude.{flat_map, Contains, option_map}
use Rattle.std.specs.List.{cons_option, list_all}
use Rattle.std.proofs.lemmas.Bool.{cases_lt}
use Rattle.std.proofs.Math.Seq.{get_or-append_right}
use Rattle.std.proofs.lemmas.List.{map-append}
use Rattle.gg_ast.specs.declared.statement.Stmt.{Stmt}
use Rattle.gg_ast.specs.declared.statement.StmtKind.{StmtKind}
use Rattle.gg_ast.specs.declared.statement.StmtKind.TheVariants as says
use Rattle.gg_ast.specs.Tree.{ModuleTree}
use Rattle.gg_flat_tree.specs.Tree.{joined}
use Rattle.gg_flat_tree.specs.Scoped.{reader_fields, writer_fields}
use Rattle.gg_elab_sites.specs.Sites.{Site}
use Rattle.gg_elab_sites.specs.Flat.{flat_memory}
use Rattle.gg_elab_sites.specs.IsFlat.{number_of, reader_of, writer_of}
use Rattle.gg_types.specs.Memories.{Bank, bank_of}
use Rattle.gg_elab_sites.specs.Signals.{Types, Own, OwnBank, own_bank, own_banks, own_of_kind, bank_of_kind, memory_signals, readers_signals, writer_signals, field_name}
use Rattle.gg_elab_tree.proofs.ElementLemmas.{value_or}
use Rattle.gg_elab_tree.proofs.NamesLemmas.JoinLemmas.{joined-behind}
use Rattle.gg_elab_tree.proofs.OwnLemmas.{front}

-- the own signals of a memory's statement are the memory's fields
memory-kind : (types : Types) (k : ℕ) (kind : StmtKind) (b : OwnBank) → bank_of_kind kind ≡ Some b → own_of_kind types k kind ≡ memory_signals b.name (Some b.bank)
memory-kind types k (says.Wire name ty) b e = absurd (cc)
memory-kind types k (says.Node name value) b e = absurd (cc)
memory-kind types k (says.Register name ty clock reset) b e = absurd (cc)
memory-kind types k (says.Instance name m) b e = absurd (cc)
memory-kind types k (says.Memory name fields) b e = go (bank_of fields) e
  where
    go : (o : Option Bank) → option_map (own_bank name) o ≡ Some b → memory_signals name o ≡ memory_signals b.name (Some b.bank)
    go None h = absurd (cc)
    go (Some bank) h = ap (λ (x : OwnBank). memory_signals x.name (Some x.bank)) (ap (value_or b) h)
memory-kind types k (says.Connect sink source) b e = absurd (cc)
memory-kind types k (says.Invalid sink) b e = absurd (cc)
memory-kind types k says.Skip b e = absurd (cc)
memory-kind types k (says.Stop clock condition code label) b e = absurd (cc)
memory-kind types k (says.Report word arguments label) b e = absurd (cc)

-- The fields of a memory stand together in a list of signals.
pub record StandTogether (all part : List Own) : Type 0 where
  pub before : List Own
  pub after : List Own
  pub is : all ≡ before ++ (part ++ after)

-- they stand together with signals before and after these
pub together-within : {all part : List Own} (xs ys : List Own) → StandTogether all part → StandTogether (xs ++ (all ++ ys)) part
together-within {all = all} {part = part} xs ys t = record {
  before = xs ++ t.before;
  after = t.after ++ ys;
  is =
      ap (λ l. xs ++ (l ++ ys)) t.is
      ∙ ap (λ l. xs ++ l) (append_assoc t.before (part ++ t.after) ys ∙ ap (λ l. t.before ++ l) (append_assoc part t.after ys))
      ∙ sym (append_assoc xs t.before (part ++ (t.after ++ ys)));
}

-- the fields of a memory stand together among the own signals of the module's statements
pub bank-together : (types : Types) (k : ℕ) (ss : List Stmt) (q : ℕ) (b : OwnBank) → q < length (own_banks ss) → get_or (own_banks ss) q b ≡ b → StandTogether (flat_map (λ (s : Stmt). own_of_kind types k s.kind) ss) (memory_signals b.name (Some b.bank))
bank-together types k [] q b lt is = absurd (omega (arith, lt))
bank-together types k (s ∷ ss) q b lt is = go (bank_of_kind s.kind) refl q lt is (bank-together types k ss)
  where
    further : StandTogether (flat_map (λ (s : Stmt). own_of_kind types k s.kind) ss) (memory_signals b.name (Some b.bank)) → StandTogether (own_of_kind types k s.kind ++ flat_map (λ (s : Stmt). own_of_kind types k s.kind) ss) (memory_signals b.name (Some b.bank))
    further t = record {
      before = own_of_kind types k s.kind ++ t.before;
      after = t.after;
      is = ap (λ l. own_of_kind types k s.kind ++ l) t.is ∙ sym (append_assoc (own_of_kind types k s.kind) t.before (memory_signals b.name (Some b.bank) ++ t.after));
    }

    go : (o : Option OwnBank) → bank_of_kind s.kind ≡ o → (q : ℕ) → q < length (cons_option o (own_banks ss)) → get_or (cons_option o (own_banks ss)) q b ≡ b → ((q : ℕ) (b : OwnBank) → q < length (own_banks ss) → get_or (own_banks ss) q b ≡ b → StandTogether (flat_map (λ (s : Stmt). own_of_kind types k s.kind) ss) (memory_signals b.name (Some b.bank))) → StandTogether (own_of_kind types k s.kind ++ flat_map (λ (s : Stmt). own_of_kind types k s.kind) ss) (memory_signals b.name (Some b.bank))
    go None e q lt is next = further (next q b lt is)
    go (Some c) e zero lt is next = record {
      before = [];
      after = flat_map (λ (s : Stmt). own_of_kind types k s.kind) ss;
      is = ap (λ l. l ++ flat_map (λ (s : Stmt). own_of_kind types k s.kind) ss) (memory-kind types k s.kind c e ∙ ap (λ (x : OwnBank). memory_signals x.name (Some x.bank)) is);
    }
    go (Some c) e (suc q) lt is next = further (next q b (omega (arith, lt)) is)

-- ---- the numbers of a memory's fields

field-there : (paths : List (List ℕ)) (outer memory port field : List ℕ) → number_of paths (field_name (joined outer memory) port field) ≡ number_of paths (joined outer (field_name memory port field))
field-there paths outer memory port field = ap (number_of paths) (sym (joined-behind outer memory (port ++ 46 ∷ field)))

-- the number of an own signal, found by its path: the site's path joined with the signal's name
abbrev pub number_behind : List (List ℕ) → List ℕ → Own → ℕ
number_behind paths outer o = number_of paths (joined outer o.name)

module _ (paths : List (List ℕ)) (modules : List ModuleTree) (site : Site) (own : OwnBank) where
  reader-numbers : (place : ℕ) (ports : List (List ℕ)) → flat_map (λ reader. reader_fields reader) (map (reader_of paths (flat_memory modules site own)) ports) ≡ map (number_behind paths site.path) (readers_signals own.name own.bank place ports)
  reader-numbers place [] = refl
  reader-numbers place (p ∷ ps) =
      rw (field-there paths site.path own.name p (codes "addr"), field-there paths site.path own.name p (codes "en"), field-there paths site.path own.name p (codes "data"), reader-numbers (suc place) ps) refl

  writer-numbers : (ports : List (List ℕ)) → flat_map (λ writer. writer_fields writer) (map (writer_of paths (flat_memory modules site own)) ports) ≡ map (number_behind paths site.path) (flat_map (writer_signals own.name own.bank) ports)
  writer-numbers [] = refl
  writer-numbers (p ∷ ps) =
      rw (field-there paths site.path own.name p (codes "addr"), field-there paths site.path own.name p (codes "en"), field-there paths site.path own.name p (codes "data"), field-there paths site.path own.name p (codes "mask"), writer-numbers ps) refl

  pub field-numbers : flat_map (λ reader. reader_fields reader) (map (reader_of paths (flat_memory modules site own)) own.bank.readers) ++ flat_map (λ writer. writer_fields writer) (map (writer_of paths (flat_memory modules site own)) own.bank.writers) ≡ map (number_behind paths site.path) (memory_signals own.name (Some own.bank))
  field-numbers =
      ap₂ (λ xs ys. xs ++ ys) (reader-numbers 0 own.bank.readers) (writer-numbers own.bank.writers)
      ∙ sym (map-append (number_behind paths site.path) (readers_signals own.name own.bank 0 own.bank.readers) (flat_map (writer_signals own.name own.bank) own.bank.writers))

-- ---- what a signal of a module is

-- A signal of these statements is a field of one of their memories.
pub record FieldPlace (ss : List Stmt) (o : Own) : Type 0 where
  pub place : ℕ
  pub bank : OwnBank
  pub known : place < length (own_banks ss)
  pub is : (d : OwnBank) → get_or (own_banks ss) place d ≡ bank
  pub among : Contains (memory_signals bank.name (Some bank.bank)) o

-- The name of a field of a memory: the memory's name, the name of one of its ports and a name without a dot.
pub record FieldName (memory : List ℕ) (bank : Bank) (name : List ℕ) : Type 0 where
  pub port : List ℕ
  pub field : List ℕ
  pub is : name ≡ field_name memory port field
  pub of_port : Contains bank.readers port ⊎ Contains bank.writers port
  pub of_word : list_all (λ b. not (nat_eq b 46)) field ≡ true

-- each field of a memory has such a name
reader-field : (memory : List ℕ) (bank : Bank) (place : ℕ) (ports : List (List ℕ)) (i : ℕ) (d : Own) → ((p : List ℕ) → Contains ports p → Contains bank.readers p) → i < length (readers_signals memory bank place ports) → FieldName memory bank (get_or (readers_signals memory bank place ports) i d).name
reader-field memory bank place [] i d of lt = absurd (omega (arith, lt))
reader-field memory bank place (p ∷ ps) zero d of lt = record { port = p; field = codes "addr"; is = refl; of_port = inl (of p (0, omega arith, refl)); of_word = refl }
reader-field memory bank place (p ∷ ps) (suc zero) d of lt = record { port = p; field = codes "en"; is = refl; of_port = inl (of p (0, omega arith, refl)); of_word = refl }
reader-field memory bank place (p ∷ ps) (suc (suc zero)) d of lt = record { port = p; field = codes "data"; is = refl; of_port = inl (of p (0, omega arith, refl)); of_word = refl }
reader-field memory bank place (p ∷ ps) (suc (suc (suc i))) d of lt = reader-field memory bank (suc place) ps i d (λ q c. of q (suc c.0, omega (arith, c.1), c.2)) (omega (arith, lt))

writer-field : (memory : List ℕ) (bank : Bank) (ports : List (List ℕ)) (i : ℕ) (d : Own) → ((p : List ℕ) → Contains ports p → Contains bank.writers p) → i < length (flat_map (writer_signals memory bank) ports) → FieldName memory bank (get_or (flat_map (writer_signals memory bank) ports) i d).name
writer-field memory bank [] i d of lt = absurd (omega (arith, lt))
writer-field memory bank (p ∷ ps) zero d of lt = record { port = p; field = codes "addr"; is = refl; of_port = inr (of p (0, omega arith, refl)); of_word = refl }
writer-field memory bank (p ∷ ps) (suc zero) d of lt = record { port = p; field = codes "en"; is = refl; of_port = inr (of p (0, omega arith, refl)); of_word = refl }
writer-field memory bank (p ∷ ps) (suc (suc zero)) d of lt = record { port = p; field = codes "data"; is = refl; of_port = inr (of p (0, omega arith, refl)); of_word = refl }
writer-field memory bank (p ∷ ps) (suc (suc (suc zero))) d of lt = record { port = p; field = codes "mask"; is = refl; of_port = inr (of p (0, omega arith, refl)); of_word = refl }
writer-field memory bank (p ∷ ps) (suc (suc (suc (suc i)))) d of lt = writer-field memory bank ps i d (λ q c. of q (suc c.0, omega (arith, c.1), c.2)) (omega (arith, lt))

pub memory-field : (memory : List ℕ) (bank : Bank) (i : ℕ) (d : Own) → i < length (memory_signals memory (Some bank)) → FieldName memory bank (get_or (memory_signals memory (Some bank)) i d).name
memory-field memory bank i d lt = go (cases_lt i (length (readers_signals memory bank 0 bank.readers)))
  where
    go : (i < length (readers_signals memory bank 0 bank.readers)) ⊎ (length (readers_signals memory bank 0 bank.readers) ≤ i) → FieldName memory bank (get_or (memory_signals memory (Some bank)) i d).name
    go (inl here) =
        subst (λ (o : Own). FieldName memory bank o.name) (sym (front (readers_signals memory bank 0 bank.readers) (flat_map (writer_signals memory bank) bank.writers) i d here))
        (reader-field memory bank 0 bank.readers i d (λ p c. c) here)
    go (inr behind) =
        subst (λ (o : Own). FieldName memory bank o.name) (sym (get_or-append_right (readers_signals memory bank 0 bank.readers) (flat_map (writer_signals memory bank) bank.writers) i d behind))
        (writer-field memory bank bank.writers (i - length (readers_signals memory bank 0 bank.readers)) d (λ p c. c) (omega (arith, lt, behind, length-append (readers_signals memory bank 0 bank.readers) (flat_map (writer_signals memory bank) bank.writers))))
