-- The two laws of a memory's field: what is read is spelt so, and what is spelt so is read.
use Rattle.std.proofs.Common.{◌≡◌, ℕ, List, [], ◌∷◌, ◌++◌, Bool, true, false, Option, None, Some, refl, sym, ap, ◌∙◌, subst, append_assoc}
use Rattle.std.proofs.lemmas.List.{append-nil}
use Rattle.std.specs.Prelude.{if◌then◌else◌, codes}
use Rattle.std.proofs.lemmas.Option.{same_Some}
use Rattle.gg_lex.specs.declared.token.Tok.{Tok}
use Rattle.gg_lex.specs.declared.token.Tok.TheVariants.{Word, Number, Text, Symbol}
use Rattle.gg_lex.specs.declared.token.Symbol.TheVariants.{Arrow}
use Rattle.gg_ast.specs.declared.module.GroundType.{GroundType}
use Rattle.gg_ast.specs.declared.statement.MemoryField.{MemoryField}
use Rattle.gg_ast.specs.declared.statement.MemoryField.TheVariants as field
use Rattle.gg_ast.specs.declared.statement.ReadUnderWrite.{ReadUnderWrite}
use Rattle.gg_ast.specs.declared.statement.ReadUnderWrite.TheVariants as under_write
use Rattle.gg_ast.specs.Names.{is_name}
use Rattle.gg_ast.specs.declared.words.FieldWord.{FieldWord}
use Rattle.gg_ast.specs.declared.words.FieldWord.TheVariants as field_word
use Rattle.gg_ast.specs.Words.{read_under_write_text}
use Rattle.gg_ast.specs.inside.Words.{field_text}
use Rattle.gg_read_row.specs.Forms.{IsNatural, SpellsType, SpellsMoreNames, SpellsNames, SpellsField}
use Rattle.gg_read_row.specs.inside.Reading.{◌>>=◌, choose, word_at, natural_at, end_at, type_at, more_names_at, names_at, last_type_at, last_natural_at, read_under_write_at, last_read_under_write_at, field_at}
use Rattle.gg_read_row.proofs.Leaves.{bound, ended, goes_on, chosen, not_chosen, word_at-spells, natural_at-spells, natural_at-here, true_is, is_true}
use Rattle.gg_read_row.proofs.ExpressionsSpelt.{type-spells}
use Rattle.gg_read_row.proofs.Expressions.{type-read}

-- ---- what is read is spelt so

last_type-spells : (ts : List Tok) (ty : GroundType) → last_type_at ts ≡ Some ty → SpellsType ty ts []
last_type-spells ts ty h =
    let x = bound (type_at ts) (λ y. end_at y.1 >>= λ u. Some y.0) ty h in
    let stop = ended x.0.1 x.0.0 ty x.2 in
    subst (λ r. SpellsType ty ts r) stop.0 (subst (λ (y : GroundType). SpellsType y ts x.0.1) stop.1 (type-spells ts x.0.1 x.0.0 x.1))

last_natural-spells : (ts : List Tok) (n : ℕ) → last_natural_at ts ≡ Some n → (digits : List ℕ) × IsNatural digits n × (ts ≡ Number digits ∷ [])
last_natural-spells ts n h =
    let x = bound (natural_at ts) (λ m. end_at m.1 >>= λ u. Some m.0) n h in
    let stop = ended x.0.1 x.0.0 n x.2 in
    let d = natural_at-spells ts x.0.0 x.0.1 x.1 in
    (d.0, subst (λ (m : ℕ). IsNatural d.0 m) stop.1 d.1, d.2 ∙ ap (λ l. Number d.0 ∷ l) stop.0)

-- the names read so far, and those that are spelt after them
record SpellsBehind (before all : List (List ℕ)) (ts : List Tok) : Type 0 where
  more : List (List ℕ)
  whole : all ≡ before ++ more
  spelt : SpellsMoreNames more ts

more_names-by : (w : List ℕ) (before all : List (List ℕ)) (ts : List Tok) (b : Bool) → is_name w ≡ b
    → (more_names_at (before ++ w ∷ []) ts ≡ Some all → SpellsBehind (before ++ w ∷ []) all ts)
    → (if b then more_names_at (before ++ w ∷ []) ts else None) ≡ Some all → SpellsBehind before all (Word w ∷ ts)
more_names-by w before all ts true e ih h =
    let m = ih h in
    record { more = w ∷ m.more; whole = m.whole ∙ append_assoc before (w ∷ []) m.more; spelt = (ts, true_is (is_name w) e, refl, m.spelt) }
more_names-by w before all ts false e ih h = absurd (cc)

more_names-spells : (ts : List Tok) (before all : List (List ℕ)) → more_names_at before ts ≡ Some all → SpellsBehind before all ts
more_names-spells [] before all h = record { more = []; whole = sym (same_Some before all h) ∙ sym (append-nil before); spelt = refl }
more_names-spells (Word w ∷ ts) before all h = more_names-by w before all ts (is_name w) refl (more_names-spells ts (before ++ w ∷ []) all) h
more_names-spells (Number w ∷ ts) before all h = absurd (cc)
more_names-spells (Text w ∷ ts) before all h = absurd (cc)
more_names-spells (Symbol m ∷ ts) before all h = absurd (cc)

some_name : (names : List (List ℕ)) (t : Tok) (ts : List Tok) → SpellsMoreNames names (t ∷ ts) → SpellsNames names (t ∷ ts)
some_name [] t ts h = absurd (cc)
some_name (n ∷ more) t ts h = h

names-spells : (ts : List Tok) (names : List (List ℕ)) → names_at ts ≡ Some names → SpellsNames names ts
names-spells [] names h = absurd (cc)
names-spells (t ∷ ts) names h =
    let m = more_names-spells (t ∷ ts) [] names h in
    subst (λ (l : List (List ℕ)). SpellsNames l (t ∷ ts)) (sym m.whole) (some_name m.more t ts m.spelt)

abbrev old_word : List Tok → Option (ReadUnderWrite × List Tok)
old_word t = Some (under_write.Old, t)

abbrev new_word : List Tok → Option (ReadUnderWrite × List Tok)
new_word t = Some (under_write.New, t)

abbrev undefined_word : List Tok → Option (ReadUnderWrite × List Tok)
undefined_word t = Some (under_write.Undefined, t)

-- `new` or `undefined`
abbrev new_at : List Tok → Option (ReadUnderWrite × List Tok)
new_at ts = choose (word_at (codes "new") ts) new_word (word_at (codes "undefined") ts >>= undefined_word)

new-by : (ts rest : List Tok) (w : ReadUnderWrite) (o : Option (List Tok)) → word_at (codes "new") ts ≡ o → new_at ts ≡ Some (w, rest) → ts ≡ Word (read_under_write_text w) ∷ rest
new-by ts rest w (Some t) e h =
    let same = same_Some (under_write.New, t) (w, rest) (sym (chosen (word_at (codes "new") ts) new_word (word_at (codes "undefined") ts >>= undefined_word) t e) ∙ h) in
    word_at-spells (codes "new") ts t e ∙ ap (λ (p : ReadUnderWrite × List Tok). Word (read_under_write_text p.0) ∷ p.1) same
new-by ts rest w None e h =
    let u = bound (word_at (codes "undefined") ts) undefined_word (w, rest) (sym (not_chosen (word_at (codes "new") ts) new_word (word_at (codes "undefined") ts >>= undefined_word) e) ∙ h) in
    word_at-spells (codes "undefined") ts u.0 u.1 ∙ ap (λ (p : ReadUnderWrite × List Tok). Word (read_under_write_text p.0) ∷ p.1) (same_Some (under_write.Undefined, u.0) (w, rest) u.2)

read_under_write-by : (ts rest : List Tok) (w : ReadUnderWrite) (o : Option (List Tok)) → word_at (codes "old") ts ≡ o → read_under_write_at ts ≡ Some (w, rest) → ts ≡ Word (read_under_write_text w) ∷ rest
read_under_write-by ts rest w (Some t) e h =
    let same = same_Some (under_write.Old, t) (w, rest) (sym (chosen (word_at (codes "old") ts) old_word (new_at ts) t e) ∙ h) in
    word_at-spells (codes "old") ts t e ∙ ap (λ (p : ReadUnderWrite × List Tok). Word (read_under_write_text p.0) ∷ p.1) same
read_under_write-by ts rest w None e h = new-by ts rest w (word_at (codes "new") ts) refl (sym (not_chosen (word_at (codes "old") ts) old_word (new_at ts) e) ∙ h)

last_read_under_write-spells : (ts : List Tok) (w : ReadUnderWrite) → last_read_under_write_at ts ≡ Some w → ts ≡ Word (read_under_write_text w) ∷ []
last_read_under_write-spells ts w h =
    let x = bound (read_under_write_at ts) (λ y. end_at y.1 >>= λ u. Some y.0) w h in
    let stop = ended x.0.1 x.0.0 w x.2 in
    read_under_write-by ts x.0.1 x.0.0 (word_at (codes "old") ts) refl x.1
    ∙ ap (λ l. Word (read_under_write_text x.0.0) ∷ l) stop.0
    ∙ ap (λ (y : ReadUnderWrite). Word (read_under_write_text y) ∷ []) stop.1

-- a field that is read after its word and `=>` is spelt so
pub field-spells : (word : FieldWord) (t ts : List Tok) (f : MemoryField) → ts ≡ Word (field_text word) ∷ (Symbol Arrow ∷ t) → field_at word t ≡ Some f → SpellsField f ts
field-spells field_word.DataType t ts f is h =
    let x = bound (last_type_at t) (λ ty. Some (field.DataType ty)) f h in
    subst (λ (g : MemoryField). SpellsField g ts) (same_Some (field.DataType x.0) f x.2) (t, is, last_type-spells t x.0 x.1)
field-spells field_word.Depth t ts f is h =
    let x = bound (last_natural_at t) (λ n. Some (field.Depth n)) f h in
    let d = last_natural-spells t x.0 x.1 in
    subst (λ (g : MemoryField). SpellsField g ts) (same_Some (field.Depth x.0) f x.2) (d.0, d.1, is ∙ ap (λ l. Word (codes "depth") ∷ (Symbol Arrow ∷ l)) d.2)
field-spells field_word.ReadLatency t ts f is h =
    let x = bound (last_natural_at t) (λ n. Some (field.ReadLatency n)) f h in
    let d = last_natural-spells t x.0 x.1 in
    subst (λ (g : MemoryField). SpellsField g ts) (same_Some (field.ReadLatency x.0) f x.2) (d.0, d.1, is ∙ ap (λ l. Word (codes "read-latency") ∷ (Symbol Arrow ∷ l)) d.2)
field-spells field_word.WriteLatency t ts f is h =
    let x = bound (last_natural_at t) (λ n. Some (field.WriteLatency n)) f h in
    let d = last_natural-spells t x.0 x.1 in
    subst (λ (g : MemoryField). SpellsField g ts) (same_Some (field.WriteLatency x.0) f x.2) (d.0, d.1, is ∙ ap (λ l. Word (codes "write-latency") ∷ (Symbol Arrow ∷ l)) d.2)
field-spells field_word.Reader t ts f is h =
    let x = bound (names_at t) (λ n. Some (field.Readers n)) f h in
    subst (λ (g : MemoryField). SpellsField g ts) (same_Some (field.Readers x.0) f x.2) (t, is, names-spells t x.0 x.1)
field-spells field_word.Writer t ts f is h =
    let x = bound (names_at t) (λ n. Some (field.Writers n)) f h in
    subst (λ (g : MemoryField). SpellsField g ts) (same_Some (field.Writers x.0) f x.2) (t, is, names-spells t x.0 x.1)
field-spells field_word.ReadUnderWrite t ts f is h =
    let x = bound (last_read_under_write_at t) (λ w. Some (field.ReadUnderWrite w)) f h in
    subst (λ (g : MemoryField). SpellsField g ts) (same_Some (field.ReadUnderWrite x.0) f x.2) (is ∙ ap (λ l. Word (codes "read-under-write") ∷ (Symbol Arrow ∷ l)) (last_read_under_write-spells t x.0 x.1))

-- ---- what is spelt so is read

last_type-read : (ty : GroundType) (ts : List Tok) → SpellsType ty ts [] → last_type_at ts ≡ Some ty
last_type-read ty ts h = goes_on (type_at ts) (λ y. end_at y.1 >>= λ u. Some y.0) (ty, []) (type-read ty ts [] h)

last_natural-read : (digits : List ℕ) (n : ℕ) → IsNatural digits n → last_natural_at (Number digits ∷ []) ≡ Some n
last_natural-read digits n h = goes_on (natural_at (Number digits ∷ [])) (λ m. end_at m.1 >>= λ u. Some m.0) (n, []) (natural_at-here digits n [] h)

more_names-read : (more before : List (List ℕ)) (ts : List Tok) → SpellsMoreNames more ts → more_names_at before ts ≡ Some (before ++ more)
more_names-read [] before ts h = ap (more_names_at before) h ∙ ap (λ (l : List (List ℕ)). Some l) (sym (append-nil before))
more_names-read (n ∷ more) before ts (t, named, is, h) =
    ap (more_names_at before) is
    ∙ ap (λ (b : Bool). if b then more_names_at (before ++ n ∷ []) t else None) (is_true (is_name n) named)
    ∙ more_names-read more (before ++ n ∷ []) t h
    ∙ ap (λ (l : List (List ℕ)). Some l) (append_assoc before (n ∷ []) more)

names-read : (names : List (List ℕ)) (ts : List Tok) → SpellsNames names ts → names_at ts ≡ Some names
names-read [] ts h = absurd h
names-read (n ∷ more) [] h = absurd (cc)
names-read (n ∷ more) (t ∷ ts) h = more_names-read (n ∷ more) [] (t ∷ ts) h

read_under_write-read : (w : ReadUnderWrite) → last_read_under_write_at (Word (read_under_write_text w) ∷ []) ≡ Some w
read_under_write-read under_write.Old = refl
read_under_write-read under_write.New = refl
read_under_write-read under_write.Undefined = refl

-- the word with which a field begins
abbrev pub word_of : MemoryField → FieldWord
word_of (field.DataType ty) = field_word.DataType
word_of (field.Depth n) = field_word.Depth
word_of (field.ReadLatency n) = field_word.ReadLatency
word_of (field.WriteLatency n) = field_word.WriteLatency
word_of (field.Readers names) = field_word.Reader
word_of (field.Writers names) = field_word.Writer
word_of (field.ReadUnderWrite w) = field_word.ReadUnderWrite

pub field-read : (f : MemoryField) (ts : List Tok) → SpellsField f ts → (t : List Tok) × (ts ≡ Word (field_text (word_of f)) ∷ (Symbol Arrow ∷ t)) × (field_at (word_of f) t ≡ Some f)
field-read (field.DataType ty) ts (t, is, h) = (t, is, goes_on (last_type_at t) (λ y. Some (field.DataType y)) ty (last_type-read ty t h))
field-read (field.Depth n) ts (digits, h, is) =
    (Number digits ∷ [], is, goes_on (last_natural_at (Number digits ∷ [])) (λ m. Some (field.Depth m)) n (last_natural-read digits n h))
field-read (field.ReadLatency n) ts (digits, h, is) =
    (Number digits ∷ [], is, goes_on (last_natural_at (Number digits ∷ [])) (λ m. Some (field.ReadLatency m)) n (last_natural-read digits n h))
field-read (field.WriteLatency n) ts (digits, h, is) =
    (Number digits ∷ [], is, goes_on (last_natural_at (Number digits ∷ [])) (λ m. Some (field.WriteLatency m)) n (last_natural-read digits n h))
field-read (field.Readers names) ts (t, is, h) = (t, is, goes_on (names_at t) (λ l. Some (field.Readers l)) names (names-read names t h))
field-read (field.Writers names) ts (t, is, h) = (t, is, goes_on (names_at t) (λ l. Some (field.Writers l)) names (names-read names t h))
field-read (field.ReadUnderWrite w) ts is =
    (Word (read_under_write_text w) ∷ [], is, goes_on (last_read_under_write_at (Word (read_under_write_text w) ∷ [])) (λ v. Some (field.ReadUnderWrite v)) w (read_under_write-read w))
