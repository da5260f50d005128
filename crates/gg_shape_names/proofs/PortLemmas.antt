-- The sets of a memory's readers and writers.
use Rattle.std.proofs.Common.{◌≡◌, ℕ, ◌+◌, ◌<◌, Bool, true, false, ◌||◌, List, [], ◌∷◌, ◌++◌, length, get_or, take, refl, sym, ap, subst, ◌∙◌}
use Rattle.std.specs.List.{list_any, flat_map}
use Rattle.std.specs.Str.{bytes_eq}
use Rattle.std.proofs.lemmas.List.{take_more, append-nil}
use Rattle.std.proofs.lemmas.List.Folds.{list_any-append}
use Rattle.std.proofs.lemmas.Grind.{flat_map-append}
use Rattle.std.proofs.Math.Bool.{or-false, or_comm, or_assoc, or-true}
use Rattle.gg_ast.specs.declared.statement.Field.{Field}
use Rattle.gg_ast.specs.declared.statement.MemoryField as fields
use Rattle.gg_ast.specs.declared.statement.MemoryField.TheVariants.{DataType, Depth, ReadLatency, WriteLatency, Readers, Writers, ReadUnderWrite}
use Rattle.gg_shape_names.specs.Memory.{readers_in, writers_in}
use Rattle.gg_shape_names.specs.Along.{along}
use Rattle.gg_shape_names.specs.Repetitions.{ports_in_field, repeated_in_field, repeated_port_of}
use Rattle.gg_shape_names.specs.inside.Tables.{HaveSame, HavePorts, IsEither, readers_of, writers_of}

-- ---- names one by one

-- when names are added to the words, the names before this place are still the words and the others together
pub either-grown : (earlier start others done words : List (List ℕ)) → IsEither earlier start others → HaveSame words (start ++ done) → IsEither (earlier ++ done) words others
either-grown earlier start others done words either same = λ q.
    let a = list_any (bytes_eq q) start in
    let o = list_any (bytes_eq q) others in
    let d = list_any (bytes_eq q) done in
    list_any-append (bytes_eq q) earlier done
    ∙ ap (λ b. b || d) (either q)
    ∙ or_assoc a o d ∙ ap (λ b. a || b) (or_comm o d) ∙ sym (or_assoc a d o)
    ∙ sym (ap (λ b. b || o) (same q ∙ list_any-append (bytes_eq q) start done))

pub same-more : (start names words new : List (List ℕ)) (i : ℕ) (name : List ℕ) → i < length names → name ≡ get_or names i name → HaveSame words (start ++ take i names) → HaveSame new (words ++ name ∷ []) → HaveSame new (start ++ take (i + 1) names)
same-more start names words new i name lt is same more = λ q.
    let grown : take (i + 1) names ≡ take i names ++ name ∷ [] = take_more names i name lt ∙ ap (λ x. take i names ++ x ∷ []) (sym is) in
    more q ∙ list_any-append (bytes_eq q) words (name ∷ [])
    ∙ ap (λ b. b || (bytes_eq q name || false)) (same q ∙ list_any-append (bytes_eq q) start (take i names))
    ∙ or_assoc (list_any (bytes_eq q) start) (list_any (bytes_eq q) (take i names)) (bytes_eq q name || false)
    ∙ ap (λ b. list_any (bytes_eq q) start || b) (sym (list_any-append (bytes_eq q) (take i names) (name ∷ [])))
    ∙ sym (list_any-append (bytes_eq q) start (take i names ++ name ∷ []))
    ∙ sym (ap (λ l. list_any (bytes_eq q) (start ++ l)) grown)

-- ---- field by field

any-ports : (q : List ℕ) (kind : fields.MemoryField) → list_any (bytes_eq q) (ports_in_field kind) ≡ list_any (bytes_eq q) (readers_in kind) || list_any (bytes_eq q) (writers_in kind)
any-ports q (Readers names) = sym (or-false (list_any (bytes_eq q) names))
any-ports q (Writers names) = refl
any-ports q (DataType ty) = refl
any-ports q (Depth n) = refl
any-ports q (ReadLatency n) = refl
any-ports q (WriteLatency n) = refl
any-ports q (ReadUnderWrite word) = refl

abbrev pub ports_of : List Field → List (List ℕ)
ports_of fs = flat_map (λ (g : Field). ports_in_field g.kind) fs

four : (a b c d : Bool) → (a || b) || (c || d) ≡ (a || c) || (b || d)
four true b c d = refl
four false true c d = sym (or-true c)
four false false c d = refl

any-of : (q : List ℕ) (fs : List Field) → list_any (bytes_eq q) (ports_of fs) ≡ list_any (bytes_eq q) (readers_of fs) || list_any (bytes_eq q) (writers_of fs)
any-of q [] = refl
any-of q (f ∷ fs) =
    let r = list_any (bytes_eq q) (readers_in f.kind) in
    let w = list_any (bytes_eq q) (writers_in f.kind) in
    let rs = list_any (bytes_eq q) (readers_of fs) in
    let ws = list_any (bytes_eq q) (writers_of fs) in
    list_any-append (bytes_eq q) (ports_in_field f.kind) (ports_of fs)
    ∙ ap (λ b. b || list_any (bytes_eq q) (ports_of fs)) (any-ports q f.kind)
    ∙ ap (λ b. (r || w) || b) (any-of q fs)
    ∙ four r w rs ws
    ∙ sym (ap (λ b. b || list_any (bytes_eq q) (writers_in f.kind ++ writers_of fs)) (list_any-append (bytes_eq q) (readers_in f.kind) (readers_of fs))
    ∙ ap (λ b. (r || rs) || b) (list_any-append (bytes_eq q) (writers_in f.kind) (writers_of fs)))

pub readers-either : (fs : List Field) (readers writers : List (List ℕ)) → HavePorts fs readers writers → IsEither (ports_of fs) readers writers
readers-either fs readers writers have = λ q.
    any-of q fs ∙ ap (λ b. b || list_any (bytes_eq q) (writers_of fs)) (sym (have.reads q)) ∙ ap (λ b. list_any (bytes_eq q) readers || b) (sym (have.writes q))

pub writers-either : (fs : List Field) (readers writers : List (List ℕ)) → HavePorts fs readers writers → IsEither (ports_of fs) writers readers
writers-either fs readers writers have = λ q.
    readers-either fs readers writers have q ∙ or_comm (list_any (bytes_eq q) readers) (list_any (bytes_eq q) writers)

same-of : (names of_names more_of new : List (List ℕ)) → HaveSame names of_names → HaveSame new (names ++ more_of) → HaveSame new (of_names ++ more_of)
same-of names of_names more_of new same more = λ q.
    more q ∙ list_any-append (bytes_eq q) names more_of ∙ ap (λ b. b || list_any (bytes_eq q) more_of) (same q) ∙ sym (list_any-append (bytes_eq q) of_names more_of)

readers-push : (fs : List Field) (f : Field) → readers_of (fs ++ f ∷ []) ≡ readers_of fs ++ readers_in f.kind
readers-push fs f = flat_map-append (λ (g : Field). readers_in g.kind) fs (f ∷ []) ∙ ap (λ l. readers_of fs ++ l) (append-nil (readers_in f.kind))

writers-push : (fs : List Field) (f : Field) → writers_of (fs ++ f ∷ []) ≡ writers_of fs ++ writers_in f.kind
writers-push fs f = flat_map-append (λ (g : Field). writers_in g.kind) fs (f ∷ []) ∙ ap (λ l. writers_of fs ++ l) (append-nil (writers_in f.kind))

pub ports-more : (fs : List Field) (f : Field) (readers writers readers2 writers2 : List (List ℕ)) → HavePorts fs readers writers → HaveSame readers2 (readers ++ readers_in f.kind) → HaveSame writers2 (writers ++ writers_in f.kind) → HavePorts (fs ++ f ∷ []) readers2 writers2
ports-more fs f readers writers readers2 writers2 have reads writes = record {
  reads = λ q. same-of readers (readers_of fs) (readers_in f.kind) readers2 have.reads reads q ∙ sym (ap (list_any (bytes_eq q)) (readers-push fs f));
  writes = λ q. same-of writers (writers_of fs) (writers_in f.kind) writers2 have.writes writes q ∙ sym (ap (list_any (bytes_eq q)) (writers-push fs f));
}

-- the repetitions in a field are those along the names of its ports
pub ports-in-field : (before : List Field) (f : Field) (names : List (List ℕ)) → ports_in_field f.kind ≡ names → repeated_in_field before f ≡ along (repeated_port_of (ports_of before) f.line) names
ports-in-field before f names is = ap (along (repeated_port_of (ports_of before) f.line)) is

-- after a field without ports the sets are the same
pub ports-same : (fs : List Field) (f : Field) (readers writers : List (List ℕ)) → readers_in f.kind ≡ [] → writers_in f.kind ≡ [] → HavePorts fs readers writers → HavePorts (fs ++ f ∷ []) readers writers
ports-same fs f readers writers no_readers no_writers have =
    ports-more fs f readers writers readers writers have
    (λ q. ap (list_any (bytes_eq q)) (sym (ap (λ l. readers ++ l) no_readers ∙ append-nil readers)))
    (λ q. ap (list_any (bytes_eq q)) (sym (ap (λ l. writers ++ l) no_writers ∙ append-nil writers)))

-- after a field of readers their names are in the set of readers; after one of writers, in the set of writers
pub readers-more : (fs : List Field) (f : Field) (names readers writers new : List (List ℕ)) → f.kind ≡ Readers names → HaveSame new (readers ++ names) → HavePorts fs readers writers → HavePorts (fs ++ f ∷ []) new writers
readers-more fs f names readers writers new is more have =
    ports-more fs f readers writers new writers have
    (λ q. more q ∙ ap (λ k. list_any (bytes_eq q) (readers ++ readers_in k)) (sym is))
    (λ q. ap (list_any (bytes_eq q)) (sym (ap (λ k. writers ++ writers_in k) is ∙ append-nil writers)))

pub writers-more : (fs : List Field) (f : Field) (names readers writers new : List (List ℕ)) → f.kind ≡ Writers names → HaveSame new (writers ++ names) → HavePorts fs readers writers → HavePorts (fs ++ f ∷ []) readers new
writers-more fs f names readers writers new is more have =
    ports-more fs f readers writers readers new have
    (λ q. ap (list_any (bytes_eq q)) (sym (ap (λ k. readers ++ readers_in k) is ∙ append-nil readers)))
    (λ q. more q ∙ ap (λ k. list_any (bytes_eq q) (writers ++ writers_in k)) (sym is))

-- the first i fields and the next one are the first i + 1
pub have-next : (fs : List Field) (i : ℕ) (f : Field) (readers writers : List (List ℕ)) → i < length fs → f ≡ get_or fs i f → HavePorts (take i fs ++ f ∷ []) readers writers → HavePorts (take (i + 1) fs) readers writers
have-next fs i f readers writers lt is have =
    subst (λ l. HavePorts l readers writers) (sym (take_more fs i f lt ∙ ap (λ x. take i fs ++ x ∷ []) (sym is))) have
