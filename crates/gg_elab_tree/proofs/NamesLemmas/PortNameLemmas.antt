-- The ports of a memory have different names, and so have their fields.
use Rattle.std.proofs.Common.{◌≡◌, ◌⊎◌, inl, inr, ℕ, zero, suc, List, [], ◌∷◌, ◌++◌, Some, map, refl, sym, ap, ap₂, ◌∙◌, subst, arith, codes, append_assoc, append-nil}
use Rattle.std.specs.Prelude.{Contains, flat_map, option_and_then, unwrap_or}
use Rattle.std.proofs.lemmas.List.{map-append, map-id}
use Rattle.std.proofs.lemmas.List.Concat.{flat_map_single}
use Rattle.std.proofs.lemmas.List.Elements.{Contains-append_left, Contains-append_right, Contains-append_cases}
use Rattle.std.proofs.lemmas.Grind.{flat_map-append}
use Rattle.gg_ast.specs.declared.statement.Field.{Field}
use Rattle.gg_ast.specs.declared.statement.MemoryField.{MemoryField}
use Rattle.gg_ast.specs.declared.statement.MemoryField.TheVariants as field
use Rattle.gg_flat.specs.declared.memory.UnderWrite.TheVariants.{Undefined}
use Rattle.gg_shape_names.specs.Along.{along, along_from}
use Rattle.gg_shape_names.specs.Repetitions.{repeated_in, ports_in_field, repeated_port_of, repeated_in_field}
use Rattle.gg_types.specs.Memories.{Bank, bank_of, readers_said, writers_said, type_shape, first_said, type_said, depth_said, latency_said, under_said, latency_of}
use Rattle.gg_elab_sites.specs.Signals.{Own, memory_signals, readers_signals, writer_signals}
use Rattle.gg_elab_sites.proofs.FreshLemmas.{Differ-front}
use Rattle.gg_elab_sites.proofs.NameLemmas.{Differ}
use Rattle.gg_elab_tree.proofs.NamesLemmas.DeclaredLemmas.{append-none, fresh, Differ-snoc, Differ-behind, Differ-parts}
use Rattle.gg_elab_tree.proofs.NamesLemmas.WordLemmas.{bank-ports}
use Rattle.gg_elab_sites.proofs.AmongLemmas.{MadeOf, from-map, from-flat_map}
use Rattle.gg_elab_tree.proofs.NamesLemmas.DifferLemmas.{head_of, Differ-none, Differ-append, Differ-map, Differ-turned, IsDotless, behind-once, BeginsIn, begins-apart, parts-differ}

-- ---- the ports that fields name

line-differs : (earlier done : List (List ℕ)) (line : ℕ) (names : List (List ℕ)) → Differ (earlier ++ done) → along_from (repeated_port_of earlier line) done names ≡ [] → Differ (earlier ++ (done ++ names))
line-differs earlier done line [] differ h = subst (λ l. Differ (earlier ++ l)) (sym (append-nil done)) differ
line-differs earlier done line (n ∷ names) differ h =
    let parts = append-none (repeated_in (earlier ++ done) line n) (along_from (repeated_port_of earlier line) (done ++ n ∷ []) names) h in
    let more : Differ (earlier ++ (done ++ n ∷ [])) = subst Differ (append_assoc earlier done (n ∷ [])) (Differ-snoc (earlier ++ done) n differ (fresh (earlier ++ done) line n parts.0)) in
    subst (λ l. Differ (earlier ++ l)) (append_assoc done (n ∷ []) names) (line-differs earlier (done ++ n ∷ []) line names more parts.1)

abbrev ports_named : List Field → List (List ℕ)
ports_named fields = flat_map (λ (f : Field). ports_in_field f.kind) fields

fields-differ : (before fields : List Field) → Differ (ports_named before) → along_from repeated_in_field before fields ≡ [] → Differ (ports_named (before ++ fields))
fields-differ before [] differ h = subst (λ l. Differ (ports_named l)) (sym (append-nil before)) differ
fields-differ before (f ∷ fields) differ h =
    let parts = append-none (repeated_in_field before f) (along_from repeated_in_field (before ++ f ∷ []) fields) h in
    let more : Differ (ports_named before ++ ports_in_field f.kind) = line-differs (ports_named before) [] f.line (ports_in_field f.kind) (subst Differ (sym (append-nil (ports_named before))) differ) parts.0 in
    let same : ports_named before ++ ports_in_field f.kind ≡ ports_named (before ++ f ∷ []) =
    sym (flat_map-append (λ (g : Field). ports_in_field g.kind) before (f ∷ []) ∙ ap (λ l. ports_named before ++ l) (append-nil (ports_in_field f.kind))) in
    subst (λ l. Differ (ports_named l)) (append_assoc before (f ∷ []) fields) (fields-differ (before ++ f ∷ []) fields (subst Differ same more) parts.1)

-- ---- the readers first, and then the writers

abbrev sides : List Field → List (List ℕ)
sides fields = flat_map (λ (f : Field). readers_said f.kind) fields ++ flat_map (λ (f : Field). writers_said f.kind) fields

-- if names are put in front of the first or the second of two lists, all elements are among the names and the old elements
in-first : (names xs ys all : List (List ℕ)) (w : List ℕ) → (Contains (xs ++ ys) w → Contains all w) → Contains ((names ++ xs) ++ ys) w → Contains (names ++ all) w
in-first names xs ys all w rest c = go (Contains-append_cases names (xs ++ ys) w (subst (λ l. Contains l w) (append_assoc names xs ys) c))
  where
    go : Contains names w ⊎ Contains (xs ++ ys) w → Contains (names ++ all) w
    go (inl k) = Contains-append_left names all w k
    go (inr k) = Contains-append_right names all w (rest k)

in-second : (names xs ys all : List (List ℕ)) (w : List ℕ) → (Contains (xs ++ ys) w → Contains all w) → Contains (xs ++ (names ++ ys)) w → Contains (names ++ all) w
in-second names xs ys all w rest c = go (Contains-append_cases xs (names ++ ys) w c)
  where
    behind : Contains names w ⊎ Contains ys w → Contains (names ++ all) w
    behind (inl k) = Contains-append_left names all w k
    behind (inr k) = Contains-append_right names all w (rest (Contains-append_right xs ys w k))

    go : Contains xs w ⊎ Contains (names ++ ys) w → Contains (names ++ all) w
    go (inl k) = Contains-append_right names all w (rest (Contains-append_left xs ys w k))
    go (inr k) = behind (Contains-append_cases names ys w k)

sides-named : (fields : List Field) (w : List ℕ) → Contains (sides fields) w → Contains (ports_named fields) w
sides-named [] w c = c
sides-named (f ∷ fs) w c = go f.kind (sides-named fs w) c
  where
    go : (kind : MemoryField) → (Contains (sides fs) w → Contains (ports_named fs) w) → Contains ((readers_said kind ++ flat_map (λ (f : Field). readers_said f.kind) fs) ++ (writers_said kind ++ flat_map (λ (f : Field). writers_said f.kind) fs)) w → Contains (ports_in_field kind ++ ports_named fs) w
    go (field.DataType ty) rest c = rest c
    go (field.Depth n) rest c = rest c
    go (field.ReadLatency n) rest c = rest c
    go (field.WriteLatency n) rest c = rest c
    go (field.ReadUnderWrite word) rest c = rest c
    go (field.Readers names) rest c = in-first names (flat_map (λ (f : Field). readers_said f.kind) fs) (flat_map (λ (f : Field). writers_said f.kind) fs) (ports_named fs) w rest c
    go (field.Writers names) rest c = in-second names (flat_map (λ (f : Field). readers_said f.kind) fs) (flat_map (λ (f : Field). writers_said f.kind) fs) (ports_named fs) w rest c

-- words that differ still do with new names in front of them
fresh-front : (names all sided : List (List ℕ)) → Differ (names ++ all) → ((w : List ℕ) → Contains sided w → Contains all w) → Differ sided → Differ (names ++ sided)
fresh-front names all sided differ in_all d = Differ-append names sided (Differ-front names all differ) d (λ w a b. Differ-parts names all w differ a (in_all w b))

sides-differ : (fields : List Field) → Differ (ports_named fields) → Differ (sides fields)
sides-differ [] differ = Differ-none
sides-differ (f ∷ fs) differ = go f.kind differ (sides-differ fs) (sides-named fs)
  where
    go : (kind : MemoryField) → Differ (ports_in_field kind ++ ports_named fs) → (Differ (ports_named fs) → Differ (sides fs)) → ((w : List ℕ) → Contains (sides fs) w → Contains (ports_named fs) w) → Differ ((readers_said kind ++ flat_map (λ (f : Field). readers_said f.kind) fs) ++ (writers_said kind ++ flat_map (λ (f : Field). writers_said f.kind) fs))
    go (field.DataType ty) differ rest among = rest differ
    go (field.Depth n) differ rest among = rest differ
    go (field.ReadLatency n) differ rest among = rest differ
    go (field.WriteLatency n) differ rest among = rest differ
    go (field.ReadUnderWrite word) differ rest among = rest differ
    go (field.Readers names) differ rest among =
        subst Differ (sym (append_assoc names (flat_map (λ (f : Field). readers_said f.kind) fs) (flat_map (λ (f : Field). writers_said f.kind) fs)))
        (fresh-front names (ports_named fs) (sides fs) differ among (rest (Differ-behind names (ports_named fs) differ)))
    go (field.Writers names) differ rest among =
        Differ-turned names (flat_map (λ (f : Field). readers_said f.kind) fs) (flat_map (λ (f : Field). writers_said f.kind) fs)
        (fresh-front names (ports_named fs) (sides fs) differ among (rest (Differ-behind names (ports_named fs) differ)))

-- the readers and writers of a memory have different names
pub bank-differs : (fields : List Field) (bank : Bank) → bank_of fields ≡ Some bank → along repeated_in_field fields ≡ [] → Differ (bank.readers ++ bank.writers)
bank-differs fields bank is h =
    let ports = bank-ports (option_and_then type_shape (first_said type_said fields)) (unwrap_or (first_said depth_said fields) 0) (option_and_then (latency_of (unwrap_or (first_said under_said fields) Undefined)) (first_said latency_said fields)) (flat_map (λ (f : Field). readers_said f.kind) fields) (flat_map (λ (f : Field). writers_said f.kind) fields) bank is in
    subst Differ (sym (ap₂ (λ xs ys. xs ++ ys) ports.0 ports.1)) (sides-differ fields (fields-differ [] fields Differ-none h))

-- ---- the fields of a memory's ports

abbrev dot : List ℕ → List ℕ → List ℕ
dot a r = a ++ 46 ∷ r

abbrev reader_words : List ℕ → List (List ℕ)
reader_words port = dot port (codes "addr") ∷ dot port (codes "en") ∷ dot port (codes "data") ∷ []

abbrev writer_words : List ℕ → List (List ℕ)
writer_words port = dot port (codes "addr") ∷ dot port (codes "en") ∷ dot port (codes "data") ∷ dot port (codes "mask") ∷ []

reader-names : (memory : List ℕ) (bank : Bank) (place : ℕ) (ports : List (List ℕ)) → map (λ (o : Own). o.name) (readers_signals memory bank place ports) ≡ map (dot memory) (flat_map reader_words ports)
reader-names memory bank place [] = refl
reader-names memory bank place (p ∷ ps) = ap (λ l. dot memory (dot p (codes "addr")) ∷ dot memory (dot p (codes "en")) ∷ dot memory (dot p (codes "data")) ∷ l) (reader-names memory bank (suc place) ps)

writer-names : (memory : List ℕ) (bank : Bank) (ports : List (List ℕ)) → map (λ (o : Own). o.name) (flat_map (writer_signals memory bank) ports) ≡ map (dot memory) (flat_map writer_words ports)
writer-names memory bank [] = refl
writer-names memory bank (p ∷ ps) = ap (λ l. dot memory (dot p (codes "addr")) ∷ dot memory (dot p (codes "en")) ∷ dot memory (dot p (codes "data")) ∷ dot memory (dot p (codes "mask")) ∷ l) (writer-names memory bank ps)

fields-named : (memory : List ℕ) (bank : Bank) → map (λ (o : Own). o.name) (memory_signals memory (Some bank)) ≡ map (dot memory) (flat_map reader_words bank.readers ++ flat_map writer_words bank.writers)
fields-named memory bank =
    map-append (λ (o : Own). o.name) (readers_signals memory bank 0 bank.readers) (flat_map (writer_signals memory bank) bank.writers)
    ∙ ap₂ (λ xs ys. xs ++ ys) (reader-names memory bank 0 bank.readers) (writer-names memory bank bank.writers)
    ∙ sym (map-append (dot memory) (flat_map reader_words bank.readers) (flat_map writer_words bank.writers))

-- the four words differ
words-differ : Differ (codes "addr" ∷ codes "en" ∷ codes "data" ∷ codes "mask" ∷ [])
words-differ zero zero d lt within same = absurd (omega (arith, lt))
words-differ zero (suc zero) d lt within same = let first : ℕ = 97 in let second : ℕ = 101 in let e : first ≡ second = ap head_of same in absurd (omega (arith, e))
words-differ zero (suc (suc zero)) d lt within same = let first : ℕ = 97 in let second : ℕ = 100 in let e : first ≡ second = ap head_of same in absurd (omega (arith, e))
words-differ zero (suc (suc (suc zero))) d lt within same = let first : ℕ = 97 in let second : ℕ = 109 in let e : first ≡ second = ap head_of same in absurd (omega (arith, e))
words-differ (suc zero) zero d lt within same = absurd (omega (arith, lt))
words-differ (suc zero) (suc zero) d lt within same = absurd (omega (arith, lt))
words-differ (suc zero) (suc (suc zero)) d lt within same = let first : ℕ = 101 in let second : ℕ = 100 in let e : first ≡ second = ap head_of same in absurd (omega (arith, e))
words-differ (suc zero) (suc (suc (suc zero))) d lt within same = let first : ℕ = 101 in let second : ℕ = 109 in let e : first ≡ second = ap head_of same in absurd (omega (arith, e))
words-differ (suc (suc zero)) zero d lt within same = absurd (omega (arith, lt))
words-differ (suc (suc zero)) (suc zero) d lt within same = absurd (omega (arith, lt))
words-differ (suc (suc zero)) (suc (suc zero)) d lt within same = absurd (omega (arith, lt))
words-differ (suc (suc zero)) (suc (suc (suc zero))) d lt within same = let first : ℕ = 100 in let second : ℕ = 109 in let e : first ≡ second = ap head_of same in absurd (omega (arith, e))
words-differ (suc (suc (suc i))) j d lt within same = absurd (omega (arith, lt, within))
words-differ i (suc (suc (suc (suc j)))) d lt within same = absurd (omega (arith, within))

-- the fields of ports with different names differ
ports-apart : (words : List (List ℕ)) (of : List ℕ → List (List ℕ)) → Differ words → ((p : List ℕ) → of p ≡ map (dot p) words) → (ports : List (List ℕ)) → Differ ports → ((p : List ℕ) → Contains ports p → IsDotless p) → Differ (flat_map of ports)
ports-apart words of differ is ports apart plain =
    parts-differ (λ p. p ∷ []) of ports (subst Differ (sym single) apart) (λ n c. plain n (subst (λ l. Contains l n) single c))
    (λ p c. subst Differ (sym (is p)) (Differ-map (dot p) words (behind-once p) differ))
    (λ p w c k. begins p w (from-map (dot p) words w (subst (λ l. Contains l w) (is p) k)))
  where
    single : flat_map (λ (p : List ℕ). p ∷ []) ports ≡ ports
    single = flat_map_single (λ (p : List ℕ). p) ports ∙ map-id ports

    begins : (p w : List ℕ) → MadeOf (λ r z. dot p r ≡ z) words w → BeginsIn (p ∷ []) w
    begins p w m = record { first = p; among = (0, omega arith, refl); is = inr (m.of, sym m.made) }

port-begins : (of : List ℕ → List (List ℕ)) (words ports : List (List ℕ)) (w : List ℕ) → ((p : List ℕ) → of p ≡ map (dot p) words) → Contains (flat_map of ports) w → BeginsIn ports w
port-begins of words ports w is c =
    let p = from-flat_map of ports w c in
    let r = from-map (dot p.of) words w (subst (λ l. Contains l w) (is p.of) p.made) in
    record { first = p.of; among = p.among; is = inr (r.of, sym r.made) }

-- the fields of a memory have different names
pub fields-apart : (memory : List ℕ) (bank : Bank) → Differ (bank.readers ++ bank.writers) → ((p : List ℕ) → Contains (bank.readers ++ bank.writers) p → IsDotless p) → Differ (map (λ (o : Own). o.name) (memory_signals memory (Some bank)))
fields-apart memory bank differ plain =
    subst Differ (sym (fields-named memory bank))
    (Differ-map (dot memory) (flat_map reader_words bank.readers ++ flat_map writer_words bank.writers) (behind-once memory)
    (Differ-append (flat_map reader_words bank.readers) (flat_map writer_words bank.writers)
    (ports-apart (codes "addr" ∷ codes "en" ∷ codes "data" ∷ []) reader_words (Differ-front (codes "addr" ∷ codes "en" ∷ codes "data" ∷ []) (codes "mask" ∷ []) words-differ) (λ p. refl) bank.readers (Differ-front bank.readers bank.writers differ) (λ p c. plain p (Contains-append_left bank.readers bank.writers p c)))
    (ports-apart (codes "addr" ∷ codes "en" ∷ codes "data" ∷ codes "mask" ∷ []) writer_words words-differ (λ p. refl) bank.writers (Differ-behind bank.readers bank.writers differ) (λ p c. plain p (Contains-append_right bank.readers bank.writers p c)))
    (λ w a b. begins-apart bank.readers bank.writers w differ plain (port-begins reader_words (codes "addr" ∷ codes "en" ∷ codes "data" ∷ []) bank.readers w (λ p. refl) a) (port-begins writer_words (codes "addr" ∷ codes "en" ∷ codes "data" ∷ codes "mask" ∷ []) bank.writers w (λ p. refl) b))))
