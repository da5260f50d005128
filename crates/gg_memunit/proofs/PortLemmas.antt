-- Which port is at a place of the order in which ports are served.
use Rattle.std.proofs.Common.{◌≡◌, ℕ, zero, suc, ◌+◌, ◌-◌, ◌<◌, ◌≤◌, List, [], ◌∷◌, ◌++◌, Option, Some, None, Bool, true, false, length, map, refl, sym, ap, ◌∙◌, inl, inr, ◌⊎◌, arith}
use Rattle.std.specs.Prelude.{slice_get, nat_lt, if◌then◌else◌}
use Rattle.std.specs.Option.{option_map}
use Rattle.std.proofs.lemmas.Option.{slice_get-map, none-some, slice_get_past}
use Rattle.std.proofs.lemmas.Bool.{cases_lt, lt-ltb, le-ltb}
use Rattle.std.proofs.lemmas.List.{length-map, length-append}
use Rattle.gg_flat.specs.declared.memory.UnderWrite.TheVariants.{Old, New, Undefined}
use Rattle.gg_flat.specs.declared.memory.Latency.{Latency}
use Rattle.gg_flat.specs.declared.memory.Latency.TheVariants.{Zero, One}
use Rattle.gg_flat.specs.declared.memory.Reader.{Reader}
use Rattle.gg_flat.specs.declared.memory.Writer.{Writer}
use Rattle.gg_flat.specs.Circuit.{reader_at}
use Rattle.gg_flat.specs.Memory.{read_count}
use Rattle.gg_flat.specs.Served.{Access, ByReader, ByWriter, by_readers, by_writers, due_of}
use Rattle.gg_node.specs.Machine.{Port, latched_value}
use Rattle.gg_node.specs.inside.Machine.{port_number}
use Rattle.gg_memunit.specs.MemoryUnit.{port_of, ports_by}
use Rattle.gg_memunit.specs.inside.MemoryUnit.{count_by, number_by, writer_at, access_of}

-- ---- lists

-- items of two joined lists, and items past the end
left : (xs ys : List Access) (j : ℕ) → j < length xs → slice_get (xs ++ ys) j ≡ slice_get xs j
left [] ys j below = absurd (omega arith)
left (x ∷ xs) ys zero below = refl
left (x ∷ xs) ys (suc j) below = left xs ys j (omega arith)

right : (xs ys : List Access) (j : ℕ) → length xs ≤ j → slice_get (xs ++ ys) j ≡ slice_get ys (j - length xs)
right [] ys j above = ap (slice_get ys) (let same : j ≡ j - 0 = omega arith in same)
right (x ∷ xs) ys zero above = absurd (omega arith)
right (x ∷ xs) ys (suc j) above = right xs ys j (omega arith) ∙ ap (slice_get ys) (let same : j - length xs ≡ suc j - suc (length xs) = omega arith in same)

-- ---- accesses

pub length-by_readers : (r : ℕ) (readers : List Reader) → length (by_readers r readers) ≡ length readers
length-by_readers r [] = refl
length-by_readers r (reader ∷ readers) = ap suc (length-by_readers (suc r) readers)

pub length-by_writers : (w : ℕ) (writers : List Writer) → length (by_writers w writers) ≡ length writers
length-by_writers w [] = refl
length-by_writers w (writer ∷ writers) = ap suc (length-by_writers (suc w) writers)

reader-from : (r : ℕ) (readers : List Reader) (j : ℕ) → j < length readers → slice_get (by_readers r readers) j ≡ Some (ByReader (r + j) (reader_at readers j))
reader-from r [] j below = absurd (omega arith)
reader-from r (reader ∷ readers) zero below = ap (λ k. Some (ByReader k reader)) (let same : r ≡ r + 0 = omega arith in same)
reader-from r (reader ∷ readers) (suc j) below =
    reader-from (suc r) readers j (omega arith)
    ∙ ap (λ k. Some (ByReader k (reader_at readers j))) (let same : suc r + j ≡ r + suc j = omega arith in same)

writer-from : (w : ℕ) (writers : List Writer) (j : ℕ) → j < length writers → slice_get (by_writers w writers) j ≡ Some (ByWriter (w + j) (writer_at writers j))
writer-from w [] j below = absurd (omega arith)
writer-from w (writer ∷ writers) zero below = ap (λ k. Some (ByWriter k writer)) (let same : w ≡ w + 0 = omega arith in same)
writer-from w (writer ∷ writers) (suc j) below =
    writer-from (suc w) writers j (omega arith)
    ∙ ap (λ k. Some (ByWriter k (writer_at writers j))) (let same : suc w + j ≡ w + suc j = omega arith in same)

reader-here : (readers : List Reader) (j : ℕ) → j < length readers → slice_get (by_readers 0 readers) j ≡ Some (ByReader j (reader_at readers j))
reader-here readers j below = reader-from 0 readers j below ∙ ap (λ k. Some (ByReader k (reader_at readers j))) (let same : 0 + j ≡ j = omega arith in same)

writer-here : (writers : List Writer) (j : ℕ) → j < length writers → slice_get (by_writers 0 writers) j ≡ Some (ByWriter j (writer_at writers j))
writer-here writers j below = writer-from 0 writers j below ∙ ap (λ k. Some (ByWriter k (writer_at writers j))) (let same : 0 + j ≡ j = omega arith in same)

-- ---- ports

-- the port of a reader, and the port of a writer
abbrev pub reader-port : ℕ → Reader → Port
reader-port r reader = record { number = r; access = ByReader r reader }

abbrev pub writer-port : ℕ → ℕ → Writer → Port
writer-port readers w writer = record { number = readers + w; access = ByWriter w writer }

-- the port at a place is the port of the access at this place
port-at : (n : ℕ) (accesses : List Access) (j : ℕ) (access : Access) → slice_get accesses j ≡ Some access → slice_get (map (port_of n) accesses) j ≡ Some (port_of n access)
port-at n accesses j access is = slice_get-map (port_of n) accesses j ∙ ap (option_map (port_of n)) is

module _ (readers : List Reader) (writers : List Writer) (j : ℕ) where
  pub zero-writer : j < length writers → slice_get (ports_by Zero readers writers) j ≡ Some (writer-port (length readers) j (writer_at writers j))
  zero-writer below = port-at (length readers) (by_writers 0 writers) j (ByWriter j (writer_at writers j)) (writer-here writers j below)

  pub old-reader : j < length readers → slice_get (ports_by (One Old) readers writers) j ≡ Some (reader-port j (reader_at readers j))
  old-reader below =
      port-at (length readers) (by_readers 0 readers ++ by_writers 0 writers) j (ByReader j (reader_at readers j))
      (left (by_readers 0 readers) (by_writers 0 writers) j (omega (arith, below, length-by_readers 0 readers)) ∙ reader-here readers j below)

  pub old-writer : length readers ≤ j → j < length readers + length writers → slice_get (ports_by (One Old) readers writers) j ≡ Some (writer-port (length readers) (j - length readers) (writer_at writers (j - length readers)))
  old-writer above below =
      port-at (length readers) (by_readers 0 readers ++ by_writers 0 writers) j (ByWriter (j - length readers) (writer_at writers (j - length readers)))
      (right (by_readers 0 readers) (by_writers 0 writers) j (omega (arith, above, length-by_readers 0 readers))
      ∙ ap (λ n. slice_get (by_writers 0 writers) (j - n)) (length-by_readers 0 readers)
      ∙ writer-here writers (j - length readers) (omega arith))

  pub new-writer : j < length writers → slice_get (ports_by (One New) readers writers) j ≡ Some (writer-port (length readers) j (writer_at writers j))
  new-writer below =
      port-at (length readers) (by_writers 0 writers ++ by_readers 0 readers) j (ByWriter j (writer_at writers j))
      (left (by_writers 0 writers) (by_readers 0 readers) j (omega (arith, below, length-by_writers 0 writers)) ∙ writer-here writers j below)

  pub new-reader : length writers ≤ j → j < length readers + length writers → slice_get (ports_by (One New) readers writers) j ≡ Some (reader-port (j - length writers) (reader_at readers (j - length writers)))
  new-reader above below =
      port-at (length readers) (by_writers 0 writers ++ by_readers 0 readers) j (ByReader (j - length writers) (reader_at readers (j - length writers)))
      (right (by_writers 0 writers) (by_readers 0 readers) j (omega (arith, above, length-by_writers 0 writers))
      ∙ ap (λ n. slice_get (by_readers 0 readers) (j - n)) (length-by_writers 0 writers)
      ∙ reader-here readers (j - length writers) (omega arith))

-- ---- the access of a number

pub writer-access : (rs readers : List Reader) (ws writers : List Writer) (p : ℕ) → rs ≡ readers → ws ≡ writers → length readers ≤ p → ByWriter (p - length readers) (writer_at ws (p - length rs)) ≡ access_of readers writers p
writer-access rs readers ws writers p same others above =
    ap (λ (rs : List Reader). ByWriter (p - length readers) (writer_at ws (p - length rs))) same
    ∙ ap (λ (ws : List Writer). ByWriter (p - length readers) (writer_at ws (p - length readers))) others
    ∙ sym (ap (λ b. if b then ByReader p (reader_at readers p) else ByWriter (p - length readers) (writer_at writers (p - length readers))) (le-ltb p (length readers) above))

-- ---- how many there are

pub count_ports : (latency : Latency) (readers : List Reader) (writers : List Writer) → length (ports_by latency readers writers) ≡ count_by latency (length readers) (length writers)
count_ports latency readers writers = length-map (due_of latency readers writers) (port_of (length readers)) ∙ by latency
  where
    both : length (by_readers 0 readers ++ by_writers 0 writers) ≡ length readers + length writers
    both = omega (arith, length-append (by_readers 0 readers) (by_writers 0 writers), length-by_readers 0 readers, length-by_writers 0 writers)

    by : (latency : Latency) → length (due_of latency readers writers) ≡ count_by latency (length readers) (length writers)
    by Zero = length-by_writers 0 writers
    by (One Old) = both
    by (One Undefined) = both
    by (One New) = omega (arith, length-append (by_writers 0 writers) (by_readers 0 readers), length-by_readers 0 readers, length-by_writers 0 writers)

pub none_past : (latency : Latency) (readers : List Reader) (writers : List Writer) (j : ℕ) → length (ports_by latency readers writers) ≤ j → slice_get (ports_by latency readers writers) j ≡ None
none_past latency readers writers j above = slice_get_past (ports_by latency readers writers) j above

-- ---- their numbers

pub number_at : (latency : Latency) (readers : List Reader) (writers : List Writer) (j : ℕ) → j < count_by latency (length readers) (length writers) → port_number (slice_get (ports_by latency readers writers) j) ≡ Some (number_by latency (length readers) (length writers) j)
number_at latency readers writers j = by latency
  where
    old : j < length readers + length writers → port_number (slice_get (ports_by (One Old) readers writers) j) ≡ Some j
    old below = elim (cases_lt j (length readers)) [
      | inl lt ↦ ap port_number (old-reader readers writers j lt)
      | inr ge ↦ ap port_number (old-writer readers writers j ge below) ∙ ap (λ n. Some n) (let same : length readers + (j - length readers) ≡ j = omega arith in same)
    ]

    new : j < length readers + length writers → port_number (slice_get (ports_by (One New) readers writers) j) ≡ Some (number_by (One New) (length readers) (length writers) j)
    new below = elim (cases_lt j (length writers)) [
      | inl lt ↦ ap port_number (new-writer readers writers j lt) ∙ sym (ap (λ b. Some (if b then length readers + j else j - length writers)) (lt-ltb j (length writers) lt))
      | inr ge ↦ ap port_number (new-reader readers writers j ge below) ∙ sym (ap (λ b. Some (if b then length readers + j else j - length writers)) (le-ltb j (length writers) ge))
    ]

    by : (latency : Latency) → j < count_by latency (length readers) (length writers) → port_number (slice_get (ports_by latency readers writers) j) ≡ Some (number_by latency (length readers) (length writers) j)
    by Zero below = ap port_number (zero-writer readers writers j below)
    by (One Old) below = old below
    by (One Undefined) below = old below
    by (One New) below = new below

-- ---- the port of a number

-- a port is that of a late reader, or of a writer
abbrev pub IsOfReader : Latency → List Reader → Option Port → Type 0
IsOfReader latency readers port = (k : ℕ) × (k < length readers) × (read_count latency readers ≡ length readers) × (port ≡ Some (reader-port k (reader_at readers k)))

abbrev pub IsOfWriter : List Reader → List Writer → Option Port → Type 0
IsOfWriter readers writers port = (k : ℕ) × (k < length writers) × (port ≡ Some (writer-port (length readers) k (writer_at writers k)))

classify : (latency : Latency) (readers : List Reader) (writers : List Writer) (j : ℕ) → j < count_by latency (length readers) (length writers) → IsOfReader latency readers (slice_get (ports_by latency readers writers) j) ⊎ IsOfWriter readers writers (slice_get (ports_by latency readers writers) j)
classify latency readers writers j = by latency
  where
    old : j < length readers + length writers → IsOfReader (One Old) readers (slice_get (ports_by (One Old) readers writers) j) ⊎ IsOfWriter readers writers (slice_get (ports_by (One Old) readers writers) j)
    old below = elim (cases_lt j (length readers)) [
      | inl lt ↦ inl (j, lt, refl, old-reader readers writers j lt)
      | inr ge ↦ inr (j - length readers, omega arith, old-writer readers writers j ge below)
    ]

    new : j < length readers + length writers → IsOfReader (One New) readers (slice_get (ports_by (One New) readers writers) j) ⊎ IsOfWriter readers writers (slice_get (ports_by (One New) readers writers) j)
    new below = elim (cases_lt j (length writers)) [
      | inl lt ↦ inr (j, lt, new-writer readers writers j lt)
      | inr ge ↦ inl (j - length writers, omega arith, refl, new-reader readers writers j ge below)
    ]

    by : (latency : Latency) → j < count_by latency (length readers) (length writers) → IsOfReader latency readers (slice_get (ports_by latency readers writers) j) ⊎ IsOfWriter readers writers (slice_get (ports_by latency readers writers) j)
    by Zero below = inr (j, below, zero-writer readers writers j below)
    by (One Old) below = old below
    by (One Undefined) below = old below
    by (One New) below = new below

module _ (latency : Latency) (readers : List Reader) (writers : List Writer) (j p : ℕ) (is : port_number (slice_get (ports_by latency readers writers) j) ≡ Some p) where
  pub due-below : j < count_by latency (length readers) (length writers)
  due-below = elim (cases_lt j (count_by latency (length readers) (length writers))) [
    | inl lt ↦ lt
    | inr ge ↦ absurd (none-some p (sym (ap port_number (none_past latency readers writers j (omega (arith, ge, count_ports latency readers writers)))) ∙ is))
  ]

  -- the number of a known port
  number-is : (port : Port) → slice_get (ports_by latency readers writers) j ≡ Some port → port.number ≡ p
  number-is port known = ap latched_value (sym (ap port_number known) ∙ is)

  pub reader-due : p < length readers → (read_count latency readers ≡ length readers) × (slice_get (ports_by latency readers writers) j ≡ Some (reader-port p (reader_at readers p)))
  reader-due below = elim (classify latency readers writers j due-below) [
    | inl r ↦ (r.2, r.3 ∙ ap (λ k. Some (reader-port k (reader_at readers k))) (number-is (reader-port r.0 (reader_at readers r.0)) r.3))
    | inr w ↦ absurd (omega (arith, below, number-is (writer-port (length readers) w.0 (writer_at writers w.0)) w.2))
  ]

  pub writer-due : length readers ≤ p → (p - length readers < length writers) × (slice_get (ports_by latency readers writers) j ≡ Some (writer-port (length readers) (p - length readers) (writer_at writers (p - length readers))))
  writer-due above = elim (classify latency readers writers j due-below) [
    | inl r ↦ absurd (omega (arith, above, r.1, number-is (reader-port r.0 (reader_at readers r.0)) r.3))
    | inr w ↦
        let same : w.0 ≡ p - length readers = omega (arith, number-is (writer-port (length readers) w.0 (writer_at writers w.0)) w.2) in
        (omega (arith, same, w.1), w.2 ∙ ap (λ k. Some (writer-port (length readers) k (writer_at writers k))) same)
  ]

  -- the port that is due has the access of its number
  pub port-due : slice_get (ports_by latency readers writers) j ≡ Some (record { number = p; access = access_of readers writers p })
  port-due = elim (cases_lt p (length readers)) [
    | inl lt ↦ (reader-due lt).1 ∙ sym (chosen true (lt-ltb p (length readers) lt))
    | inr ge ↦
        (writer-due ge).1
        ∙ ap (λ n. Some (record { number = n; access = ByWriter (p - length readers) (writer_at writers (p - length readers)) })) (let same : length readers + (p - length readers) ≡ p = omega (arith, ge) in same)
        ∙ sym (chosen false (le-ltb p (length readers) ge))
  ]
    where
      chosen : (b : Bool) → nat_lt p (length readers) ≡ b → ◌≡◌ {A = Option Port} (Some (record { number = p; access = access_of readers writers p })) (Some (record { number = p; access = if b then ByReader p (reader_at readers p) else ByWriter (p - length readers) (writer_at writers (p - length readers)) }))
      chosen b is = ap (λ b. Some (record { number = p; access = if b then ByReader p (reader_at readers p) else ByWriter (p - length readers) (writer_at writers (p - length readers)) })) is

  pub port-below : p < length readers + length writers
  port-below = elim (cases_lt p (length readers)) [
    | inl lt ↦ omega (arith, lt)
    | inr ge ↦ omega (arith, ge, (writer-due ge).0)
  ]
