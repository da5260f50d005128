-- A memory that stands alone: what its outs need, and its ports.
use Rattle.std.proofs.Common.{◌≡◌, ℕ, zero, suc, ◌+◌, ◌<◌, ◌≤◌, List, [], ◌∷◌, length, map, get_or, refl, sym, ◌∙◌, ap, subst, inl, inr, ◌⊎◌, arith}
use Rattle.std.specs.Prelude.{Contains, All, replicate, slice_index_or, None}
use Rattle.std.proofs.lemmas.Bool.{cases_lt}
use Rattle.std.proofs.lemmas.List.{get_or-map, get_or_past, length-map}
use Rattle.std.proofs.lemmas.List.Elements.{All-nil, All-cons, All-append, All-map}
use Rattle.gg_flat.specs.declared.memory.UnderWrite.TheVariants.{Old, New, Undefined}
use Rattle.gg_flat.specs.declared.memory.Latency.{Latency}
use Rattle.gg_flat.specs.declared.memory.Latency.TheVariants.{Zero, One}
use Rattle.gg_flat.specs.declared.memory.Reader.{Reader}
use Rattle.gg_flat.specs.declared.memory.Writer.{Writer}
use Rattle.gg_flat.specs.declared.memory.Memory.{Memory}
use Rattle.gg_flat.specs.declared.piece.Driver.{Driver}
use Rattle.gg_flat.specs.Line.{value_at}
use Rattle.gg_flat.specs.Circuit.{FlatCircuit, driver_at, reader_at}
use Rattle.gg_flat.specs.Reads.{NamesSignal, Reads}
use Rattle.gg_flat.specs.Memory.{LooksAmong, WritesAmong}
use Rattle.gg_flat.specs.Served.{Access, ByReader, ByWriter, by_readers, by_writers, due_of}
use Rattle.gg_flat.specs.WellFormed.{AreDriven, reader_driver}
use Rattle.gg_flat.proofs.ListLemmas.{Contains-cases}
use Rattle.gg_node.specs.Machine.{Port, needs_at}
use Rattle.gg_node.specs.Step.{fields_of}
use Rattle.gg_memunit.specs.MemoryUnit.{count_of, outs_of, port_of, ports_of, needs_by, needs_of, IsMemoryPiece}

-- ---- needs

-- none of n outs needs anything
pub no-needs : (n o i : ℕ) → Contains (needs_at (replicate n []) o) i → ⊥
no-needs zero o i has = absurd (omega (arith, has.1))
no-needs (suc n) zero i has = absurd (omega (arith, has.1))
no-needs (suc n) (suc o) i has = no-needs n o i has

-- an out that needs something exists
pub needs-there : (needs : List (List ℕ)) (o i : ℕ) → Contains (needs_at needs o) i → o < length needs
needs-there needs o i has = by (cases_lt o (length needs))
  where
    by : (o < length needs) ⊎ (length needs ≤ o) → o < length needs
    by (inl lt) = lt
    by (inr le) = let none = subst (λ (l : List ℕ). Contains l i) (get_or_past needs o [] le) has in absurd (omega (arith, none.1))

-- what the data of a reader needs is an in, and the driver of the data names it
record IsNamed (n : ℕ) (driver : Driver) (i : ℕ) : Type 0 where
  within : i < n
  named : NamesSignal driver i

reader-needs : (latency : Latency) (n o i : ℕ) (reader : Reader) (driver : Driver) → LooksAmong n reader → driver ≡ reader_driver latency 0 o reader → Contains (needs_by latency reader) i → IsNamed n driver i
reader-needs (One under) n o i reader driver looks driven has = absurd (omega (arith, has.1))
reader-needs Zero n o i reader driver looks driven has = subst (λ (d : Driver). IsNamed n d i) (sym driven) (first (Contains-cases reader.addr i (reader.en ∷ []) has))
  where
    second : (reader.en ≡ i) ⊎ Contains [] i → IsNamed n (reader_driver Zero 0 o reader) i
    second (inl is) = subst (λ k. IsNamed n (reader_driver Zero 0 o reader) k) is (record { within = looks.1; named = inr refl })
    second (inr none) = absurd (omega (arith, none.1))

    first : (reader.addr ≡ i) ⊎ Contains (reader.en ∷ []) i → IsNamed n (reader_driver Zero 0 o reader) i
    first (inl is) = subst (λ k. IsNamed n (reader_driver Zero 0 o reader) k) is (record { within = looks.0; named = inl refl })
    first (inr rest) = second (Contains-cases reader.en i [] rest)

memory-needs : (memories : List Memory) (driver : ℕ → Driver) (n o i : ℕ) → AreDriven driver 0 (slice_index_or (map (λ memory. memory.latency) memories) 0 Zero) (slice_index_or (map (λ memory. memory.readers) memories) 0 []) → All (λ memory. All (LooksAmong n) memory.readers) memories → Contains (needs_at (needs_of memories) o) i
    → IsNamed n (driver (value_at (outs_of memories) o)) i
memory-needs [] driver n o i driven looks has = absurd (omega (arith, has.1))
memory-needs (memory ∷ memories) driver n o i driven looks has =
    let nobody : Reader = record { addr = 0; en = 0; word = 0; clock = None } in
    let count : length (map (needs_by memory.latency) memory.readers) ≡ length memory.readers = length-map memory.readers (needs_by memory.latency) in
    let there = needs-there (map (needs_by memory.latency) memory.readers) o i has in
    let low : o < length memory.readers = omega (arith, there, count) in
    let own = subst (λ (l : List ℕ). Contains l i) (get_or-map (needs_by memory.latency) memory.readers o nobody [] low) has in
    subst (λ s. IsNamed n (driver s) i) (sym (get_or-map (λ (reader : Reader). reader.word) memory.readers o nobody 0 low))
    (reader-needs memory.latency n o i (reader_at memory.readers o) (driver (reader_at memory.readers o).word) (looks 0 memory (omega arith) o nobody low) (driven o low) own)

-- an out of a memory reads what it needs
pub record IsReadAt (piece : FlatCircuit) (o i : ℕ) : Type 0 where
  pub within : i < length piece.ins
  pub reads : Reads piece (value_at piece.outs o) (value_at piece.ins i)

pub piece-needs : (piece : FlatCircuit) (o i : ℕ) → IsMemoryPiece piece → o < length piece.outs → Contains (needs_at (needs_of piece.memories) o) i → IsReadAt piece o i
piece-needs piece o i is lt has =
    let some : 0 < length piece.memories = omega (arith, is.one) in
    let named = memory-needs piece.memories (driver_at piece) (length piece.ins) o i (is.formed.reads 0 some) is.readers has in
    let out : value_at (outs_of piece.memories) o ≡ value_at piece.outs o = ap (λ (l : List ℕ). value_at l o) (sym is.outs) in
    record {
      within = named.within;
      reads =
          record {
            signal = is.formed.outs o lt;
            names = subst (NamesSignal (driver_at piece (value_at piece.outs o))) (sym (is.first i named.within)) (subst (λ s. NamesSignal (driver_at piece s) i) out named.named);
          };
    }

-- there is an out for each list of needs
pub needs-count : (memories : List Memory) → length (needs_of memories) ≡ length (outs_of memories)
needs-count [] = refl
needs-count (memory ∷ memories) = length-map memory.readers (needs_by memory.latency) ∙ sym (length-map memory.readers (λ (reader : Reader). reader.word))

-- ---- ports

module _ (P : Access → Type 0) where
  All-readers : (r : ℕ) (readers : List Reader) → ((k : ℕ) (any : Reader) → k < length readers → P (ByReader (r + k) (get_or readers k any))) → All P (by_readers r readers)
  All-readers r [] each = All-nil P
  All-readers r (reader ∷ readers) each =
      All-cons P (ByReader r reader) (by_readers (suc r) readers) (subst (λ k. P (ByReader k reader)) (let same : r + 0 ≡ r = omega arith in same) (each 0 reader (omega arith)))
      (All-readers (suc r) readers (λ k any lt. subst (λ j. P (ByReader j (get_or readers k any))) (let same : r + suc k ≡ suc r + k = omega arith in same) (each (suc k) any (omega (arith, lt)))))

  All-writers : (w : ℕ) (writers : List Writer) → ((k : ℕ) (any : Writer) → k < length writers → P (ByWriter (w + k) (get_or writers k any))) → All P (by_writers w writers)
  All-writers w [] each = All-nil P
  All-writers w (writer ∷ writers) each =
      All-cons P (ByWriter w writer) (by_writers (suc w) writers) (subst (λ k. P (ByWriter k writer)) (let same : w + 0 ≡ w = omega arith in same) (each 0 writer (omega arith)))
      (All-writers (suc w) writers (λ k any lt. subst (λ j. P (ByWriter j (get_or writers k any))) (let same : w + suc k ≡ suc w + k = omega arith in same) (each (suc k) any (omega (arith, lt)))))

  All-due : (latency : Latency) (readers : List Reader) (writers : List Writer) → ((k : ℕ) (any : Reader) → k < length readers → P (ByReader (0 + k) (get_or readers k any))) → ((k : ℕ) (any : Writer) → k < length writers → P (ByWriter (0 + k) (get_or writers k any)))
      → All P (due_of latency readers writers)
  All-due Zero readers writers reads writes = All-writers 0 writers writes
  All-due (One Old) readers writers reads writes = All-append P (by_readers 0 readers) (by_writers 0 writers) (All-readers 0 readers reads) (All-writers 0 writers writes)
  All-due (One Undefined) readers writers reads writes = All-append P (by_readers 0 readers) (by_writers 0 writers) (All-readers 0 readers reads) (All-writers 0 writers writes)
  All-due (One New) readers writers reads writes = All-append P (by_writers 0 writers) (by_readers 0 readers) (All-writers 0 writers writes) (All-readers 0 readers reads)

-- a port looks at ins that exist, and its number is below the count of ports
pub record IsFitPort (n count : ℕ) (port : Port) : Type 0 where
  pub fields : All (λ i. i < n) (fields_of port.access)
  pub number : port.number < count

reader-port : (n count r readers : ℕ) (reader : Reader) → LooksAmong n reader → r < count → IsFitPort n count (port_of readers (ByReader r reader))
reader-port n count r readers reader looks low =
    record { fields = All-cons (λ i. i < n) reader.addr (reader.en ∷ []) looks.0 (All-cons (λ i. i < n) reader.en [] looks.1 (All-nil (λ i. i < n))); number = low }

writer-port : (n count w readers : ℕ) (writer : Writer) → WritesAmong n writer → readers + w < count → IsFitPort n count (port_of readers (ByWriter w writer))
writer-port n count w readers writer looks low =
    record {
      fields = All-cons (λ i. i < n) writer.addr (writer.en ∷ writer.word ∷ writer.mask ∷ []) looks.0
          (All-cons (λ i. i < n) writer.en (writer.word ∷ writer.mask ∷ []) looks.1
          (All-cons (λ i. i < n) writer.word (writer.mask ∷ []) looks.2 (All-cons (λ i. i < n) writer.mask [] looks.3 (All-nil (λ i. i < n)))));
      number = low;
    }

pub ports-fit : (memories : List Memory) (n : ℕ) → All (λ memory. All (LooksAmong n) memory.readers) memories → All (λ memory. All (WritesAmong n) memory.writers) memories → All (IsFitPort n (count_of memories)) (ports_of memories)
ports-fit [] n looks writes = All-nil (IsFitPort n 0)
ports-fit (memory ∷ memories) n looks writes =
    let readers = length memory.readers in
    let count = length memory.readers + length memory.writers in
    All-map (IsFitPort n count) (port_of readers) (due_of memory.latency memory.readers memory.writers)
    (All-due (λ access. IsFitPort n count (port_of readers access)) memory.latency memory.readers memory.writers
    (λ k any lt. reader-port n count (0 + k) readers (get_or memory.readers k any) (looks 0 memory (omega arith) k any lt) (omega (arith, lt)))
    (λ k any lt. writer-port n count (0 + k) readers (get_or memory.writers k any) (writes 0 memory (omega arith) k any lt) (omega (arith, lt))))
