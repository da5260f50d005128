-- The memory of a part that leads to one of the whole.
use Rattle.std.proofs.Common.{◌≡◌, ℕ, zero, suc, ◌+◌, ◌<◌, List, [], ◌∷◌, ◌++◌, length, map, take, get_or, refl, sym, ◌∙◌, ap, ap₂, subst, arith}
use Rattle.std.specs.Prelude.{All, Contains, Option, None}
use Rattle.std.proofs.lemmas.List.{take_more, length-take-le}
use Rattle.gg_flat.specs.declared.memory.Memory.{Memory}
use Rattle.gg_flat.specs.declared.memory.Reader.{Reader}
use Rattle.gg_flat.specs.declared.memory.Writer.{Writer}
use Rattle.gg_flat.specs.Memory.{WritesAmong}
use Rattle.gg_flat.specs.WellFormed.{IsClock, IsClockedMemory}
use Rattle.gg_flat.specs.Renaming.{renamed_reader as reader_by, renamed_writer as writer_by, renamed_memory, renamed_reader, renamed_writer}
use Rattle.gg_flat.proofs.ListLemmas.{some-item}
use Rattle.gg_flat_tree.specs.Scoped.{reader_fields, writer_fields}
use Rattle.gg_part.specs.inside.Clocking.{LeadsTo, PortsFollow, clocks_of_ports}
use Rattle.gg_part.specs.inside.Local.{own_by, own_memory}
use Rattle.gg_part.specs.inside.Part.{ReadsAmong}
use Rattle.gg_part.specs.Part.{MemoryBelow, in_whole}
use Rattle.gg_bits.specs.Lists.{by_number}
use Rattle.gg_part.proofs.BackLemmas.{LeadsBack, reader-back, reader-below, writer-back, writer-below}
use Rattle.gg_part.proofs.ClockLemmas.{port-count, port-reader, port-writer, ports-follow}

-- ---- items by their numbers

module _ {A B : Type 0} (f : ℕ → A → B) where
  pub length-by : (n : ℕ) (xs : List A) → length (by_number f n xs) ≡ length xs
  length-by n [] = refl
  length-by n (x ∷ xs) = ap suc (length-by (suc n) xs)

  pub at-by : (n : ℕ) (xs : List A) (i : ℕ) (any : A) (other : B) → i < length xs → get_or (by_number f n xs) i other ≡ f (n + i) (get_or xs i any)
  at-by n [] i any other lt = absurd (omega (arith, lt))
  at-by n (x ∷ xs) zero any other lt = ap (λ k. f k x) (let same : n ≡ n + 0 = omega arith in same)
  at-by n (x ∷ xs) (suc i) any other lt = at-by (suc n) xs i any other (omega (arith, lt)) ∙ ap (λ k. f k (get_or xs i any)) (let same : suc n + i ≡ n + suc i = omega arith in same)

  push-by : (n : ℕ) (xs : List A) (x : A) → by_number f n (xs ++ x ∷ []) ≡ by_number f n xs ++ f (n + length xs) x ∷ []
  push-by n [] x = ap (λ k. f k x ∷ []) (let same : n ≡ n + 0 = omega arith in same)
  push-by n (y ∷ xs) x = ap (λ l. f n y ∷ l) (push-by (suc n) xs x ∙ ap (λ k. by_number f (suc n) xs ++ f k x ∷ []) (let same : suc n + length xs ≡ n + suc (length xs) = omega arith in same))

  more-by : (n : ℕ) (xs : List A) (i : ℕ) (d : A) → i < length xs → by_number f n (take (i + 1) xs) ≡ by_number f n (take i xs) ++ f (n + i) (get_or xs i d) ∷ []
  more-by n xs i d lt =
      ap (by_number f n) (take_more xs i d lt)
      ∙ push-by n (take i xs) (get_or xs i d)
      ∙ ap (λ k. by_number f n (take i xs) ++ f (n + k) (get_or xs i d) ∷ []) (length-take-le i xs (omega (arith, lt)))

  -- one more item
  pub grown-by : (n : ℕ) (xs : List A) (i : ℕ) (d : A) (old new : List B) (one : B) → i < length xs → new ≡ old ++ one ∷ [] → one ≡ f (n + i) (get_or xs i d) → old ≡ by_number f n (take i xs) → new ≡ by_number f n (take (i + 1) xs)
  grown-by n xs i d old new one lt is made before = is ∙ ap₂ (λ (l : List B) y. l ++ y ∷ []) before made ∙ sym (more-by n xs i d lt)

  -- what leads back from each leads back from all
  back-by : (g : B → A) (n : ℕ) (xs : List A) → ((i : ℕ) (any : A) → i < length xs → g (f (n + i) (get_or xs i any)) ≡ get_or xs i any) → map g (by_number f n xs) ≡ xs
  back-by g n [] each = refl
  back-by g n (x ∷ xs) each =
      ap₂ (λ y ys. y ∷ ys) (ap (λ k. g (f k x)) (let same : n ≡ n + 0 = omega arith in same) ∙ each 0 x (omega arith))
      (back-by g (suc n) xs (λ i any lt. ap (λ k. g (f k (get_or xs i any))) (let same : suc n + i ≡ n + suc i = omega arith in same) ∙ each (suc i) any (omega (arith, lt))))

  all-by : (P : B → Type 0) (n : ℕ) (xs : List A) → ((i : ℕ) (any : A) → i < length xs → P (f (n + i) (get_or xs i any))) → All P (by_number f n xs)
  all-by P n xs each k d lt =
      let low : k < length xs = omega (arith, lt, length-by n xs) in
      let any = some-item xs k low in
      subst P (sym (at-by n xs k any d low)) (each k any low)

-- ---- the memory

module _ (globals : List ℕ) (back : ℕ → ℕ) (leads : LeadsBack globals back) (clocks ports : List (Option ℕ)) (memory : Memory)
    (reads : All (λ reader. All (λ s. Contains globals s) (reader_fields reader)) memory.readers)
    (writes : All (λ writer. All (λ s. Contains globals s) (writer_fields writer)) memory.writers)
    (led : (p : ℕ) → p < length (clocks_of_ports memory) → LeadsTo clocks (get_or (clocks_of_ports memory) p None) (get_or ports p None)) where
  of-reader : (p : ℕ) (any : Reader) → p < length memory.readers → LeadsTo clocks (get_or memory.readers p any).clock (get_or ports (0 + p) None)
  of-reader p any lt =
      subst (λ clock. LeadsTo clocks clock (get_or ports (0 + p) None)) (port-reader memory p any lt)
      (subst (λ n. LeadsTo clocks (get_or (clocks_of_ports memory) p None) (get_or ports n None)) (let same : p ≡ 0 + p = omega arith in same) (led p (omega (arith, lt, port-count memory))))

  of-writer : (p : ℕ) (any : Writer) → p < length memory.writers → LeadsTo clocks (get_or memory.writers p any).clock (get_or ports (length memory.readers + p) None)
  of-writer p any lt =
      subst (λ clock. LeadsTo clocks clock (get_or ports (length memory.readers + p) None)) (port-writer memory p any lt)
      (led (length memory.readers + p) (omega (arith, lt, port-count memory)))

  pub memory-renamed : renamed_memory (in_whole globals clocks) (own_memory back ports memory) ≡ memory
  memory-renamed =
      let make : List Reader → List Writer → Memory = λ readers writers. record { word = memory.word; depth = memory.depth; latency = memory.latency; readers = readers; writers = writers } in
      ap₂ make
      (back-by (λ p reader. reader_by (own_by back (get_or ports p None)) reader) (λ reader. renamed_reader (in_whole globals clocks) reader) 0 memory.readers
      (λ p any lt. reader-back globals back leads clocks (get_or ports (0 + p) None) (get_or memory.readers p any) (reads p any lt) (of-reader p any lt).leads))
      (back-by (λ p writer. writer_by (own_by back (get_or ports p None)) writer) (λ writer. renamed_writer (in_whole globals clocks) writer) (length memory.readers) memory.writers
      (λ p any lt. writer-back globals back leads clocks (get_or ports (length memory.readers + p) None) (get_or memory.writers p any) (writes p any lt) (of-writer p any lt).leads))

  pub memory-below : MemoryBelow (length globals) (own_memory back ports memory)
  memory-below =
      record {
        readers = all-by (λ p reader. reader_by (own_by back (get_or ports p None)) reader) (λ reader. ReadsAmong (length globals) reader) 0 memory.readers
            (λ p any lt. reader-below globals back leads (get_or ports (0 + p) None) (get_or memory.readers p any) (reads p any lt));
        writers = all-by (λ p writer. writer_by (own_by back (get_or ports p None)) writer) (λ writer. WritesAmong (length globals) writer) (length memory.readers) memory.writers
            (λ p any lt. writer-below globals back leads (get_or ports (length memory.readers + p) None) (get_or memory.writers p any) (writes p any lt));
      }

  pub memory-clocked : IsClockedMemory (length clocks) (own_memory back ports memory)
  memory-clocked =
      record {
        readers = all-by (λ p reader. reader_by (own_by back (get_or ports p None)) reader) (λ (reader : Reader). IsClock (length clocks) reader.clock) 0 memory.readers (λ p any lt. (of-reader p any lt).known);
        writers = all-by (λ p writer. writer_by (own_by back (get_or ports p None)) writer) (λ (writer : Writer). IsClock (length clocks) writer.clock) (length memory.readers) memory.writers (λ p any lt. (of-writer p any lt).known);
      }

  pub memory-follows : PortsFollow ports (own_memory back ports memory)
  memory-follows =
      let read = λ (p : ℕ) (reader : Reader). reader_by (own_by back (get_or ports p None)) reader in
      let write = λ (p : ℕ) (writer : Writer). writer_by (own_by back (get_or ports p None)) writer in
      ports-follow ports (own_memory back ports memory) (length memory.readers) (length-by read 0 memory.readers)
      (λ p any lt. let low : p < length memory.readers = omega (arith, lt, length-by read 0 memory.readers) in
      ap (λ (r : Reader). r.clock) (at-by read 0 memory.readers p any any low) ∙ ap (λ n. get_or ports n None) (let same : 0 + p ≡ p = omega arith in same))
      (λ p any lt. let low : p < length memory.writers = omega (arith, lt, length-by write (length memory.readers) memory.writers) in
      ap (λ (w : Writer). w.clock) (at-by write (length memory.readers) memory.writers p any any low))
