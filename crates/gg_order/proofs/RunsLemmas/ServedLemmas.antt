-- A memory after all accesses of its due list holds what it holds after the cycle.
use Rattle.std.proofs.Common.{◌≡◌, ℕ, suc, ◌+◌, ◌<◌, inl, inr, get_or, replicate, take, List, [], ◌∷◌, ◌++◌, Bool, true, false, length, set, refl, sym, ◌∙◌, ap, ap₂, arith}
use Rattle.std.specs.Prelude.{fold, ◌==◌, ◌&&◌, if◌then◌else◌}
use Rattle.std.proofs.lemmas.List.{length-append, length-replicate, append_assoc, take_more, nil_from_length}
use Rattle.std.proofs.lemmas.List.Sums.{fold-append}
use Rattle.std.proofs.Math.Seq.{take-length}
use Rattle.gg_flat.specs.declared.memory.UnderWrite.TheVariants.{Old, New, Undefined}
use Rattle.gg_flat.specs.declared.memory.Latency.{Latency}
use Rattle.gg_flat.specs.declared.memory.Latency.TheVariants.{Zero, One}
use Rattle.gg_flat.specs.declared.memory.Reader.{Reader}
use Rattle.gg_flat.specs.declared.memory.Writer.{Writer}
use Rattle.gg_flat.specs.declared.memory.Memory.{Memory}
use Rattle.gg_flat.specs.Memory.{Bank, found_word, read_word, next_words, next_read, late_reads, next_reads, next_bank, read_count, IsBank}
use Rattle.gg_flat.specs.Clock.{ticks}
use Rattle.gg_flat.specs.Line.{value_at}
use Rattle.gg_flat.specs.Served.{Access, ByReader, ByWriter, by_readers, by_writers, due_of, written, after_access}
use Rattle.gg_flat.specs.inside.Served.{AccessNames, SomeNames, MemoryNames, due_list, after_accesses}
use Rattle.gg_flat.proofs.WordLemmas.{written-all}

-- what a memory holds, from its words and its read registers
abbrev bank_of : List ℕ → List ℕ → Bank
bank_of words reads = record { words = words; reads = reads }

set-seam : (xs ys : List ℕ) (y v : ℕ) → set (xs ++ y ∷ ys) (length xs) v ≡ xs ++ v ∷ ys
set-seam [] ys y v = refl
set-seam (x ∷ xs) ys y v = ap (λ l. x ∷ l) (set-seam xs ys y v)

module _ (edges : List Bool) (signals : List ℕ) where
  -- after the accesses of all writers the words are written, and the read registers are as before
  fold-writers : (w : ℕ) (writers : List Writer) (words reads : List ℕ) → fold (after_access edges signals) (bank_of words reads) (by_writers w writers) ≡ bank_of (fold (written edges signals) words writers) reads
  fold-writers w [] words reads = refl
  fold-writers w (writer ∷ writers) words reads = fold-writers (suc w) writers (written edges signals words writer) reads

  all-writers : (writers : List Writer) (words reads : List ℕ) → fold (after_access edges signals) (bank_of words reads) (by_writers 0 writers) ≡ bank_of (next_words edges signals writers words) reads
  all-writers writers words reads = fold-writers 0 writers words reads ∙ ap (λ w. bank_of w reads) (written-all edges signals writers words)

  -- after the accesses of these readers their read registers, which come after `done`, have what they find
  fold-readers : (words done rest : List ℕ) (readers : List Reader) → length rest ≡ length readers → fold (after_access edges signals) (bank_of words (done ++ rest)) (by_readers (length done) readers) ≡ bank_of words (done ++ late_reads edges signals words readers rest)
  fold-readers words done [] [] count = refl
  fold-readers words done [] (reader ∷ readers) count = absurd (omega arith)
  fold-readers words done (x ∷ rest) [] count = absurd (omega arith)
  fold-readers words done (x ∷ rest) (reader ∷ readers) count =
      let found = found_word signals words reader in
      let v = next_read edges signals words reader x in
      let place : suc (length done) ≡ length (done ++ v ∷ []) = omega (arith, length-append done (v ∷ [])) in
      ap (λ reads. fold (after_access edges signals) (bank_of words reads) (by_readers (suc (length done)) readers)) (seam found (ticks edges reader.clock))
      ∙ ap (λ r. fold (after_access edges signals) (bank_of words ((done ++ v ∷ []) ++ rest)) (by_readers r readers)) place
      ∙ fold-readers words (done ++ v ∷ []) rest readers (omega arith)
      ∙ ap (bank_of words) (append_assoc done (v ∷ []) (late_reads edges signals words readers rest))
    where
      seam : (found : ℕ) (b : Bool) → (if b then set (done ++ x ∷ rest) (length done) found else done ++ x ∷ rest) ≡ (done ++ (if b then found else x) ∷ []) ++ rest
      seam found true = set-seam done rest x found ∙ sym (append_assoc done (found ∷ []) rest)
      seam found false = sym (append_assoc done (x ∷ []) rest)

  all-readers : (words reads : List ℕ) (readers : List Reader) → length reads ≡ length readers → fold (after_access edges signals) (bank_of words reads) (by_readers 0 readers) ≡ bank_of words (late_reads edges signals words readers reads)
  all-readers words reads readers count = fold-readers words [] reads readers count

  old-due : (readers : List Reader) (writers : List Writer) (words reads : List ℕ) → length reads ≡ length readers
      → fold (after_access edges signals) (bank_of words reads) (by_readers 0 readers ++ by_writers 0 writers) ≡ bank_of (next_words edges signals writers words) (late_reads edges signals words readers reads)
  old-due readers writers words reads count =
      fold-append (after_access edges signals) (bank_of words reads) (by_readers 0 readers) (by_writers 0 writers)
      ∙ ap (λ b. fold (after_access edges signals) b (by_writers 0 writers)) (all-readers words reads readers count)
      ∙ all-writers writers words (late_reads edges signals words readers reads)

  all-due : (latency : Latency) (readers : List Reader) (writers : List Writer) (words reads : List ℕ) → length reads ≡ read_count latency readers
      → fold (after_access edges signals) (bank_of words reads) (due_of latency readers writers) ≡ bank_of (next_words edges signals writers words) (next_reads edges signals latency readers words (next_words edges signals writers words) reads)
  all-due Zero readers writers words reads count = all-writers writers words reads ∙ ap (bank_of (next_words edges signals writers words)) (nil_from_length reads count)
  all-due (One Old) readers writers words reads count = old-due readers writers words reads count
  all-due (One Undefined) readers writers words reads count = old-due readers writers words reads count
  all-due (One New) readers writers words reads count =
      fold-append (after_access edges signals) (bank_of words reads) (by_writers 0 writers) (by_readers 0 readers)
      ∙ ap (λ b. fold (after_access edges signals) b (by_readers 0 readers)) (all-writers writers words reads)
      ∙ all-readers (next_words edges signals writers words) reads readers count

pub all-served : (edges : List Bool) (signals : List ℕ) (memory : Memory) (bank : Bank) → IsBank memory bank → after_accesses edges signals memory bank (length (due_list memory)) ≡ next_bank edges signals memory bank
all-served edges signals memory bank is =
    ap (fold (after_access edges signals) bank) (take-length (due_list memory))
    ∙ all-due edges signals memory.latency memory.readers memory.writers bank.words bank.reads is.reads.count

-- ---- one more access

pub served-more : (edges : List Bool) (signals : List ℕ) (memory : Memory) (bank : Bank) (j : ℕ) (any : Access) → j < length (due_list memory) → after_accesses edges signals memory bank (j + 1) ≡ after_access edges signals (after_accesses edges signals memory bank j) (get_or (due_list memory) j any)
served-more edges signals memory bank j any lt =
    ap (fold (after_access edges signals) bank) (take_more (due_list memory) j any lt)
    ∙ fold-append (after_access edges signals) bank (take j (due_list memory)) (get_or (due_list memory) j any ∷ [])

-- ---- an access depends on its port's fields

found-agree : (v w words : List ℕ) (reader : Reader) → value_at v reader.addr ≡ value_at w reader.addr → value_at v reader.en ≡ value_at w reader.en → found_word v words reader ≡ found_word w words reader
found-agree v w words reader addr en = ap₂ (λ a e. read_word words a e) addr en

written-agree : (edges : List Bool) (v w words : List ℕ) (writer : Writer) → value_at v writer.addr ≡ value_at w writer.addr → value_at v writer.en ≡ value_at w writer.en → value_at v writer.word ≡ value_at w writer.word → value_at v writer.mask ≡ value_at w writer.mask → written edges v words writer ≡ written edges w words writer
written-agree edges v w words writer addr en word mask =
    ap₂ (λ e m. written_by words (value_at v writer.addr) e (value_at v writer.word) m) en mask
    ∙ ap₂ (λ a d. written_by words a (value_at w writer.en) d (value_at w writer.mask)) addr word
  where
    written_by : List ℕ → ℕ → ℕ → ℕ → ℕ → List ℕ
    written_by words a e d m = if ticks edges writer.clock && (e == 1) && (m == 1) then set words a d else words

pub access-agree : (edges : List Bool) (v w : List ℕ) (bank : Bank) (access : Access) → ((s : ℕ) → AccessNames access s → value_at v s ≡ value_at w s) → after_access edges v bank access ≡ after_access edges w bank access
access-agree edges v w bank (ByReader r reader) same =
    ap (λ word. bank_of bank.words (if ticks edges reader.clock then set bank.reads r word else bank.reads)) (found-agree v w bank.words reader (same reader.addr (inl refl)) (same reader.en (inr refl)))
access-agree edges v w bank (ByWriter k writer) same =
    ap (λ words. bank_of words bank.reads) (written-agree edges v w bank.words writer (same writer.addr (inl refl)) (same writer.en (inr (inl refl))) (same writer.word (inr (inr (inl refl)))) (same writer.mask (inr (inr (inr refl)))))

accesses-agree : (edges : List Bool) (v w : List ℕ) (bank : Bank) (accesses : List Access) → ((s : ℕ) → SomeNames accesses s → value_at v s ≡ value_at w s) → fold (after_access edges v) bank accesses ≡ fold (after_access edges w) bank accesses
accesses-agree edges v w bank [] same = refl
accesses-agree edges v w bank (access ∷ accesses) same =
    ap (λ b. fold (after_access edges v) b accesses) (access-agree edges v w bank access (λ s named. same s (inl named)))
    ∙ accesses-agree edges v w (after_access edges w bank access) accesses (λ s named. same s (inr named))

-- a signal that some of these accesses name is named by some of more accesses
some-left : (accesses more : List Access) (s : ℕ) → SomeNames accesses s → SomeNames (accesses ++ more) s
some-left [] more s named = absurd named
some-left (access ∷ accesses) more s (inl here) = inl here
some-left (access ∷ accesses) more s (inr named) = inr (some-left accesses more s named)

some-right : (more accesses : List Access) (s : ℕ) → SomeNames accesses s → SomeNames (more ++ accesses) s
some-right [] accesses s named = named
some-right (access ∷ more) accesses s named = inr (some-right more accesses s named)

-- ---- the next bank depends on the fields of its ports

late-agree : (edges : List Bool) (v w words : List ℕ) (r : ℕ) (readers : List Reader) (own : List ℕ) → ((s : ℕ) → SomeNames (by_readers r readers) s → value_at v s ≡ value_at w s) → late_reads edges v words readers own ≡ late_reads edges w words readers own
late-agree edges v w words r [] own same = refl
late-agree edges v w words r (reader ∷ readers) [] same = refl
late-agree edges v w words r (reader ∷ readers) (x ∷ own) same =
    ap₂ (λ found others. (if ticks edges reader.clock then found else x) ∷ others) (found-agree v w words reader (same reader.addr (inl (inl refl))) (same reader.en (inl (inr refl))))
    (late-agree edges v w words (suc r) readers own (λ s named. same s (inr named)))

reads-agree : (edges : List Bool) (v w : List ℕ) (latency : Latency) (readers : List Reader) (writers : List Writer) (before after after' own : List ℕ) → ((s : ℕ) → SomeNames (due_of latency readers writers) s → value_at v s ≡ value_at w s) → after ≡ after' → next_reads edges v latency readers before after own ≡ next_reads edges w latency readers before after' own
reads-agree edges v w Zero readers writers before after after' own same is = refl
reads-agree edges v w (One Old) readers writers before after after' own same is = late-agree edges v w before 0 readers own (λ s named. same s (some-left (by_readers 0 readers) (by_writers 0 writers) s named))
reads-agree edges v w (One Undefined) readers writers before after after' own same is = late-agree edges v w before 0 readers own (λ s named. same s (some-left (by_readers 0 readers) (by_writers 0 writers) s named))
reads-agree edges v w (One New) readers writers before after after' own same is =
    ap (λ words. late_reads edges v words readers own) is ∙ late-agree edges v w after' 0 readers own (λ s named. same s (some-right (by_writers 0 writers) (by_readers 0 readers) s named))

pub next_bank-agree : (edges : List Bool) (v w : List ℕ) (memory : Memory) (bank : Bank) → ((s : ℕ) → MemoryNames memory s → value_at v s ≡ value_at w s) → next_bank edges v memory bank ≡ next_bank edges w memory bank
next_bank-agree edges v w memory bank same =
    let zeros = replicate (read_count memory.latency memory.readers) 0 in
    let count : length zeros ≡ read_count memory.latency memory.readers = length-replicate (read_count memory.latency memory.readers) 0 in
    let words : next_words edges v memory.writers bank.words ≡ next_words edges w memory.writers bank.words =
    ap (λ (b : Bank). b.words)
    (sym (all-due edges v memory.latency memory.readers memory.writers bank.words zeros count)
    ∙ accesses-agree edges v w (bank_of bank.words zeros) (due_list memory) same
    ∙ all-due edges w memory.latency memory.readers memory.writers bank.words zeros count) in
    ap₂ bank_of words (reads-agree edges v w memory.latency memory.readers memory.writers bank.words (next_words edges v memory.writers bank.words) (next_words edges w memory.writers bank.words) bank.reads same words)
