-- What memories hold after a cycle has the right counts and types.
use Rattle.std.proofs.Common.{◌≡◌, ℕ, zero, suc, ◌<◌, List, [], ◌∷◌, length, map, replicate, get_or, set, refl, sym, ◌∙◌, ap, subst, arith, Bool, true, false}
use Rattle.std.specs.Prelude.{if◌then◌else◌, ◌==◌, ◌&&◌, All}
use Rattle.std.proofs.lemmas.List.{length-map, length-replicate, length-set}
use Rattle.std.proofs.lemmas.Nat.{pow_pos}
use Rattle.gg_bits.specs.Shape.{Shape, shape, Fits}
use Rattle.gg_flat.specs.declared.memory.UnderWrite.{UnderWrite}
use Rattle.gg_flat.specs.declared.memory.UnderWrite.TheVariants.{Old, New, Undefined}
use Rattle.gg_flat.specs.declared.memory.Latency.{Latency}
use Rattle.gg_flat.specs.declared.memory.Latency.TheVariants.{Zero, One}
use Rattle.gg_flat.specs.declared.memory.Reader.{Reader}
use Rattle.gg_flat.specs.declared.memory.Writer.{Writer}
use Rattle.gg_flat.specs.declared.memory.Memory.{Memory}
use Rattle.gg_flat.specs.Clock.{ticks}
use Rattle.gg_flat.specs.Line.{value_at, AreTyped, HasType}
use Rattle.gg_flat.specs.inside.Line.{HasValue}
use Rattle.gg_flat.specs.Circuit.{FlatCircuit, signal_shapes, reader_at}
use Rattle.gg_flat.specs.Memory.{Bank, found_word, hits, next_word, next_words, next_read, late_reads, next_reads, next_bank, next_banks, opening_bank, read_count, words_read, bank_at, AreWords, IsBank, AreBanks}
use Rattle.gg_flat.specs.Served.{Access, ByReader, ByWriter, written, after_access}
use Rattle.gg_flat.specs.inside.Served.{Brings}
use Rattle.gg_flat.specs.WellFormed.{IsWriter, IsMemory, IsWellFormed}
use Rattle.gg_flat.proofs.TypedLemmas.{read_word-fits}
use Rattle.gg_flat.proofs.WordLemmas.{length-next_words, next_words-here}

-- ---- the fields of ports

HasType-value : (shapes : List Shape) (values : List ℕ) (s : ℕ) (to : Shape) → AreTyped shapes values → HasType shapes s to → HasValue values s to
HasType-value shapes values s to typed is = (omega (arith, is.0, typed.count), subst (λ x. Fits x (value_at values s)) is.1 (typed.fits s is.0))

pub IsMemory-value : (shapes : List Shape) (values : List ℕ) (memory : Memory) → AreTyped shapes values → IsMemory (HasType shapes) memory → IsMemory (HasValue values) memory
IsMemory-value shapes values memory typed is =
    record {
      some = is.some;
      readers = λ r d lt. let reader = is.readers r d lt in record {
        address = HasType-value shapes values _ _ typed reader.address;
        enable = HasType-value shapes values _ _ typed reader.enable;
        output = HasType-value shapes values _ _ typed reader.output;
      };
      writers = λ w d lt. let writer = is.writers w d lt in record {
        address = HasType-value shapes values _ _ typed writer.address;
        enable = HasType-value shapes values _ _ typed writer.enable;
        input = HasType-value shapes values _ _ typed writer.input;
        masked = HasType-value shapes values _ _ typed writer.masked;
      };
    }

pub memories-valued : (circuit : FlatCircuit) (signals : List ℕ) → IsWellFormed circuit → AreTyped (signal_shapes circuit) signals → All (IsMemory (HasValue signals)) circuit.memories
memories-valued circuit signals formed typed = λ m d lt. IsMemory-value (signal_shapes circuit) signals (get_or circuit.memories m d) typed (formed.memories m d lt)

-- ---- one memory

pub length-late_reads : (edges : List Bool) (signals words : List ℕ) (readers : List Reader) (own : List ℕ) → length own ≡ length readers → length (late_reads edges signals words readers own) ≡ length readers
length-late_reads edges signals words [] own count = refl
length-late_reads edges signals words (reader ∷ readers) [] count = absurd (omega arith)
length-late_reads edges signals words (reader ∷ readers) (x ∷ own) count = ap suc (length-late_reads edges signals words readers own (omega arith))

pub late_reads-at : (edges : List Bool) (signals words : List ℕ) (readers : List Reader) (own : List ℕ) (i : ℕ) → length own ≡ length readers → i < length readers → value_at (late_reads edges signals words readers own) i ≡ next_read edges signals words (reader_at readers i) (value_at own i)
late_reads-at edges signals words [] own i count lt = absurd (omega arith)
late_reads-at edges signals words (reader ∷ readers) [] i count lt = absurd (omega arith)
late_reads-at edges signals words (reader ∷ readers) (x ∷ own) zero count lt = refl
late_reads-at edges signals words (reader ∷ readers) (x ∷ own) (suc i) count lt = late_reads-at edges signals words readers own i (omega arith) (omega arith)

module _ (edges : List Bool) (signals : List ℕ) (word : Shape) (depth : ℕ) where
  next_word-fits : (writers : List Writer) (a own : ℕ) → All (IsWriter (HasValue signals) word depth) writers → Fits word own → Fits word (next_word edges signals writers a own)
  next_word-fits [] a own is fits = fits
  next_word-fits (writer ∷ writers) a own is fits =
      next_word-fits writers a _ (λ k d lt. is (suc k) d (omega arith)) (by (hits edges signals writer a))
    where
      by : (b : Bool) → Fits word (if b then value_at signals writer.word else own)
      by true = (is 0 writer (omega arith)).input.1
      by false = fits

  -- a value at any place is of the shape, if all values of the list are: past the end it is 0
  past-fits : (values : List ℕ) (i : ℕ) → ((k : ℕ) → k < length values → Fits word (value_at values k)) → Fits word (value_at values i)
  past-fits [] zero fits = pow_pos word.width
  past-fits [] (suc i) fits = pow_pos word.width
  past-fits (value ∷ values) zero fits = fits 0 (omega arith)
  past-fits (value ∷ values) (suc i) fits = past-fits values i (λ k lt. fits (suc k) (omega arith))

  next_words-typed : (writers : List Writer) (n : ℕ) (words : List ℕ) → All (IsWriter (HasValue signals) word depth) writers → AreWords word n words → AreWords word n (next_words edges signals writers words)
  next_words-typed writers n words is typed =
      record {
        count = length-next_words edges signals writers 0 words ∙ typed.count;
        fits = λ i. past-fits (next_words edges signals writers words) i (λ k lt.
            let within : k < length words = omega (arith, lt, length-next_words edges signals writers 0 words) in
            subst (Fits word) (sym (next_words-here edges signals writers words k within)) (next_word-fits writers k (value_at words k) is (typed.fits k)));
      }

  words_read-fits : (under : UnderWrite) (before after : List ℕ) → ((a : ℕ) → Fits word (value_at before a)) → ((a : ℕ) → Fits word (value_at after a)) → (a : ℕ) → Fits word (value_at (words_read under before after) a)
  words_read-fits Old before after old new = old
  words_read-fits Undefined before after old new = old
  words_read-fits New before after old new = new

  nothing-fits : (i : ℕ) → Fits word (value_at [] i)
  nothing-fits zero = pow_pos word.width
  nothing-fits (suc i) = pow_pos word.width

  late-fits : (readers : List Reader) (words own : List ℕ) (i : ℕ) → ((a : ℕ) → Fits word (value_at words a)) → ((k : ℕ) → Fits word (value_at own k)) → Fits word (value_at (late_reads edges signals words readers own) i)
  late-fits [] words own i fits had = nothing-fits i
  late-fits (reader ∷ readers) words [] i fits had = nothing-fits i
  late-fits (reader ∷ readers) words (x ∷ own) zero fits had = by (ticks edges reader.clock)
    where
      by : (b : Bool) → Fits word (if b then found_word signals words reader else x)
      by true = read_word-fits word words (value_at signals reader.addr) (value_at signals reader.en) fits
      by false = had 0
  late-fits (reader ∷ readers) words (x ∷ own) (suc i) fits had = late-fits readers words own i fits (λ k. had (suc k))

  next_reads-typed : (latency : Latency) (readers : List Reader) (before after own : List ℕ) → ((a : ℕ) → Fits word (value_at before a)) → ((a : ℕ) → Fits word (value_at after a)) → AreWords word (read_count latency readers) own → AreWords word (read_count latency readers) (next_reads edges signals latency readers before after own)
  next_reads-typed Zero readers before after own old new typed = record { count = refl; fits = nothing-fits }
  next_reads-typed (One under) readers before after own old new typed = record {
    count = length-late_reads edges signals (words_read under before after) readers own typed.count;
    fits = λ i. late-fits readers (words_read under before after) own i (words_read-fits under before after old new) typed.fits;
  }

pub IsBank-next : (edges : List Bool) (signals : List ℕ) (memory : Memory) (bank : Bank) → IsMemory (HasValue signals) memory → IsBank memory bank → IsBank memory (next_bank edges signals memory bank)
IsBank-next edges signals memory bank is held =
    let words = next_words-typed edges signals (shape memory.word) memory.depth memory.writers memory.depth bank.words is.writers held.words in
    record {
      words = words;
      reads = next_reads-typed edges signals (shape memory.word) memory.depth memory.latency memory.readers bank.words (next_words edges signals memory.writers bank.words) bank.reads held.words.fits words.fits held.reads;
    }

zeros-fit : (word : Shape) (n i : ℕ) → Fits word (value_at (replicate n 0) i)
zeros-fit word zero zero = pow_pos word.width
zeros-fit word zero (suc i) = pow_pos word.width
zeros-fit word (suc n) zero = pow_pos word.width
zeros-fit word (suc n) (suc i) = zeros-fit word n i

zeros-words : (word : Shape) (n : ℕ) → AreWords word n (replicate n 0)
zeros-words word n = record { count = length-replicate n 0; fits = zeros-fit word n }

pub IsBank-opening : (memory : Memory) → IsBank memory (opening_bank memory)
IsBank-opening memory = record { words = zeros-words (shape memory.word) memory.depth; reads = zeros-words (shape memory.word) (read_count memory.latency memory.readers) }

-- ---- all memories

pub length-next_banks : (edges : List Bool) (signals : List ℕ) (memories : List Memory) (banks : List Bank) → length banks ≡ length memories → length (next_banks edges signals memories banks) ≡ length memories
length-next_banks edges signals [] banks count = refl
length-next_banks edges signals (memory ∷ memories) [] count = absurd (omega arith)
length-next_banks edges signals (memory ∷ memories) (bank ∷ banks) count = ap suc (length-next_banks edges signals memories banks (omega arith))

pub next_banks-at : (edges : List Bool) (signals : List ℕ) (memories : List Memory) (banks : List Bank) (m : ℕ) (any : Memory) → length banks ≡ length memories → m < length memories → bank_at (next_banks edges signals memories banks) m ≡ next_bank edges signals (get_or memories m any) (bank_at banks m)
next_banks-at edges signals [] banks m any count lt = absurd (omega arith)
next_banks-at edges signals (memory ∷ memories) [] m any count lt = absurd (omega arith)
next_banks-at edges signals (memory ∷ memories) (bank ∷ banks) zero any count lt = refl
next_banks-at edges signals (memory ∷ memories) (bank ∷ banks) (suc m) any count lt = next_banks-at edges signals memories banks m any (omega arith) (omega arith)

pub AreBanks-next : (edges : List Bool) (signals : List ℕ) (memories : List Memory) (banks : List Bank) → All (IsMemory (HasValue signals)) memories → AreBanks memories banks → AreBanks memories (next_banks edges signals memories banks)
AreBanks-next edges signals memories banks is held =
    record {
      count = length-next_banks edges signals memories banks held.count;
      each = λ m any lt. subst (IsBank (get_or memories m any)) (sym (next_banks-at edges signals memories banks m any held.count lt)) (IsBank-next edges signals (get_or memories m any) (bank_at banks m) (is m any lt) (held.each m any lt));
    }

opening-at : (memories : List Memory) (m : ℕ) (any : Memory) → m < length memories → bank_at (map (λ memory. opening_bank memory) memories) m ≡ opening_bank (get_or memories m any)
opening-at [] m any lt = absurd (omega arith)
opening-at (memory ∷ memories) zero any lt = refl
opening-at (memory ∷ memories) (suc m) any lt = opening-at memories m any (omega arith)

pub AreBanks-opening : (memories : List Memory) → AreBanks memories (map (λ memory. opening_bank memory) memories)
AreBanks-opening memories =
    record {
      count = length-map memories (λ (memory : Memory). opening_bank memory);
      each = λ m any lt. subst (IsBank (get_or memories m any)) (sym (opening-at memories m any lt)) (IsBank-opening (get_or memories m any));
    }

-- ---- one access

set-fits : (word : Shape) (values : List ℕ) (i value : ℕ) → ((k : ℕ) → Fits word (value_at values k)) → Fits word value → (k : ℕ) → Fits word (value_at (set values i value) k)
set-fits word [] zero value fits new k = fits k
set-fits word [] (suc i) value fits new k = fits k
set-fits word (x ∷ values) zero value fits new zero = new
set-fits word (x ∷ values) zero value fits new (suc k) = fits (suc k)
set-fits word (x ∷ values) (suc i) value fits new zero = fits 0
set-fits word (x ∷ values) (suc i) value fits new (suc k) = set-fits word values i value (λ n. fits (suc n)) new k

set-words : (word : Shape) (n : ℕ) (values : List ℕ) (i value : ℕ) → AreWords word n values → Fits word value → AreWords word n (set values i value)
set-words word n values i value is new = record { count = length-set values i value ∙ is.count; fits = set-fits word values i value is.fits new }

written-words : (edges : List Bool) (signals : List ℕ) (word : Shape) (n : ℕ) (words : List ℕ) (writer : Writer) → AreWords word n words → HasValue signals writer.word word → AreWords word n (written edges signals words writer)
written-words edges signals word n words writer is has = by (ticks edges writer.clock && (value_at signals writer.en == 1) && (value_at signals writer.mask == 1))
  where
    by : (b : Bool) → AreWords word n (if b then set words (value_at signals writer.addr) (value_at signals writer.word) else words)
    by true = set-words word n words (value_at signals writer.addr) (value_at signals writer.word) is has.1
    by false = is

pub IsBank-access : (edges : List Bool) (signals : List ℕ) (memory : Memory) (bank : Bank) (access : Access) → IsBank memory bank → Brings signals (shape memory.word) access → IsBank memory (after_access edges signals bank access)
IsBank-access edges signals memory bank (ByReader r reader) is has =
    record {
      words = is.words;
      reads = by (ticks edges reader.clock);
    }
  where
    by : (b : Bool) → AreWords (shape memory.word) (read_count memory.latency memory.readers) (if b then set bank.reads r (found_word signals bank.words reader) else bank.reads)
    by true = set-words (shape memory.word) (read_count memory.latency memory.readers) bank.reads r (found_word signals bank.words reader) is.reads (read_word-fits (shape memory.word) bank.words (value_at signals reader.addr) (value_at signals reader.en) is.words.fits)
    by false = is.reads
IsBank-access edges signals memory bank (ByWriter w writer) is has = record { words = written-words edges signals (shape memory.word) memory.depth bank.words writer is.words has; reads = is.reads }
