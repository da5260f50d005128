-- Memories: the width of their addresses, and what their words and read registers become in a tick.
-- Source: FIRRTL Specification, "Memories" (ports, latencies, read under write). The rest is this program's profile. Words and read
-- registers start at 0. A read past the depth, or by a reader that isn't enabled, returns 0. A write past the depth is dropped. If two
-- writers write the same word the later in the file wins. An undefined read returns the old word.
use Rattle.std.specs.Prelude.{◌≡◌, ℕ, zero, suc, ◌^◌, List, [], ◌∷◌, length, replicate, slice_index_or, Bool, ◌==◌, ◌&&◌, if◌then◌else◌, nat_le, ◌<◌}
use Rattle.gg_bits.specs.Shape.{Shape, shape, Fits}
use Rattle.gg_flat.specs.declared.memory.UnderWrite.{UnderWrite}
use Rattle.gg_flat.specs.declared.memory.UnderWrite.TheVariants.{Old, New, Undefined}
use Rattle.gg_flat.specs.declared.memory.Latency.{Latency}
use Rattle.gg_flat.specs.declared.memory.Latency.TheVariants.{Zero, One}
use Rattle.gg_flat.specs.declared.memory.Reader.{Reader}
use Rattle.gg_flat.specs.declared.memory.Writer.{Writer}
use Rattle.gg_flat.specs.declared.memory.Memory.{Memory}
use Rattle.gg_flat.specs.Clock.{ticks}
use Rattle.gg_flat.specs.Line.{value_at}

-- ---- addresses

-- the first of `more` widths, starting at w, with an address for each of `depth` words; the next width if none has
abbrev pub first_width : ℕ → ℕ → ℕ → ℕ
first_width zero w depth = w
first_width (suc more) w depth = if nat_le depth (2 ^ w) then w else first_width more (suc w) depth

-- the width of an address: at least one bit, and as few as can name each word of a memory of at most 2 ^ 32
abbrev pub address_width : ℕ → ℕ
address_width depth = first_width 31 1 depth

-- ---- words and read registers

-- the contents of a memory: its words, and the read register of each of its late readers
pub record Bank : Type 0 where
  pub words : List ℕ
  pub reads : List ℕ

-- the word at an address, if the reader is enabled; 0 if it isn't, and past the depth
abbrev pub read_word : List ℕ → ℕ → ℕ → ℕ
read_word words addr en = if en == 1 then value_at words addr else 0

-- the word that a reader reads among these words, if the signals have the values `signals`
abbrev pub found_word : List ℕ → List ℕ → Reader → ℕ
found_word signals words reader = read_word words (value_at signals reader.addr) (value_at signals reader.en)

-- whether a writer writes the word at address a in a tick with these edges
abbrev pub hits : List Bool → List ℕ → Writer → ℕ → Bool
hits edges signals writer a = ticks edges writer.clock && (value_at signals writer.en == 1) && (value_at signals writer.mask == 1) && (value_at signals writer.addr == a)

-- The word at address a after the writes: from the last writer that writes it, otherwise what it was before.
abbrev pub next_word : List Bool → List ℕ → List Writer → ℕ → ℕ → ℕ
next_word edges signals [] a own = own
next_word edges signals (writer ∷ writers) a own = next_word edges signals writers a (if hits edges signals writer a then value_at signals writer.word else own)

-- the words after the writes, starting at address a
abbrev pub next_words_from : List Bool → List ℕ → List Writer → ℕ → List ℕ → List ℕ
next_words_from edges signals writers a [] = []
next_words_from edges signals writers a (own ∷ words) = next_word edges signals writers a own ∷ next_words_from edges signals writers (suc a) words

-- the words after the writes
abbrev pub next_words : List Bool → List ℕ → List Writer → List ℕ → List ℕ
next_words edges signals writers words = next_words_from edges signals writers 0 words

-- the words that a late reader reads: before or after the writes
abbrev pub words_read : UnderWrite → List ℕ → List ℕ → List ℕ
words_read Old before after = before
words_read Undefined before after = before
words_read New before after = after

-- a read register after the tick: the word that its reader finds, at an edge of its clock, otherwise what it had
abbrev pub next_read : List Bool → List ℕ → List ℕ → Reader → ℕ → ℕ
next_read edges signals words reader own = if ticks edges reader.clock then found_word signals words reader else own

-- the read registers of late readers after the tick, from their values before it
abbrev pub late_reads : List Bool → List ℕ → List ℕ → List Reader → List ℕ → List ℕ
late_reads edges signals words [] own = []
late_reads edges signals words (reader ∷ readers) [] = []
late_reads edges signals words (reader ∷ readers) (own ∷ others) = next_read edges signals words reader own ∷ late_reads edges signals words readers others

-- the read registers after the tick, given the words before and after the writes
abbrev pub next_reads : List Bool → List ℕ → Latency → List Reader → List ℕ → List ℕ → List ℕ → List ℕ
next_reads edges signals Zero readers before after own = []
next_reads edges signals (One under) readers before after own = late_reads edges signals (words_read under before after) readers own

-- the contents of a memory after a tick with these edges, if the signals have the values `signals`
abbrev pub next_bank : List Bool → List ℕ → Memory → Bank → Bank
next_bank edges signals memory bank =
    record {
      words = next_words edges signals memory.writers bank.words;
      reads = next_reads edges signals memory.latency memory.readers bank.words (next_words edges signals memory.writers bank.words) bank.reads;
    }

-- how many read registers a memory has
abbrev pub read_count : Latency → List Reader → ℕ
read_count Zero readers = 0
read_count (One under) readers = length readers

-- the contents of a memory before the first cycle
abbrev pub opening_bank : Memory → Bank
opening_bank memory = record { words = replicate memory.depth 0; reads = replicate (read_count memory.latency memory.readers) 0 }

-- This many values, each of this shape. Past the end the value is 0, which is of each shape.
pub record AreWords (word : Shape) (n : ℕ) (values : List ℕ) : Type 0 where
  pub count : length values ≡ n
  pub fits : (i : ℕ) → Fits word (value_at values i)

-- contents that a memory can have, by counts and types
pub record IsBank (memory : Memory) (bank : Bank) : Type 0 where
  pub words : AreWords (shape memory.word) memory.depth bank.words
  pub reads : AreWords (shape memory.word) (read_count memory.latency memory.readers) bank.reads

-- the fields that a reader reads are among n signals
abbrev pub LooksAmong : ℕ → Reader → Type 0
LooksAmong n reader = (reader.addr < n) × (reader.en < n)

-- the fields of a writer are among n signals
abbrev pub WritesAmong : ℕ → Writer → Type 0
WritesAmong n writer = (writer.addr < n) × (writer.en < n) × (writer.word < n) × (writer.mask < n)

-- ---- the memories of a circuit

-- the contents of the memory at a place; empty past the end
abbrev pub bank_at : List Bank → ℕ → Bank
bank_at banks m = slice_index_or banks m (record { words = []; reads = [] })

-- the contents of the memories after the tick
abbrev pub next_banks : List Bool → List ℕ → List Memory → List Bank → List Bank
next_banks edges signals [] banks = []
next_banks edges signals (memory ∷ memories) [] = []
next_banks edges signals (memory ∷ memories) (bank ∷ banks) = next_bank edges signals memory bank ∷ next_banks edges signals memories banks

-- contents that the memories can have
pub record AreBanks (memories : List Memory) (banks : List Bank) : Type 0 where
  pub count : length banks ≡ length memories
  pub each : (m : ℕ) (any : Memory) → m < length memories → IsBank (slice_index_or memories m any) (bank_at banks m)
