-- The memories of a part, under the part's own numbers, with a clock of the part for each port.
-- Source: this program's own.
use Rattle.std.specs.Prelude.{ℕ, List, Option, None, length, slice_index_or}
use Rattle.gg_bits.specs.Lists.{by_number}
use Rattle.gg_flat.specs.declared.memory.Memory.{Memory}
use Rattle.gg_flat.specs.declared.memory.Reader.{Reader}
use Rattle.gg_flat.specs.declared.memory.Writer.{Writer}
use Rattle.gg_flat.specs.Renaming.{Renaming, renamed_reader, renamed_writer}

-- the numbers of signals by `back`, and this clock
abbrev pub own_by : (back : ℕ → ℕ) → Option ℕ → Renaming
own_by back clock = record { signals = back; registers = λ r. r; memories = λ m. m; clocks = λ c. clock }

-- readers, each with the clock of its number
abbrev pub own_readers : (back : ℕ → ℕ) → List (Option ℕ) → List Reader → List Reader
own_readers back ports readers = by_number (λ p reader. renamed_reader (own_by back (slice_index_or ports p None)) reader) 0 readers

-- writers, each with the clock of its number; the first number is n
abbrev pub own_writers : (back : ℕ → ℕ) → List (Option ℕ) → ℕ → List Writer → List Writer
own_writers back ports n writers = by_number (λ p writer. renamed_writer (own_by back (slice_index_or ports p None)) writer) n writers

-- a memory; its readers, and then its writers, have these clocks
abbrev pub own_memory : (back : ℕ → ℕ) → List (Option ℕ) → Memory → Memory
own_memory back ports memory =
    record {
      word = memory.word;
      depth = memory.depth;
      latency = memory.latency;
      readers = own_readers back ports memory.readers;
      writers = own_writers back ports (length memory.readers) memory.writers;
    }
