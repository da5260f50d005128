-- A memory that serves one port after another: its contents after its first accesses.
-- Source: FIRRTL Specification, "Memories". Late readers of old words come before the writers, and late readers of new words after them, as
-- "Memories" defines a read under a write.
use Rattle.std.specs.Prelude.{ℕ, suc, List, [], ◌∷◌, ◌++◌, slice_set, Bool, ◌==◌, ◌&&◌, if◌then◌else◌}
use Rattle.gg_flat.specs.declared.memory.UnderWrite.TheVariants.{Old, New, Undefined}
use Rattle.gg_flat.specs.declared.memory.Latency.{Latency}
use Rattle.gg_flat.specs.declared.memory.Latency.TheVariants.{Zero, One}
use Rattle.gg_flat.specs.declared.memory.Reader.{Reader}
use Rattle.gg_flat.specs.declared.memory.Writer.{Writer}
use Rattle.gg_flat.specs.Clock.{ticks}
use Rattle.gg_flat.specs.Line.{value_at}
use Rattle.gg_flat.specs.Memory.{Bank, found_word}

-- an access: by a late reader, or by a writer, each with its place among the memory's readers or writers
pub data Access : Type 0 where
  ByReader : ℕ → Reader → Access
  ByWriter : ℕ → Writer → Access

-- the accesses by readers; the first reader is at place r
abbrev pub by_readers : ℕ → List Reader → List Access
by_readers r [] = []
by_readers r (reader ∷ readers) = ByReader r reader ∷ by_readers (suc r) readers

-- the accesses by writers; the first writer is at place w
abbrev pub by_writers : ℕ → List Writer → List Access
by_writers w [] = []
by_writers w (writer ∷ writers) = ByWriter w writer ∷ by_writers (suc w) writers

-- the accesses of a cycle in their order: late readers of old words, then writers, then late readers of new words
abbrev pub due_of : Latency → List Reader → List Writer → List Access
due_of Zero readers writers = by_writers 0 writers
due_of (One Old) readers writers = by_readers 0 readers ++ by_writers 0 writers
due_of (One Undefined) readers writers = by_readers 0 readers ++ by_writers 0 writers
due_of (One New) readers writers = by_writers 0 writers ++ by_readers 0 readers

-- the words after one writer, in a tick with these edges; a write past the depth doesn't change them
abbrev pub written : List Bool → List ℕ → List ℕ → Writer → List ℕ
written edges signals words writer = if ticks edges writer.clock && (value_at signals writer.en == 1) && (value_at signals writer.mask == 1) then slice_set words (value_at signals writer.addr) (value_at signals writer.word) else words

-- the read registers after the late reader at place r, which reads these words
abbrev pub looked : List Bool → List ℕ → List ℕ → List ℕ → ℕ → Reader → List ℕ
looked edges signals words reads r reader = if ticks edges reader.clock then slice_set reads r (found_word signals words reader) else reads

-- the contents of a memory after an access in a tick with these edges, if the fields have the values `signals`
abbrev pub after_access : List Bool → List ℕ → Bank → Access → Bank
after_access edges signals bank (ByReader r reader) = record { words = bank.words; reads = looked edges signals bank.words bank.reads r reader }
after_access edges signals bank (ByWriter w writer) = record { words = written edges signals bank.words writer; reads = bank.reads }
