-- More on Served: what no promise of the program reaches.
-- Source: FIRRTL Specification, "Memories". Late readers of old words come before the writers, and late readers of new words after them, as
-- "Memories" defines a read under a write.
use Rattle.std.specs.Prelude.{◌≡◌, ◌⊎◌, ℕ, List, [], ◌∷◌, fold, take, ⊤, Bool}
use Rattle.gg_flat.specs.declared.memory.Memory.{Memory}
use Rattle.gg_bits.specs.Shape.{Shape}
use Rattle.gg_flat.specs.inside.Line.{HasValue}
use Rattle.gg_flat.specs.Memory.{Bank}
use Rattle.gg_flat.specs.Served.{Access, ByReader, ByWriter, after_access, due_of}

-- the accesses of a memory in a cycle, in their order
abbrev pub due_list : Memory → List Access
due_list memory = due_of memory.latency memory.readers memory.writers

-- an access names a signal: a reader's its address and its enable, a writer's all four fields
abbrev pub AccessNames : Access → ℕ → Type 0
AccessNames (ByReader r reader) s = (reader.addr ≡ s) ⊎ (reader.en ≡ s)
AccessNames (ByWriter w writer) s = (writer.addr ≡ s) ⊎ (writer.en ≡ s) ⊎ (writer.word ≡ s) ⊎ (writer.mask ≡ s)

-- one of these accesses names a signal
abbrev pub SomeNames : List Access → ℕ → Type 0
SomeNames [] s = ⊥
SomeNames (access ∷ accesses) s = AccessNames access s ⊎ SomeNames accesses s

-- the next bank of a memory names a signal: an access of its due list does
abbrev pub MemoryNames : Memory → ℕ → Type 0
MemoryNames memory s = SomeNames (due_list memory) s

-- the contents of a memory after the first j accesses of its due list
abbrev pub after_accesses : List Bool → List ℕ → Memory → Bank → ℕ → Bank
after_accesses edges signals memory bank j = fold (after_access edges signals) bank (take j (due_list memory))

-- an access writes only a value of the shape `word`
abbrev pub Brings : List ℕ → Shape → Access → Type 0
Brings signals word (ByReader r reader) = ⊤
Brings signals word (ByWriter w writer) = HasValue signals writer.word word
