-- A piece that is one memory: two words of eight bits, and one reader of latency 0.
use Rattle.std.proofs.Common.{◌≡◌, ◌≢◌, ℕ, ◌<◌, List, [], ◌∷◌, length, map, refl, sym, ap, subst, ◌∙◌, arith}
use Rattle.std.specs.Prelude.{All, AllPairs, slice_index_or, None}
use Rattle.std.proofs.lemmas.List.{get_or-map, length-map}
use Rattle.std.proofs.lemmas.List.Kept.{AllPairs-cons}
use Rattle.std.proofs.lemmas.List.Elements.{All-nil}
use Rattle.gg_bits.specs.Shape.{shape}
use Rattle.gg_flat.specs.declared.memory.Latency.TheVariants.{Zero}
use Rattle.gg_flat.specs.declared.memory.Reader.{Reader}
use Rattle.gg_flat.specs.declared.memory.Writer.{Writer}
use Rattle.gg_flat.specs.declared.memory.Memory.{Memory}
use Rattle.gg_flat.specs.declared.piece.Driver.TheVariants.{Input, MemoryWord}
use Rattle.gg_flat.specs.declared.piece.Register.{Register}
use Rattle.gg_flat.specs.Line.{value_at, HasType}
use Rattle.gg_flat.specs.Circuit.{FlatCircuit, signal_shapes, driver_at, latency_at, readers_at, reader_at}
use Rattle.gg_flat.specs.Memory.{LooksAmong, WritesAmong}
use Rattle.gg_flat.specs.WellFormed.{MayDrive, IsReader, IsWriter, IsMemory, AreDriven, reader_driver, IsRegister, IsClock, IsClockedMemory, IsWellFormed}
use Rattle.gg_flat.proofs.WorkedCircuits.{one, eight}
use Rattle.gg_flat.proofs.WorkedForms.{only, both, three, pair, differ}
use Rattle.gg_memunit.specs.MemoryUnit.{IsMemoryPiece, outs_of, count_of, ports_of}

abbrev reader : Reader
reader = record { addr = 0; en = 1; word = 2; clock = None }

abbrev memory : Memory
memory = record { word = eight; depth = 2; latency = Zero; readers = reader ∷ []; writers = [] }

-- signals 0 and 1 are the fields `addr` and `en`, and 2 the data
abbrev piece : FlatCircuit
piece =
    record {
      paths = (97 ∷ []) ∷ (101 ∷ []) ∷ (100 ∷ []) ∷ [];
      signals = record { ty = one; driver = Input 0 } ∷ record { ty = one; driver = Input 1 } ∷ record { ty = eight; driver = MemoryWord 0 0 0 1 } ∷ [];
      registers = [];
      memories = memory ∷ [];
      ins = 0 ∷ 1 ∷ [];
      outs = 2 ∷ [];
      clocks = 0;
    }

-- a list of one element: what holds of the element holds of each
one-of : {X : Type 0} (P : X → Type 0) (x : X) → P x → All P (x ∷ [])
one-of P x is k d below = only (λ k. P (slice_index_or (x ∷ []) k d)) is k below

apart : AllPairs (λ a b. a ≢ b) piece.paths
apart =
    AllPairs-cons (λ a b. a ≢ b) (97 ∷ []) ((101 ∷ []) ∷ (100 ∷ []) ∷ [])
    (λ k d below. both (λ i. (97 ∷ []) ≢ slice_index_or ((101 ∷ []) ∷ (100 ∷ []) ∷ []) i d) (differ 97 101 refl) (differ 97 100 refl) k below)
    (pair (101 ∷ []) (100 ∷ []) (differ 101 100 refl))

formed : IsWellFormed piece
formed =
    record {
      named = refl;
      distinct = apart;
      drivers = three (λ s. MayDrive piece s (driver_at piece s)) (omega arith, refl) (omega arith, refl) (omega arith, refl);
      ins = both (λ place. (value_at piece.ins place < length piece.signals) × (driver_at piece (value_at piece.ins place) ≡ Input place)) (omega arith, refl) (omega arith, refl);
      outs = only (λ place. value_at piece.outs place < length piece.signals) (omega arith);
      registers = All-nil (IsRegister (HasType (signal_shapes piece)));
      memories =
          one-of (IsMemory (HasType (signal_shapes piece))) memory
          (record {
            some = omega arith;
            readers = one-of (IsReader (HasType (signal_shapes piece)) (shape eight) 2) reader (record { address = (omega arith, refl); enable = (omega arith, refl); output = (omega arith, refl) });
            writers = All-nil (IsWriter (HasType (signal_shapes piece)) (shape eight) 2);
          });
      reads = only (λ m. AreDriven (driver_at piece) m (latency_at piece m) (readers_at piece m)) (only (λ r. driver_at piece (reader_at (reader ∷ []) r).word ≡ reader_driver Zero 0 r (reader_at (reader ∷ []) r)) refl);
      register_clocks = All-nil (λ (register : Register). IsClock 0 register.clock);
      memory_clocks =
          one-of (IsClockedMemory 0) memory
          (record {
            readers = one-of (λ (reader : Reader). IsClock 0 reader.clock) reader tt;
            writers = All-nil (λ (writer : Writer). IsClock 0 writer.clock);
          });
    }

abbrev no-writers : List (List Writer)
no-writers = [] ∷ []

-- a well-formed piece of this form is one memory
pub read-alone : (p : FlatCircuit) → IsWellFormed p → p.registers ≡ [] → p.ins ≡ 0 ∷ 1 ∷ [] → p.outs ≡ 2 ∷ [] → map (λ (memory : Memory). memory.readers) p.memories ≡ (reader ∷ []) ∷ [] → map (λ (memory : Memory). memory.writers) p.memories ≡ [] ∷ [] → IsMemoryPiece p
read-alone p well registers ins outs readers writers =
    record {
      formed = well;
      one = one;
      alone = registers;
      first = subst (λ ins. (i : ℕ) → i < length ins → value_at ins i ≡ i) (sym ins) (both (λ i. value_at (0 ∷ 1 ∷ []) i ≡ i) refl refl);
      readers = λ k d below. subst (λ ins. All (LooksAmong (length ins)) (slice_index_or p.memories k d).readers) (sym ins) (subst (All (LooksAmong 2)) (sym (readers-at k d below)) (one-of (LooksAmong 2) reader (omega arith, omega arith)));
      writers = λ k d below. subst (All (WritesAmong (length p.ins))) (sym (writers-at k d below)) (All-nil (WritesAmong (length p.ins)));
      few = λ k d below. omega (arith, ap length (readers-at k d below), ap length (writers-at k d below));
      outs = outs ∙ sym (outs-are p.memories readers);
    }
  where
    one : length p.memories ≡ 1
    one = sym (length-map p.memories (λ (memory : Memory). memory.readers)) ∙ ap length readers

    readers-at : (k : ℕ) (d : Memory) → k < length p.memories → (slice_index_or p.memories k d).readers ≡ reader ∷ []
    readers-at k d below =
        sym (get_or-map (λ (memory : Memory). memory.readers) p.memories k d [] below)
        ∙ ap (λ (lists : List (List Reader)). slice_index_or lists k []) readers
        ∙ only (λ k. slice_index_or ((reader ∷ []) ∷ []) k [] ≡ reader ∷ []) refl k (omega (arith, below, one))

    writers-at : (k : ℕ) (d : Memory) → k < length p.memories → (slice_index_or p.memories k d).writers ≡ []
    writers-at k d below =
        sym (get_or-map (λ (memory : Memory). memory.writers) p.memories k d [] below)
        ∙ ap (λ (lists : List (List Writer)). slice_index_or lists k []) writers
        ∙ only (λ k. slice_index_or no-writers k [] ≡ []) refl k (omega (arith, below, one))

    outs-are : (memories : List Memory) → map (λ (memory : Memory). memory.readers) memories ≡ (reader ∷ []) ∷ [] → outs_of memories ≡ 2 ∷ []
    outs-are [] is = absurd (omega (arith, ap length is))
    outs-are (first ∷ memories) is = ap (λ (lists : List (List Reader)). map (λ (reader : Reader). reader.word) (slice_index_or lists 0 [])) is

is-memory-piece : IsMemoryPiece piece
is-memory-piece = read-alone piece formed refl refl refl refl refl

-- ---- the reader is a port that isn't served; a writer beside it has the number 1, and is served

one-port : count_of piece.memories ≡ 1
one-port = refl

none-served : ports_of piece.memories ≡ []
none-served = refl

abbrev written : Memory
written = record memory { writers = record { addr = 2; en = 3; word = 4; mask = 5; clock = None } ∷ [] }

two-ports : count_of (written ∷ []) ≡ 2
two-ports = refl

writer-served : map (λ port. port.number) (ports_of (written ∷ [])) ≡ 1 ∷ []
writer-served = refl
