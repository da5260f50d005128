-- The fields of a memory in one of two units, and of its counterpart in the other.
use Rattle.std.proofs.Common.{◌≡◌, ℕ, ◌<◌, List, [], ◌++◌, length, map, refl, sym, ◌∙◌, ap, ap₂, arith}
use Rattle.std.specs.Prelude.{flat_map, slice_index_or}
use Rattle.std.proofs.lemmas.List.{map-append, get_or-map}
use Rattle.gg_flat.specs.declared.memory.Memory.{Memory}
use Rattle.gg_flat.specs.declared.memory.Reader.{Reader}
use Rattle.gg_flat.specs.declared.memory.Writer.{Writer}
use Rattle.gg_flat.specs.Circuit.{FlatCircuit, readers_at}
use Rattle.gg_flat_tree.specs.Tree.{InstanceTree, memory_at}
use Rattle.gg_flat_tree.specs.Scoped.{reader_fields, writer_fields, writers_at, memory_fields}
use Rattle.gg_flat.proofs.ListLemmas.{some-item}
use Rattle.gg_part.specs.Copies.{Start}
use Rattle.gg_part.specs.Moved.{shifted, unclocked_memory, unclocked_reader, unclocked_writer}
use Rattle.gg_order.specs.Design.{Ordered}
use Rattle.gg_cut_plan.specs.declared.listed.Listed.{Listed}
use Rattle.gg_cut_split.proofs.AgainLemmas.FlatLemmas.{flat-alike}
use Rattle.gg_cut_split.proofs.AgainLemmas.Pair.{ArePair, IsInUnit}
use Rattle.gg_cut_split.proofs.AgainLemmas.TakenLemmas.{word, words}
use Rattle.gg_flat.specs.Renaming.{renamed_memory, renamed_reader, renamed_writer, signals_by}

module _ (design : Ordered) (listed : Listed) (u v : ℕ) (one other : Start) (pair : ArePair design listed u v one other) (p : ℕ) (known : p < length design.tree.memories) (inside : IsInUnit design.tree listed u p) where
  abbrev circuit : FlatCircuit
  circuit = design.circuit

  abbrev tree : InstanceTree
  tree = design.tree

  abbrev to : ℕ → ℕ
  to = shifted one.signals other.signals

  abbrev there : ℕ
  there = shifted one.memories other.memories p

  any : Memory
  any = some-item design.circuit.memories p (omega (arith, known, pair.keeps.fitting.count))

  abbrev memory_of : ℕ → Memory
  memory_of k = slice_index_or design.circuit.memories k any

  readers-at : (k : ℕ) → k < length design.tree.memories → readers_at circuit (memory_at tree k).memory ≡ (memory_of k).readers
  readers-at k lt = ap (readers_at design.circuit) (pair.keeps.copies.number k lt) ∙ get_or-map (λ (memory : Memory). memory.readers) design.circuit.memories k any [] (omega (arith, lt, pair.keeps.fitting.count))

  writers-at : (k : ℕ) → k < length design.tree.memories → writers_at circuit (memory_at tree k).memory ≡ (memory_of k).writers
  writers-at k lt = ap (writers_at design.circuit) (pair.keeps.copies.number k lt) ∙ get_or-map (λ (memory : Memory). memory.writers) design.circuit.memories k any [] (omega (arith, lt, pair.keeps.fitting.count))

  alike : unclocked_memory (memory_of there) ≡ unclocked_memory (renamed_memory (signals_by to) (memory_of p))
  alike = pair.copy.memory p any known (pair.there.lies p known inside)

  within : shifted one.memories other.memories p < length design.tree.memories
  within = pair.there.within p known inside

  of-readers : (f : Reader → List ℕ) → ((reader : Reader) → f (unclocked_reader reader) ≡ f reader) → ((reader : Reader) → f (renamed_reader (signals_by to) reader) ≡ map to (f reader)) → flat_map f (readers_at circuit (memory_at tree there).memory) ≡ map to (flat_map f (readers_at circuit (memory_at tree p).memory))
  of-readers f same moves =
      ap (flat_map f) (readers-at there within)
      ∙ flat-alike f unclocked_reader (renamed_reader (signals_by to)) to (memory_of p).readers (memory_of there).readers same moves (ap (λ (memory : Memory). memory.readers) alike)
      ∙ ap (λ l. map to (flat_map f l)) (sym (readers-at p known))

  of-writers : flat_map (λ writer. writer_fields writer) (writers_at circuit (memory_at tree there).memory) ≡ map to (flat_map (λ writer. writer_fields writer) (writers_at circuit (memory_at tree p).memory))
  of-writers =
      ap (flat_map (λ (writer : Writer). writer_fields writer)) (writers-at there within)
      ∙ flat-alike (λ (writer : Writer). writer_fields writer) unclocked_writer (renamed_writer (signals_by to)) to (memory_of p).writers (memory_of there).writers (λ writer. refl) (λ writer. refl) (ap (λ (memory : Memory). memory.writers) alike)
      ∙ ap (λ l. map to (flat_map (λ (writer : Writer). writer_fields writer) l)) (sym (writers-at p known))

  -- the data of the counterpart's readers
  pub words-again : words design.circuit design.tree (shifted one.memories other.memories p) ≡ map (shifted one.signals other.signals) (words design.circuit design.tree p)
  words-again = of-readers word (λ reader. refl) (λ reader. refl)

  -- all of the counterpart's fields
  pub fields-again : memory_fields design.circuit (memory_at design.tree (shifted one.memories other.memories p)).memory ≡ map (shifted one.signals other.signals) (memory_fields design.circuit (memory_at design.tree p).memory)
  fields-again =
      ap₂ (λ a b. a ++ b) (of-readers (λ reader. reader_fields reader) (λ reader. refl) (λ reader. refl)) of-writers
      ∙ sym (map-append to (flat_map (λ reader. reader_fields reader) (readers_at circuit (memory_at tree p).memory)) (flat_map (λ writer. writer_fields writer) (writers_at circuit (memory_at tree p).memory)))
