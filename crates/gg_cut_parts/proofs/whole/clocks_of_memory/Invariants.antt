use Rattle.std.proofs.Common.{◌≡◌, ◌++◌, take, map}
use Rattle.gg_cut_parts.proofs.whole.clocks_of_memory.Given as goal

abbrev pub invariant-loop-reader : goal.invariant-loop-reader
invariant-loop-reader l = l.clocks.items ≡ map (λ reader. reader.clock) (take l.reader-index l.memory.readers)

abbrev pub invariant-loop-writer : goal.invariant-loop-writer
invariant-loop-writer l = l.clocks.items ≡ map (λ reader. reader.clock) l.memory.readers ++ map (λ writer. writer.clock) (take l.writer-index l.memory.writers)
