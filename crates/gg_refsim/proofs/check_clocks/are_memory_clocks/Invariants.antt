use Rattle.std.proofs.Common.{ℕ, ◌<◌, get_or}
use Rattle.gg_flat.specs.declared.memory.Memory.{Memory}
use Rattle.gg_flat.specs.WellFormed.{IsClockedMemory}
use Rattle.gg_refsim.proofs.check_clocks.are_memory_clocks.Given as goal

abbrev pub invariant-loop-memory : goal.invariant-loop-memory
invariant-loop-memory l = (k : ℕ) (d : Memory) → k < l.memory-index → IsClockedMemory l.count (get_or l.memories k d)
