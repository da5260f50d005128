use Rattle.std.proofs.Common.{ℕ, ◌<◌, map, get_or}
use Rattle.gg_bits.specs.Shape.{shape}
use Rattle.gg_flat.specs.declared.memory.Memory.{Memory}
use Rattle.gg_flat.specs.Line.{HasType}
use Rattle.gg_flat.specs.WellFormed.{IsMemory}
use Rattle.gg_refsim.proofs.check_memory.are_memories.Given as goal

abbrev pub invariant-loop-memory : goal.invariant-loop-memory
invariant-loop-memory l =
    (k : ℕ) (d : Memory) → k < l.memory-index → IsMemory (HasType (map (λ s. shape s.ty) l.signals)) (get_or l.memories k d)
