use Rattle.std.proofs.Common.{ℕ, ◌<◌, map, get_or}
use Rattle.gg_bits.specs.Shape.{shape}
use Rattle.gg_flat.specs.declared.memory.Writer.{Writer}
use Rattle.gg_flat.specs.Line.{HasType}
use Rattle.gg_flat.specs.WellFormed.{IsWriter}
use Rattle.gg_refsim.proofs.check_memory.are_writers.Given as goal

abbrev pub invariant-loop-writer : goal.invariant-loop-writer
invariant-loop-writer l =
    (k : ℕ) (d : Writer) → k < l.writer-index → IsWriter (HasType (map (λ s. shape s.ty) l.signals)) (shape l.memory.word) l.memory.depth (get_or l.memory.writers k d)
