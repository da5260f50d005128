use Rattle.std.proofs.Common.{ℕ, ◌<◌, map, get_or}
use Rattle.gg_bits.specs.Shape.{shape}
use Rattle.gg_flat.specs.declared.memory.Reader.{Reader}
use Rattle.gg_flat.specs.Line.{HasType}
use Rattle.gg_flat.specs.WellFormed.{IsReader}
use Rattle.gg_refsim.proofs.check_memory.are_readers.Given as goal

abbrev pub invariant-loop-reader : goal.invariant-loop-reader
invariant-loop-reader l =
    (k : ℕ) (d : Reader) → k < l.reader-index → IsReader (HasType (map (λ s. shape s.ty) l.signals)) (shape l.memory.word) l.memory.depth (get_or l.memory.readers k d)
