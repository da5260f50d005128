use Rattle.std.proofs.Common.{ℕ, ◌<◌, get_or}
use Rattle.gg_flat.specs.declared.memory.Writer.{Writer}
use Rattle.gg_flat.specs.WellFormed.{IsClock}
use Rattle.gg_refsim.proofs.check_clocks.are_writer_clocks.Given as goal

abbrev pub invariant-loop-writer : goal.invariant-loop-writer
invariant-loop-writer l = (k : ℕ) (d : Writer) → k < l.writer-index → IsClock l.count (get_or l.writers k d).clock
