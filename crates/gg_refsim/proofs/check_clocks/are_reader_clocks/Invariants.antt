use Rattle.std.proofs.Common.{ℕ, ◌<◌, get_or}
use Rattle.gg_flat.specs.declared.memory.Reader.{Reader}
use Rattle.gg_flat.specs.WellFormed.{IsClock}
use Rattle.gg_refsim.proofs.check_clocks.are_reader_clocks.Given as goal

abbrev pub invariant-loop-reader : goal.invariant-loop-reader
invariant-loop-reader l = (k : ℕ) (d : Reader) → k < l.reader-index → IsClock l.count (get_or l.readers k d).clock
