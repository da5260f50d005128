use Rattle.std.proofs.Common.{◌≡◌, ◌+◌}
use Rattle.gg_flat.specs.Circuit.{driver_at}
use Rattle.gg_order.specs.Marks.{is_marked}
use Rattle.gg_program.specs.Unset.{waits}
use Rattle.gg_bits.specs.Lists.{count_below}
use Rattle.gg_program.proofs.EvaluateLemmas.{IsSettling}
use Rattle.gg_program.proofs.evaluate.work_rest.Given as goal

abbrev pub invariant-loop-signal : goal.invariant-loop-signal
invariant-loop-signal g l = IsSettling l.piece l.state l.marks l.fn.cells.values l.signal l.cells.values × (l.cells.room ≡ l.fn.cells.room) × (l.steps ≡ l.fn.steps + count_below (λ s. waits (is_marked l.marks s) (driver_at l.piece s)) l.signal)
