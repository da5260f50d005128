use Rattle.std.proofs.Common.{◌≡◌, ◌+◌}
use Rattle.gg_program.proofs.EvaluateLemmas.{IsWorking}
use Rattle.gg_program.proofs.evaluate.work_out.Given as goal

abbrev pub invariant-loop-signal : goal.invariant-loop-signal
invariant-loop-signal g l = IsWorking l.piece l.state l.signals l.fn.cells.values l.signal-index l.cells.values × (l.cells.room ≡ l.fn.cells.room) × (l.steps ≡ l.fn.steps + l.signal-index)
