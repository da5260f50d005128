use Rattle.std.proofs.Common.{◌≡◌}
use Rattle.gg_order.proofs.RunsLemmas.SettleLemmas.{Partly}
use Rattle.gg_tape.specs.inside.Tape.{signals_of}
use Rattle.gg_tape.proofs.tape.Tape.settle.Given as goal

abbrev pub invariant-loop-place : goal.invariant-loop-place
invariant-loop-place l = Partly l.piece l.state l.inputs (signals_of l.self) l.place l.cells.values × (l.cells.room ≡ l.fn.cells.room)
