use Rattle.gg_cut_routes.proofs.SideTables.{OwnTo}
use Rattle.gg_cut_routes.proofs.sides.put_globals.Given as goal

abbrev pub invariant-loop-signal : goal.invariant-loop-signal
invariant-loop-signal l = OwnTo l.globals l.signal-index l.initial.sides.items l.sides.items
