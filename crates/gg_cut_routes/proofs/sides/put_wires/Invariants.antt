use Rattle.gg_cut_routes.proofs.SideTables.{SidesTo}
use Rattle.gg_cut_routes.proofs.sides.put_wires.Given as goal

abbrev pub invariant-loop-place : goal.invariant-loop-place
invariant-loop-place l = SidesTo l.wires l.place l.initial.sides.items l.sides.items
