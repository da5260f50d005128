use Rattle.gg_trace.specs.inside.Places.{TellsPorts}
use Rattle.gg_trace.proofs.port_table.places_of.Given as goal

abbrev pub invariant-loop-i : goal.invariant-loop-i
invariant-loop-i l = TellsPorts l.ports l.i l.places
