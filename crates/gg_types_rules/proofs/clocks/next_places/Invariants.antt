use Rattle.std.proofs.Common.{take}
use Rattle.gg_types.specs.inside.Places.{TellsNext}
use Rattle.gg_types_rules.proofs.clocks.next_places.Given as goal

abbrev pub invariant-loop-statement : goal.invariant-loop-statement
invariant-loop-statement l = TellsNext l.ways (take l.statement-index l.statements) l.next.items
