use Rattle.std.proofs.Common.{◌≡◌, drop}
use Rattle.gg_trace.specs.Last.{acts}
use Rattle.gg_trace.proofs.stops.acts.Given as goal

abbrev pub invariant-loop-k : goal.invariant-loop-k
invariant-loop-k l = acts (drop l.k l.ratios) l.tick (drop l.k l.conditions) ≡ acts l.ratios l.tick l.conditions
