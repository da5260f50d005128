use Rattle.gg_build.specs.inside.Hosts.{AreStations}
use Rattle.gg_build.proofs.placement.stations_of.Given as goal

abbrev pub invariant-loop-number : goal.invariant-loop-number
invariant-loop-number g l = AreStations l.machines l.hosts l.threads l.nodes l.«number» l.stations.items
