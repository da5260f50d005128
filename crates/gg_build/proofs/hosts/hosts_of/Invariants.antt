use Rattle.std.proofs.Common.{ℕ, ◌<◌, ◌≤◌, length, map}
use Rattle.gg_build.specs.inside.Begin.{starts_of}
use Rattle.gg_build.specs.inside.Bridges.{HasSame}
use Rattle.gg_build.specs.inside.Hosts.{AreHosts, AreOwnHosts, HaveBridges, first_body}
use Rattle.gg_build.proofs.hosts.hosts_of.Given as goal

abbrev pub invariant-loop-host : goal.invariant-loop-host
invariant-loop-host g l = record {
  hosts : AreHosts (starts_of l.ratios l.begin) l.trace.columns l.machines (map (λ list. list.items) l.members) l.host l.nodes.items;
  own : AreOwnHosts l.initial.bridges l.machines (map (λ list. list.items) l.members) l.host l.nodes.items;
  left : HaveBridges g.B.Bridge.piece g.B.Bridge.state l.bridges l.machines (map (λ list. list.items) l.members) l.host;
  same : (k : ℕ) → l.host ≤ k → k < length (map (λ list. list.items) l.members) → HasSame l.initial.bridges l.bridges (first_body l.machines (map (λ list. list.items) l.members) k);
}
