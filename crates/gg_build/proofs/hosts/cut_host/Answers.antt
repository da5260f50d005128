use Rattle.std.proofs.Common.{subst}
use Rattle.gg_build.specs.inside.Begin.{starts_of}
use Rattle.gg_build.specs.inside.Hosts.{CanBegin}
use Rattle.gg_build.proofs.hosts.cut_host.Goals as goal

pub unit_host-requires-clause-begin : goal.unit_host-requires-clause-begin
unit_host-requires-clause-begin g c = subst (CanBegin (starts_of c.args.ratios.now c.args.begin.now)) c.requires.first (c.requires.begin 0 c.requires.units.some)
