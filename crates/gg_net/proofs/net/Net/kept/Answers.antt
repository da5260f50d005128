use Rattle.std.proofs.Common.{subst}
use Rattle.gg_net.specs.Kept.{Kept}
use Rattle.gg_net.proofs.net.Net.kept.Goals as goal

pub returns : goal.returns
returns g c = subst (Kept g.Z.Streams.flow) c.self.view_is c.self.invariant.kept
