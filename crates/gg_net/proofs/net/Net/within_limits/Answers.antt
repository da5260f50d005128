use Rattle.std.proofs.Common.{subst}
use Rattle.gg_net.specs.Network.{Network, frame_of}
use Rattle.gg_net.specs.inside.Net.{IsWithinLimits}
use Rattle.gg_net.proofs.net.Net.within_limits.Goals as goal

pub returns : goal.returns
returns g c = subst (λ (net : Network). IsWithinLimits (frame_of net)) c.self.view_is c.self.invariant.limits
