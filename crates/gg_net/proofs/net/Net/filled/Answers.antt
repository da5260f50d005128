use Rattle.std.proofs.Common.{arith}
use Rattle.gg_net.proofs.NetLemmas.{queue-few}
use Rattle.gg_net.proofs.net.Net.filled.Goals as goal

pub returns-clause-few : goal.returns-clause-few
returns-clause-few g c = omega (arith, c.queued.ensures, queue-few g.Z.Streams.flow c.args.self.now c.kept.ensures c.args.channel c.requires)
