use Rattle.std.proofs.Common.{arith}
use Rattle.gg_measure.proofs.NetLemmas.{takes-within}
use Rattle.gg_measure.proofs.tells.channel_left.Goals as goal

pub overflow_sub-takes : goal.overflow_sub-takes
overflow_sub-takes g c = omega (arith, c.takes.ensures, c.end-2.ensures, takes-within g.Z.Streams.flow c.args.net.now c.kept.ensures c.args.channel c.requires)
