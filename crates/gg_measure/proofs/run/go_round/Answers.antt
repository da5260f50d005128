use Rattle.std.proofs.Common.{subst}
use Rattle.gg_measure.specs.inside.Nets.{Goes}
use Rattle.gg_measure.proofs.GoLemmas.{goes-falls}
use Rattle.gg_measure.proofs.run.go_round.Goals as goal

pub returns-clause-falls : goal.returns-clause-falls
returns-clause-falls g c = λ is. goes-falls g.Z.Streams.flow c.args.cycle c.args.net.now c.round.new.net c.kept.ensures (subst (λ b. Goes c.args.cycle c.args.net.now b c.round.new.net) is c.round.ensures.goes)
