use Rattle.gg_node.specs.Step.{with_flag}
use Rattle.gg_net.proofs.StationLemmas.{replaced}
use Rattle.gg_net.proofs.located.fire.Goals as goal

pub returns-clause-step : goal.returns-clause-step
returns-clause-step g c = replaced g.H.Host.machines c.args.hosts.now.items c.args.station.now c.index_mut.result.now c.fire.new.self c.requires.stationed c.index_mut.ensures.value (λ x. with_flag x c.args.place) c.fire.ensures.step
