use Rattle.gg_node.specs.Step.{with_served}
use Rattle.gg_net.proofs.StationLemmas.{replaced}
use Rattle.gg_net.proofs.located.serve.Goals as goal

pub returns : goal.returns
returns g c = replaced g.H.Host.machines c.args.hosts.now.items c.args.station.now c.index_mut.result.now c.serve.new.self c.requires.stationed c.index_mut.ensures.value with_served c.serve.ensures
