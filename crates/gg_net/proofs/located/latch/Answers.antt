use Rattle.gg_node.specs.Step.{with_latch}
use Rattle.gg_net.proofs.StationLemmas.{replaced}
use Rattle.gg_net.proofs.located.latch.Goals as goal

pub returns : goal.returns
returns g c = replaced g.H.Host.machines c.args.hosts.now.items c.args.station.now c.index_mut.result.now c.latch.new.self c.requires.stationed c.index_mut.ensures.value (λ x. with_latch x c.args.place c.args.token) c.latch.ensures
