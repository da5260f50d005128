use Rattle.gg_net.proofs.StationLemmas.{gone-on}
use Rattle.gg_net.proofs.located.finish.Goals as goal

pub returns : goal.returns
returns g c = gone-on g.H.Host.machines c.args.hosts.now.items c.args.station.now c.index_mut.result.now c.finish.new.self c.requires.stationed c.index_mut.ensures.value c.finish.ensures.next c.finish.ensures.step
