use Rattle.gg_bridge.proofs.WatchedLemmas.{watched-is-state, watched-model}
use Rattle.gg_bridge.proofs.watcher.WatcherBridge.model.Goals as goal

pub returns-clause-model : goal.returns-clause-model
returns-clause-model g c = watched-model c.args.self.now

pub returns-clause-state : goal.returns-clause-state
returns-clause-state g c = watched-is-state c.args.self.now
