use Rattle.gg_replay.proofs.LogLemmas.{one-pushed}
use Rattle.gg_replay.proofs.log.Log.push.Goals as goal

pub returns : goal.returns
returns c =
    one-pushed (λ list. list.items) c.self.inside.lists.items c.args.self.now c.args.channel c.args.token c.index_mut.result.now c.push.new.self c.self.view_is c.requires c.index_mut.ensures.value (c.in_ok-push.ensures {u = tt}).items
