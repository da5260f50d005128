use Rattle.gg_workers.proofs.MakingLemmas.{idle-more}
use Rattle.gg_workers.proofs.setup.idle_workers.Goals as goal

pub loop-preserved : goal.loop-preserved
loop-preserved g c =
    idle-more c.loop.counter c.args.hosts c.loop.workers.items (record { linked_hosts = c.in_ok-linked_hosts.linked_hosts }) c.push.new.self.items c.loop.invariant c.in_ok-push.ensures.items c.in_ok-linked_hosts.ensures.items c.in_ok-linked_hosts.ensures.capacity
