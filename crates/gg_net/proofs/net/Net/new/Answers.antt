use Rattle.std.proofs.Common.{length, subst}
use Rattle.gg_net.specs.inside.Net.{AreOpen}
use Rattle.gg_net.proofs.OpenLemmas.{open-is, is-net}
use Rattle.gg_net.proofs.net.Net.new.Goals as goal

pub invariant_of-result : goal.invariant_of-result
invariant_of-result g c =
    let queues = c.in_ok-queues.queues.items in
    is-net c.requires queues (subst (λ ws. AreOpen ws (length ws) queues) c.deref.ensures.value (c.in_ok-queues.ensures {u = tt}))

pub returns : goal.returns
returns g c =
    let queues = c.in_ok-queues.queues.items in
    open-is c.requires queues (subst (λ ws. AreOpen ws (length ws) queues) c.deref.ensures.value (c.in_ok-queues.ensures {u = tt}))
