use Rattle.std.proofs.Common.{◌∙◌, length, map, ap}
use Rattle.gg_flat.specs.Line.{value_at}
use Rattle.gg_cut_machines.proofs.HostLemmas.{leaders-below, host-at}
use Rattle.gg_cut_machines.proofs.hosts.number_hosts.Goals as goal

pub picked-requires : goal.picked-requires
picked-requires c = λ k d lt. leaders-below c.args._units.now c.args._share.now c.args.leaders.now c.requires.leaders (length c.deref.result.now) k d (ap length c.deref.ensures.value ∙ c.in_ok-before.ensures.count) lt

pub returns-clause-hosts : goal.returns-clause-hosts
returns-clause-hosts c =
    host-at c.args._units.now c.args._share.now c.args.leaders.now c.in_ok-before.before.items c.in_ok-hosts.hosts.items c.requires.leaders c.in_ok-before.ensures.before
    (c.in_ok-hosts.ensures {u = tt} ∙ ap (λ l. map (value_at l) c.args.leaders.now) c.deref.ensures.value)
