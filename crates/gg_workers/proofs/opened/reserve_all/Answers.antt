use Rattle.std.proofs.Common.{◌<◌, ◌≤◌, ◌^◌, length, map, sym, subst, ◌∙◌}
use Rattle.std.specs.Vec.{vec_capacity}
use Rattle.gg_net.specs.inside.Stations.{AreStationed}
use Rattle.gg_workers.specs.inside.Making.{IsReserved}
use Rattle.gg_workers.specs.inside.Apart.{AreReturnLists}
use Rattle.gg_workers.proofs.opened.reserve_all.Goals as goal

pub reserve-requires-clause-stationed : goal.reserve-requires-clause-stationed
reserve-requires-clause-stationed g c κs within = subst (AreStationed (map g.H.Host.machines c.args.hosts.now)) (sym c.deref.ensures.value) c.requires.stationed

pub reserve-requires-clause-few : goal.reserve-requires-clause-few
reserve-requires-clause-few g c κs within = subst (λ l. length l < 2 ^ 32) (sym c.deref.ensures.value) c.requires.few

pub returns-clause-setup : goal.returns-clause-setup
returns-clause-setup g c =
    let channels = c.len-channels.ensures ∙ c.args.shape.now.wires.ok.0 in
    subst (λ l. IsReserved (map g.H.Host.machines c.args.hosts.now) l (length c.args.shape.now.wires.items) c.args.workers c.in_ok-setup.setup) c.deref.ensures.value
    (subst (λ n. IsReserved (map g.H.Host.machines c.args.hosts.now) c.deref.result.now n c.args.workers c.in_ok-setup.setup) channels (c.in_ok-setup.ensures {u = tt}))

pub returns-clause-return_lists : goal.returns-clause-return_lists
returns-clause-return_lists g c =
    let channels = c.len-channels.ensures ∙ c.args.shape.now.wires.ok.0 in
    subst (λ n. AreReturnLists (length c.args.hosts.now) n c.in_ok-return_lists.return_lists) channels (c.in_ok-return_lists.ensures {u = tt})

pub returns-clause-none : goal.returns-clause-none
returns-clause-none g c = (c.in_ok-links.ensures.items, c.in_ok-put_seats.ensures.items, c.in_ok-take_seats.ensures.items)

pub returns-clause-wide : goal.returns-clause-wide
returns-clause-wide g c =
    let channels = c.len-channels.ensures ∙ c.args.shape.now.wires.ok.0 in
    subst (λ n. (n ≤ vec_capacity c.in_ok-links.links) × (n ≤ vec_capacity c.in_ok-put_seats.put_seats) × (n ≤ vec_capacity c.in_ok-take_seats.take_seats)) channels
    (c.in_ok-links.ensures.capacity, c.in_ok-put_seats.ensures.capacity, c.in_ok-take_seats.ensures.capacity)
