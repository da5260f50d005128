use Rattle.std.proofs.Common.{◌≤◌, sym, subst}
use Rattle.std.specs.Vec.{vec_capacity}
use Rattle.std.proofs.lemmas.List.{length-map}
use Rattle.gg_workers.specs.inside.Making.{AreIdle}
use Rattle.gg_workers.proofs.setup.reserve.Goals as goal

pub returns : goal.returns
returns g c =
    let count = sym (length-map c.args.hosts.now g.H.Host.machines) in
    record {
      threads = c.in_ok-threads.ensures {u = tt};
      places = c.in_ok-rows.ensures.places;
      empty = c.in_ok-rows.ensures.each;
      no_takes = c.in_ok-takes.ensures.items;
      no_puts = c.in_ok-puts.ensures.items;
      no_linked_hosts = c.in_ok-linked_hosts.ensures.items;
      takes_room = c.in_ok-takes.ensures.capacity;
      puts_room = c.in_ok-puts.ensures.capacity;
      hosts_room = subst (λ n. n ≤ vec_capacity c.in_ok-linked_hosts.linked_hosts) count c.in_ok-linked_hosts.ensures.capacity;
      idle = subst (λ n. AreIdle c.args.workers n c.in_ok-workers.workers.items) count (c.in_ok-workers.ensures {u = tt});
    }
