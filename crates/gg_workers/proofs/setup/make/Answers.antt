use Rattle.std.proofs.Common.{◌≤◌, map, sym, subst, ap, length, ◌∙◌}
use Rattle.std.specs.Vec.{vec_capacity}
use Rattle.std.proofs.lemmas.List.{length-map}
use Rattle.gg_net.specs.inside.Stations.{stationed, AreStationed}
use Rattle.gg_workers.specs.inside.LinkedHosts.{ReadyAt}
use Rattle.gg_workers.specs.inside.HostSeats.{HasPlaces}
use Rattle.gg_workers.proofs.MakingLemmas.{ready-thread, have-seats}
use Rattle.gg_workers.proofs.AssignLemmas.{assign_begin}
use Rattle.gg_workers.proofs.setup.make.Goals as goal

pub returns-clause-linked_hosts : goal.returns-clause-linked_hosts
returns-clause-linked_hosts g c upto =
    let hosts = c.args.hosts.items in
    let machines = map g.H.Host.machines hosts in
    let stations = c.args.stations.now in
    let net = g.E.Era.start in
    let links = c.args._links.now in
    let rows = c.fill_all.new.rows.items in
    let long = sym (ap length c.requires.machines ∙ length-map stations (stationed machines)) in
    let places = subst (λ l. HasPlaces (map g.H.Host.machines l) rows) c.deref.ensures.value c.fill_all.ensures.places in
    have-seats g.H.Host.machines (ReadyAt g.L.Link.takes_from g.L.Link.puts_into g.L.Link.taking g.L.Link.putting g.Z.Streams.flow net stations links upto) hosts rows places c.args.setup.now.threads.items c.requires.setup.threads
    (ready-thread g.L.Link.takes_from g.L.Link.puts_into g.L.Link.taking g.L.Link.putting g.Z.Streams.flow net c.requires.kept stations long c.requires.listed links c.args.put_seats.items c.args.take_seats.items c.args._queues.now c.requires.linked c.requires.all c.requires.new upto machines c.requires.stationed c.requires.machines rows c.fill_all.ensures.full)
    c.link_hosts.new.linked_hosts.items c.link_hosts.ensures

pub fill_all-requires-clause-wired : goal.fill_all-requires-clause-wired
fill_all-requires-clause-wired g c κs within = c.requires.kept.sound.wired

pub fill_all-requires-clause-stationed : goal.fill_all-requires-clause-stationed
fill_all-requires-clause-stationed g c κs within = subst (λ l. AreStationed (map g.H.Host.machines l) c.args.stations.now) (sym c.deref.ensures.value) c.requires.stationed

pub fill_all-requires-clause-listed : goal.fill_all-requires-clause-listed
fill_all-requires-clause-listed g c κs within = c.requires.listed

pub fill_all-requires-clause-long : goal.fill_all-requires-clause-long
fill_all-requires-clause-long g c κs within = (c.requires.linked.take_count ∙ c.requires.all, c.requires.linked.put_count ∙ c.requires.all)

pub fill_all-requires-clause-places : goal.fill_all-requires-clause-places
fill_all-requires-clause-places g c κs within = subst (λ l. HasPlaces (map g.H.Host.machines l) c.args.setup.now.rows.items) (sym c.deref.ensures.value) c.requires.setup.places

pub fill_all-requires-clause-empty : goal.fill_all-requires-clause-empty
fill_all-requires-clause-empty g c κs within = c.requires.setup.empty

pub fill_all-requires-clause-none : goal.fill_all-requires-clause-none
fill_all-requires-clause-none g c κs within = (c.requires.setup.no_takes, c.requires.setup.no_puts)

pub fill_all-requires-clause-room : goal.fill_all-requires-clause-room
fill_all-requires-clause-room g c κs within = (
  subst (λ n. n ≤ vec_capacity c.args.setup.now.takes) (sym (c.requires.linked.take_count ∙ c.requires.all)) c.requires.setup.takes_room,
  subst (λ n. n ≤ vec_capacity c.args.setup.now.puts) (sym (c.requires.linked.put_count ∙ c.requires.all)) c.requires.setup.puts_room,
)

pub link_hosts-requires-clause-long : goal.link_hosts-requires-clause-long
link_hosts-requires-clause-long g c = c.fill_all.ensures.places.count ∙ length-map c.deref.result.now g.H.Host.machines ∙ ap length c.deref.ensures.value

pub link_hosts-requires-clause-none : goal.link_hosts-requires-clause-none
link_hosts-requires-clause-none g c = c.requires.setup.no_linked_hosts

pub link_hosts-requires-clause-room : goal.link_hosts-requires-clause-room
link_hosts-requires-clause-room g c = subst (λ n. n ≤ vec_capacity c.args.setup.now.linked_hosts) (length-map c.args.hosts.items g.H.Host.machines) c.requires.setup.hosts_room

pub returns-clause-count : goal.returns-clause-count
returns-clause-count g c = c.link_hosts.ensures.count

pub returns-clause-numbered : goal.returns-clause-numbered
returns-clause-numbered g c = c.link_hosts.ensures.number

pub returns-clause-threads : goal.returns-clause-threads
returns-clause-threads g c = c.requires.setup.threads

pub returns-clause-assigning : goal.returns-clause-assigning
returns-clause-assigning g c =
    assign_begin c.link_hosts.new.linked_hosts.items c.args.setup.now.workers.items c.args._workers (length (map g.H.Host.machines c.args.hosts.items)) c.requires.setup.idle (c.link_hosts.ensures.count ∙ sym (length-map c.args.hosts.items g.H.Host.machines))

pub returns-clause-workers : goal.returns-clause-workers
returns-clause-workers g c = c.requires.setup.idle.long

pub returns-clause-lists : goal.returns-clause-lists
returns-clause-lists g c = (c.fill_all.ensures.lists.0 ∙ c.requires.linked.take_count ∙ c.requires.all, c.fill_all.ensures.lists.1 ∙ c.requires.linked.put_count ∙ c.requires.all)
