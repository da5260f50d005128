use Rattle.std.proofs.Common.{◌≡◌, [], length, map, sym, subst, ◌∙◌}
use Rattle.gg_net.specs.Network.{frame_of}
use Rattle.gg_net.specs.inside.Net.{AreListed}
use Rattle.gg_net.specs.inside.Stations.{machines_by}
use Rattle.gg_workers_pass.specs.inside.Seats.{Linked, MayStand, TakeSeatOf, PutSeatOf}
use Rattle.gg_workers.specs.inside.Apart.{AreSeats}
use Rattle.gg_workers.specs.inside.LinkedHosts.{DoneAt, AreLinkedHosts}
use Rattle.gg_workers.proofs.BackLemmas.{count-start, listed-start, linked-back, stand-back, parts-back, later-back, seats-lent}
use Rattle.gg_workers.proofs.back.close_hosts.Goals as goal

pub take_apart-requires-clause-listed : goal.take_apart-requires-clause-listed
take_apart-requires-clause-listed g c κs within = subst (λ l. (length l ≡ length g.E.Era.start.machines) × AreListed (frame_of g.E.Era.start) l) (sym c.deref-2.ensures.value) (count-start c.requires.joined, listed-start c.requires.joined)

pub take_apart-requires-clause-linked_hosts : goal.take_apart-requires-clause-linked_hosts
take_apart-requires-clause-linked_hosts g c κs within = subst (λ l. AreLinkedHosts g.H.Host.machines c.args._threads.now (DoneAt g.L.Link.takes_from g.L.Link.puts_into g.L.Link.taking g.L.Link.putting g.Z.Streams.flow g.E.Era.start l c.deref.result.now c.args._upto) c.args.linked_hosts.items) (sym c.deref-2.ensures.value)
    (subst (λ l. AreLinkedHosts g.H.Host.machines c.args._threads.now (DoneAt g.L.Link.takes_from g.L.Link.puts_into g.L.Link.taking g.L.Link.putting g.Z.Streams.flow g.E.Era.start c.args.shape.stations.items l c.args._upto) c.args.linked_hosts.items) (sym c.deref.ensures.value) c.requires.linked_hosts)

pub close_all-requires-clause-owned : goal.close_all-requires-clause-owned
close_all-requires-clause-owned g c κs within = subst (λ l. MayStand g.Z.Streams.flow g.E.Era.start (machines_by (map g.H.Host.machines c.deref-3.result.now) l)) (sym c.deref-4.ensures.value) (stand-back c.requires.joined g.H.Host.machines g.L.Link.takes_from g.L.Link.puts_into g.L.Link.taking g.L.Link.putting c.args.links.items c.args._upto c.args.linked_hosts.items c.requires.linked_hosts c.requires.numbered c.requires.count c.deref-3.result.now (c.deref-3.ensures.value ∙ c.take_apart.ensures.hosts))

pub close_all-requires-clause-standing : goal.close_all-requires-clause-standing
close_all-requires-clause-standing g c κs within = linked-back c.requires.joined g.H.Host.machines g.L.Link.takes_from g.L.Link.puts_into g.L.Link.taking g.L.Link.putting c.args.links.items c.args._upto (machines_by (map g.H.Host.machines c.deref-3.result.now) c.deref-4.result.now) c.args.queues.items c.requires.linked c.take_apart.new.take_seats.items c.take_apart.new.put_seats.items (seats-lent (λ ls hs l. AreSeats (TakeSeatOf g.L.Link.takes_from g.L.Link.puts_into g.L.Link.taking g.L.Link.putting g.Z.Streams.flow g.E.Era.start ls (machines_by (map g.H.Host.machines hs) l)) (length g.E.Era.start.wires) c.take_apart.new.take_seats.items) c.args.links.items c.deref.result.now (map (λ b. b.host) c.args.linked_hosts.items) c.deref-3.result.now c.args.shape.stations.items c.deref-2.result.now c.deref-4.result.now c.deref.ensures.value (c.deref-3.ensures.value ∙ c.take_apart.ensures.hosts) c.deref-2.ensures.value c.deref-4.ensures.value c.take_apart.ensures.takes) (seats-lent (λ ls hs l. AreSeats (PutSeatOf g.L.Link.takes_from g.L.Link.puts_into g.L.Link.taking g.L.Link.putting g.Z.Streams.flow g.E.Era.start ls (machines_by (map g.H.Host.machines hs) l)) (length g.E.Era.start.wires) c.take_apart.new.put_seats.items) c.args.links.items c.deref.result.now (map (λ b. b.host) c.args.linked_hosts.items) c.deref-3.result.now c.args.shape.stations.items c.deref-2.result.now c.deref-4.result.now c.deref.ensures.value (c.deref-3.ensures.value ∙ c.take_apart.ensures.hosts) c.deref-2.ensures.value c.deref-4.ensures.value c.take_apart.ensures.puts)

pub returns-clause-parts : goal.returns-clause-parts
returns-clause-parts g c = parts-back c.requires.joined g.H.Host.machines g.L.Link.takes_from g.L.Link.puts_into g.L.Link.taking g.L.Link.putting c.args.links.items c.args._upto c.args.linked_hosts.items c.requires.linked_hosts c.requires.numbered c.requires.count c.take_apart.new.hosts.items c.take_apart.ensures.hosts c.close_all.new.queues.items (subst (λ hs. Linked g.L.Link.takes_from g.L.Link.puts_into g.L.Link.taking g.L.Link.putting g.Z.Streams.flow g.E.Era.start (machines_by (map g.H.Host.machines hs) c.args.shape.stations.items) [] [] [] c.close_all.new.queues.items) c.deref-3.ensures.value (subst (λ l. Linked g.L.Link.takes_from g.L.Link.puts_into g.L.Link.taking g.L.Link.putting g.Z.Streams.flow g.E.Era.start (machines_by (map g.H.Host.machines c.deref-3.result.now) l) [] [] [] c.close_all.new.queues.items) c.deref-4.ensures.value c.close_all.ensures.standing))

pub returns-clause-later : goal.returns-clause-later
returns-clause-later g c = later-back c.requires.joined g.H.Host.machines g.L.Link.takes_from g.L.Link.puts_into g.L.Link.taking g.L.Link.putting c.args.links.items c.args._upto c.args.linked_hosts.items c.requires.linked_hosts c.requires.numbered c.requires.count c.take_apart.new.hosts.items c.take_apart.ensures.hosts c.close_all.new.queues.items (subst (λ hs. Linked g.L.Link.takes_from g.L.Link.puts_into g.L.Link.taking g.L.Link.putting g.Z.Streams.flow g.E.Era.start (machines_by (map g.H.Host.machines hs) c.args.shape.stations.items) [] [] [] c.close_all.new.queues.items) c.deref-3.ensures.value (subst (λ l. Linked g.L.Link.takes_from g.L.Link.puts_into g.L.Link.taking g.L.Link.putting g.Z.Streams.flow g.E.Era.start (machines_by (map g.H.Host.machines c.deref-3.result.now) l) [] [] [] c.close_all.new.queues.items) c.deref-4.ensures.value c.close_all.ensures.standing))
