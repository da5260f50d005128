use Rattle.std.proofs.Common.{List, length, map, ap, ◌∙◌, arith}
use Rattle.std.proofs.lemmas.List.{length-map}
use Rattle.gg_node.specs.Machine.{Machine}
use Rattle.gg_net.specs.inside.Stations.{machines_by}
use Rattle.gg_net.proofs.MayLemmas.{consumer-there, producer-there}
use Rattle.gg_workers_pass.specs.inside.Seats.{TakeSeatOf, PutSeatOf}
use Rattle.gg_workers.specs.inside.Apart.{consumer_in, producer_in}
use Rattle.gg_workers.proofs.WorkLemmas.{rows-owned, all-there, are-seats}
use Rattle.gg_workers.proofs.back.take_apart.Goals as goal

pub return_all-requires-clause-rows : goal.return_all-requires-clause-rows
return_all-requires-clause-rows g c κs within = rows-owned g.H.Host.machines g.L.Link.takes_from g.L.Link.puts_into g.L.Link.taking g.L.Link.putting g.Z.Streams.flow g.E.Era.start c.args.stations.now c.args.links.now c.args._upto c.args._threads.now c.requires.stationed.hosts c.requires.stationed.stationed c.args.linked_hosts.items c.requires.linked_hosts c.requires.numbered (c.requires.count ∙ ap (λ l. length l) c.requires.stationed.sizes ∙ length-map c.requires.stationed.hosts (λ (l : List Machine). length l)) c.requires.stationed.sizes c.deref.result.now c.separate.new.rows.items (c.deref.ensures.value ∙ c.separate.ensures.hosts) c.separate.ensures.rows

pub unwrap_all-requires-clause-there : goal.unwrap_all-requires-clause-there
unwrap_all-requires-clause-there g c = all-there g.H.Host.machines g.L.Link.takes_from g.L.Link.puts_into g.L.Link.taking g.L.Link.putting g.Z.Streams.flow g.E.Era.start c.args.stations.now c.args.links.now c.args._upto c.args._threads.now c.requires.stationed.hosts c.requires.stationed.stationed c.args.linked_hosts.items c.requires.linked_hosts c.requires.numbered (c.requires.count ∙ ap (λ l. length l) c.requires.stationed.sizes ∙ length-map c.requires.stationed.hosts (λ (l : List Machine). length l)) c.requires.stationed.sizes (consumer_in g.E.Era.start) (λ hs. TakeSeatOf g.L.Link.takes_from g.L.Link.puts_into g.L.Link.taking g.L.Link.putting g.Z.Streams.flow g.E.Era.start c.args.links.now (machines_by (map g.H.Host.machines hs) c.args.stations.now)) (length g.E.Era.start.wires) c.deref.result.now c.separate.new.rows.items (c.deref.ensures.value ∙ c.separate.ensures.hosts) c.separate.ensures.rows c.args.takes.items c.return_all.new.takes.items c.return_all.ensures.takes c.requires.long.0 (λ d lt. omega (arith, consumer-there g.Z.Streams.flow g.E.Era.start c.requires.kept d lt, c.requires.listed.0))

pub unwrap_all-requires-2-clause-there : goal.unwrap_all-requires-2-clause-there
unwrap_all-requires-2-clause-there g c = all-there g.H.Host.machines g.L.Link.takes_from g.L.Link.puts_into g.L.Link.taking g.L.Link.putting g.Z.Streams.flow g.E.Era.start c.args.stations.now c.args.links.now c.args._upto c.args._threads.now c.requires.stationed.hosts c.requires.stationed.stationed c.args.linked_hosts.items c.requires.linked_hosts c.requires.numbered (c.requires.count ∙ ap (λ l. length l) c.requires.stationed.sizes ∙ length-map c.requires.stationed.hosts (λ (l : List Machine). length l)) c.requires.stationed.sizes (producer_in g.E.Era.start) (λ hs. PutSeatOf g.L.Link.takes_from g.L.Link.puts_into g.L.Link.taking g.L.Link.putting g.Z.Streams.flow g.E.Era.start c.args.links.now (machines_by (map g.H.Host.machines hs) c.args.stations.now)) (length g.E.Era.start.wires) c.deref.result.now c.separate.new.rows.items (c.deref.ensures.value ∙ c.separate.ensures.hosts) c.separate.ensures.rows c.args.puts.items c.return_all.new.puts.items c.return_all.ensures.puts c.requires.long.1 (λ d lt. omega (arith, producer-there g.Z.Streams.flow g.E.Era.start c.requires.kept d lt, c.requires.listed.0))

pub returns-clause-takes : goal.returns-clause-takes
returns-clause-takes g c = are-seats g.H.Host.machines g.L.Link.takes_from g.L.Link.puts_into g.L.Link.taking g.L.Link.putting g.Z.Streams.flow g.E.Era.start c.args.stations.now c.args.links.now c.args._upto c.args._threads.now c.requires.stationed.hosts c.requires.stationed.stationed c.args.linked_hosts.items c.requires.linked_hosts c.requires.numbered (c.requires.count ∙ ap (λ l. length l) c.requires.stationed.sizes ∙ length-map c.requires.stationed.hosts (λ (l : List Machine). length l)) c.requires.stationed.sizes (consumer_in g.E.Era.start) (λ hs. TakeSeatOf g.L.Link.takes_from g.L.Link.puts_into g.L.Link.taking g.L.Link.putting g.Z.Streams.flow g.E.Era.start c.args.links.now (machines_by (map g.H.Host.machines hs) c.args.stations.now)) (length g.E.Era.start.wires) c.deref.result.now c.separate.new.rows.items (c.deref.ensures.value ∙ c.separate.ensures.hosts) c.separate.ensures.rows c.args.takes.items c.return_all.new.takes.items c.return_all.ensures.takes c.requires.long.0 (λ d lt. omega (arith, consumer-there g.Z.Streams.flow g.E.Era.start c.requires.kept d lt, c.requires.listed.0)) c.unwrap_all.new.into.items c.unwrap_all.ensures

pub returns-clause-puts : goal.returns-clause-puts
returns-clause-puts g c = are-seats g.H.Host.machines g.L.Link.takes_from g.L.Link.puts_into g.L.Link.taking g.L.Link.putting g.Z.Streams.flow g.E.Era.start c.args.stations.now c.args.links.now c.args._upto c.args._threads.now c.requires.stationed.hosts c.requires.stationed.stationed c.args.linked_hosts.items c.requires.linked_hosts c.requires.numbered (c.requires.count ∙ ap (λ l. length l) c.requires.stationed.sizes ∙ length-map c.requires.stationed.hosts (λ (l : List Machine). length l)) c.requires.stationed.sizes (producer_in g.E.Era.start) (λ hs. PutSeatOf g.L.Link.takes_from g.L.Link.puts_into g.L.Link.taking g.L.Link.putting g.Z.Streams.flow g.E.Era.start c.args.links.now (machines_by (map g.H.Host.machines hs) c.args.stations.now)) (length g.E.Era.start.wires) c.deref.result.now c.separate.new.rows.items (c.deref.ensures.value ∙ c.separate.ensures.hosts) c.separate.ensures.rows c.args.puts.items c.return_all.new.puts.items c.return_all.ensures.puts c.requires.long.1 (λ d lt. omega (arith, producer-there g.Z.Streams.flow g.E.Era.start c.requires.kept d lt, c.requires.listed.0)) c.unwrap_all-2.new.into.items c.unwrap_all-2.ensures
