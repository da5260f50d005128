use Rattle.std.proofs.Common.{List, map, [], refl, sym, subst, ◌∙◌, arith}
use Rattle.std.proofs.lemmas.List.{length-map}
use Rattle.gg_net.specs.declared.shape.Station.{Station}
use Rattle.gg_net.specs.Network.{Network}
use Rattle.gg_net.specs.inside.Stations.{stationed, machines_by}
use Rattle.gg_workers_pass.specs.inside.Seats.{Linked}
use Rattle.gg_workers_pass.proofs.NetLemmas.{linked-none, same-net, closed-net}
use Rattle.gg_workers.proofs.links.open_links.Goals as goal

pub returns-in-Err-clause-refused : goal.returns-in-Err-clause-refused
returns-in-Err-clause-refused g c =
    let machines = map g.H.Host.machines c.args.hosts.now in
    let left = c.close_all.new.queues.items in
    let lent = subst (λ (l : List Station). Linked g.L.Link.takes_from g.L.Link.puts_into g.L.Link.taking g.L.Link.putting g.Z.Streams.flow g.E.Era.start (machines_by machines l) [] [] [] left) c.deref-in-Err.ensures.value c.close_all.ensures.standing in
    let closed = subst (λ (n : Network). Linked g.L.Link.takes_from g.L.Link.puts_into g.L.Link.taking g.L.Link.putting g.Z.Streams.flow n (machines_by machines c.args.shape.now.stations.items) [] [] [] left) c.requires.start lent in
    same-net g.L.Link.takes_from g.L.Link.puts_into g.L.Link.taking g.L.Link.putting c.requires.parts left closed ∙ sym c.requires.start

pub open_all-opened-requires-clause-standing : goal.open_all-opened-requires-clause-standing
open_all-opened-requires-clause-standing g c κs within =
    let start = g.E.Era.start in
    let queues = c.args.queues.now.items in
    let none = c.requires.none in
    subst (λ l. Linked g.L.Link.takes_from g.L.Link.puts_into g.L.Link.taking g.L.Link.putting g.Z.Streams.flow start start.machines l c.args.put_seats.now.items c.args.take_seats.now.items queues) (sym none.0)
    (subst (λ l. Linked g.L.Link.takes_from g.L.Link.puts_into g.L.Link.taking g.L.Link.putting g.Z.Streams.flow start start.machines [] l c.args.take_seats.now.items queues) (sym none.1)
    (subst (λ l. Linked g.L.Link.takes_from g.L.Link.puts_into g.L.Link.taking g.L.Link.putting g.Z.Streams.flow start start.machines [] [] l queues) (sym none.2)
    (subst (λ (n : Network). Linked g.L.Link.takes_from g.L.Link.puts_into g.L.Link.taking g.L.Link.putting g.Z.Streams.flow n n.machines [] [] [] queues) (sym c.requires.start)
    (linked-none g.L.Link.takes_from g.L.Link.puts_into g.L.Link.taking g.L.Link.putting c.requires.parts))))

pub returns-in-Err-clause-parts : goal.returns-in-Err-clause-parts
returns-in-Err-clause-parts g c =
    let machines = map g.H.Host.machines c.args.hosts.now in
    let stations = c.args.shape.now.stations.items in
    let left = c.close_all.new.queues.items in
    let lent = subst (λ (l : List Station). Linked g.L.Link.takes_from g.L.Link.puts_into g.L.Link.taking g.L.Link.putting g.Z.Streams.flow g.E.Era.start (machines_by machines l) [] [] [] left) c.deref-in-Err.ensures.value c.close_all.ensures.standing in
    let closed = subst (λ (n : Network). Linked g.L.Link.takes_from g.L.Link.puts_into g.L.Link.taking g.L.Link.putting g.Z.Streams.flow n (machines_by machines stations) [] [] [] left) c.requires.start lent in
    closed-net g.L.Link.takes_from g.L.Link.puts_into g.L.Link.taking g.L.Link.putting c.requires.parts machines left refl (λ h. refl)
    (λ m lt. c.requires.parts.kept.machines m (omega (arith, lt, length-map stations (stationed machines)))) closed
