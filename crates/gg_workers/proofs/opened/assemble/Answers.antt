use Rattle.std.proofs.Common.{length, map, refl, sym, ap, subst, ◌∙◌, arith}
use Rattle.std.proofs.lemmas.List.{length-map}
use Rattle.gg_net.specs.Network.{frame_of}
use Rattle.gg_net.specs.inside.Net.{AreListed}
use Rattle.gg_net.specs.inside.Stations.{machines_by, AreStationed}
use Rattle.gg_workers_pass.specs.inside.Seats.{Linked, AreNew}
use Rattle.gg_workers.specs.inside.Making.{IsReserved}
use Rattle.gg_workers.specs.inside.Apart.{WasJoined}
use Rattle.gg_workers.specs.inside.LinkedHosts.{ReadyAt, AreLinkedHosts}
use Rattle.gg_workers.proofs.BackLemmas.{linked_hosts-lent}
use Rattle.gg_workers.proofs.opened.assemble.Goals as goal

pub returns : goal.returns
returns g c =
    let hosts = c.args.parts.hosts.items in
    let machines = map g.H.Host.machines hosts in
    let count = c.make.ensures.count in
    let return_lists = c.requires.return_lists in
    record {
      joined = subst (λ threads. WasJoined g.Z.Streams.flow g.E.Era.start c.args.parts.shape threads) (sym c.make.ensures.threads) c.requires.joined;
      linked = record { put_seats = c.args.reserve.put_seats.items; take_seats = c.args.reserve.take_seats.items; linked = c.requires.linked; all = c.requires.all };
      count = count ∙ sym (ap length c.make.ensures.threads ∙ length-map machines (λ own. length own) ∙ length-map hosts g.H.Host.machines);
      numbered = c.make.ensures.numbered;
      linked_hosts = λ upto. linked_hosts-lent (λ threads stations links. AreLinkedHosts g.H.Host.machines threads (ReadyAt g.L.Link.takes_from g.L.Link.puts_into g.L.Link.taking g.L.Link.putting g.Z.Streams.flow g.E.Era.start stations links upto) c.make.new.setup.linked_hosts.items) refl c.deref.ensures.value c.deref-2.ensures.value (c.make.ensures.linked_hosts upto);
      few = (omega (arith, c.make.ensures.workers, c.requires.few.0), omega (arith, c.make.ensures.workers, c.requires.few.1));
      ready = c.make.ensures.assigning;
      long = c.make.ensures.lists;
      return_lists = record {
        none = return_lists.none;
        room = (omega (arith, return_lists.room.0, count), omega (arith, return_lists.room.1, count), return_lists.room.2, return_lists.room.3);
      };
    }

pub make-requires-clause-kept : goal.make-requires-clause-kept
make-requires-clause-kept g c κs within = c.requires.kept

pub make-requires-clause-stationed : goal.make-requires-clause-stationed
make-requires-clause-stationed g c κs within = subst (λ l. AreStationed (map g.H.Host.machines c.args.parts.hosts.items) l) (sym c.deref.ensures.value) c.requires.stationed

pub make-requires-clause-machines : goal.make-requires-clause-machines
make-requires-clause-machines g c κs within = c.requires.machines ∙ ap (machines_by (map g.H.Host.machines c.args.parts.hosts.items)) (sym c.deref.ensures.value)

pub make-requires-clause-listed : goal.make-requires-clause-listed
make-requires-clause-listed g c κs within = subst (AreListed (frame_of g.E.Era.start)) (sym c.deref.ensures.value) c.requires.listed

pub make-requires-clause-linked : goal.make-requires-clause-linked
make-requires-clause-linked g c κs within =
    subst (λ links. Linked g.L.Link.takes_from g.L.Link.puts_into g.L.Link.taking g.L.Link.putting g.Z.Streams.flow g.E.Era.start g.E.Era.start.machines links c.args.reserve.put_seats.items c.args.reserve.take_seats.items c.deref-3.result.now) (sym c.deref-2.ensures.value)
    (subst (λ queues. Linked g.L.Link.takes_from g.L.Link.puts_into g.L.Link.taking g.L.Link.putting g.Z.Streams.flow g.E.Era.start g.E.Era.start.machines c.args.reserve.links.items c.args.reserve.put_seats.items c.args.reserve.take_seats.items queues) (sym c.deref-3.ensures.value) c.requires.linked)

pub make-requires-clause-all : goal.make-requires-clause-all
make-requires-clause-all g c κs within = ap length c.deref-2.ensures.value ∙ c.requires.all

pub make-requires-clause-new : goal.make-requires-clause-new
make-requires-clause-new g c κs within =
    subst (λ links. AreNew g.L.Link.taking g.L.Link.putting g.E.Era.start (length links) c.args.reserve.put_seats.items c.args.reserve.take_seats.items) (sym c.deref-2.ensures.value) c.requires.new

pub make-requires-clause-setup : goal.make-requires-clause-setup
make-requires-clause-setup g c κs within =
    subst (λ l. IsReserved (map g.H.Host.machines c.args.parts.hosts.items) l (length g.E.Era.start.wires) c.args.workers c.args.reserve.setup) (sym c.deref.ensures.value) c.requires.setup
