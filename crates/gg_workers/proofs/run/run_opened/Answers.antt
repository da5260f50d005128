use Rattle.std.proofs.Common.{◌≡◌, length, sym, subst}
use Rattle.gg_net.specs.Network.{frame_of}
use Rattle.gg_net.specs.inside.Net.{AreListed}
use Rattle.gg_workers.specs.inside.LinkedHosts.{ReadyAt, DoneAt, AreLinkedHosts}
use Rattle.gg_workers.proofs.BackLemmas.{count-start, listed-start, linked_hosts-lent}
use Rattle.gg_workers.proofs.run.run_opened.Goals as goal

pub run_assigned-requires-clause-listed : goal.run_assigned-requires-clause-listed
run_assigned-requires-clause-listed g c κs within = subst (λ l. (length l ≡ length g.E.Era.start.machines) × AreListed (frame_of g.E.Era.start) l) (sym c.deref-2.ensures.value) (count-start c.requires.opened.joined, listed-start c.requires.opened.joined)

pub run_assigned-requires-clause-linked_hosts : goal.run_assigned-requires-clause-linked_hosts
run_assigned-requires-clause-linked_hosts g c κs within = linked_hosts-lent (λ threads stations links. AreLinkedHosts g.H.Host.machines threads (ReadyAt g.L.Link.takes_from g.L.Link.puts_into g.L.Link.taking g.L.Link.putting g.Z.Streams.flow g.E.Era.start stations links c.args.upto) c.args.opened.linked_hosts.items) (sym c.deref-3.ensures.value) (sym c.deref-2.ensures.value) (sym c.deref.ensures.value) (c.requires.opened.linked_hosts c.args.upto)

pub close_hosts-requires-clause-linked_hosts : goal.close_hosts-requires-clause-linked_hosts
close_hosts-requires-clause-linked_hosts g c κs within = subst (λ threads. AreLinkedHosts g.H.Host.machines threads (DoneAt g.L.Link.takes_from g.L.Link.puts_into g.L.Link.taking g.L.Link.putting g.Z.Streams.flow g.E.Era.start c.args.opened.shape.stations.items c.args.opened.links.items c.args.upto) c.run_assigned.new.linked_hosts.items) (sym c.deref-4.ensures.value)
    (linked_hosts-lent (λ threads stations links. AreLinkedHosts g.H.Host.machines threads (DoneAt g.L.Link.takes_from g.L.Link.puts_into g.L.Link.taking g.L.Link.putting g.Z.Streams.flow g.E.Era.start stations links c.args.upto) c.run_assigned.new.linked_hosts.items) c.deref-3.ensures.value c.deref-2.ensures.value c.deref.ensures.value c.run_assigned.ensures.linked_hosts)
