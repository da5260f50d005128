use Rattle.std.proofs.Common.{◌≡◌, ◌≤◌, length, map, refl, sym, ap, subst}
use Rattle.std.specs.Vec.{vec_capacity}
use Rattle.gg_net.specs.Network.{Network, frame_of}
use Rattle.gg_net.specs.Kept.{Kept}
use Rattle.gg_net.specs.inside.Stations.{AreStationed}
use Rattle.gg_net.specs.inside.Net.{AreListed, AreParts, joined}
use Rattle.gg_workers.specs.inside.Making.{IsReserved}
use Rattle.gg_workers.specs.inside.Apart.{AreReturnLists}
use Rattle.gg_workers.proofs.opened.open_net.Goals as goal

pub assemble-requires-clause-joined : goal.assemble-requires-clause-joined
assemble-requires-clause-joined g c κs within = record { hosts = map g.H.Host.machines c.args.parts.hosts.items; queues = c.args.parts.queues.items; parts = c.requires.parts; is = c.requires.start; sizes = refl }

pub reserve_all-requires-clause-stationed : goal.reserve_all-requires-clause-stationed
reserve_all-requires-clause-stationed g c κs within = subst (λ l. AreStationed (map g.H.Host.machines l) c.args.parts.shape.stations.items) (sym c.deref.ensures.value) c.requires.parts.stationed

pub open_links-linked-requires-clause-parts : goal.open_links-linked-requires-clause-parts
open_links-linked-requires-clause-parts g c κs within = subst (λ l. AreParts g.Z.Streams.flow (map g.H.Host.machines l) c.args.parts.shape c.args.parts.queues.items) (sym c.deref-2.ensures.value) c.requires.parts

pub open_links-linked-requires-clause-start : goal.open_links-linked-requires-clause-start
open_links-linked-requires-clause-start g c κs within = subst (λ l. g.E.Era.start ≡ joined (map g.H.Host.machines l) c.args.parts.shape c.args.parts.queues.items) (sym c.deref-2.ensures.value) c.requires.start

pub open_links-linked-requires-clause-starts : goal.open_links-linked-requires-clause-starts
open_links-linked-requires-clause-starts g c κs within = c.requires.starts

pub open_links-linked-requires-clause-room : goal.open_links-linked-requires-clause-room
open_links-linked-requires-clause-room g c κs within =
    subst (λ n. (n ≤ vec_capacity c.in-Ok.reserve.links) × (n ≤ vec_capacity c.in-Ok.reserve.put_seats) × (n ≤ vec_capacity c.in-Ok.reserve.take_seats)) (sym (ap (λ (n : Network). length n.wires) c.requires.start)) c.in-Ok.ensures.wide

pub open_links-linked-requires-clause-none : goal.open_links-linked-requires-clause-none
open_links-linked-requires-clause-none g c κs within = c.in-Ok.ensures.none

pub assemble-requires-clause-kept : goal.assemble-requires-clause-kept
assemble-requires-clause-kept g c κs within = subst (Kept g.Z.Streams.flow) (sym c.requires.start) c.requires.parts.kept

pub assemble-requires-clause-stationed : goal.assemble-requires-clause-stationed
assemble-requires-clause-stationed g c κs within = c.requires.parts.stationed

pub assemble-requires-clause-machines : goal.assemble-requires-clause-machines
assemble-requires-clause-machines g c κs within = ap (λ (n : Network). n.machines) c.requires.start

pub assemble-requires-clause-listed : goal.assemble-requires-clause-listed
assemble-requires-clause-listed g c κs within = subst (λ (n : Network). AreListed (frame_of n) c.args.parts.shape.stations.items) (sym c.requires.start) c.requires.parts.listed

pub assemble-requires-clause-linked : goal.assemble-requires-clause-linked
assemble-requires-clause-linked g c κs within = c.in_default-linked.ensures.linked

pub assemble-requires-clause-all : goal.assemble-requires-clause-all
assemble-requires-clause-all g c κs within = c.in_default-linked.ensures.all

pub assemble-requires-clause-new : goal.assemble-requires-clause-new
assemble-requires-clause-new g c κs within = c.in_default-linked.ensures.new

pub assemble-requires-clause-setup : goal.assemble-requires-clause-setup
assemble-requires-clause-setup g c κs within =
    subst (λ l. IsReserved (map g.H.Host.machines l) c.args.parts.shape.stations.items (length g.E.Era.start.wires) c.args.workers c.in-Ok.reserve.setup) c.deref.ensures.value
    (subst (λ n. IsReserved (map g.H.Host.machines c.deref.result.now) c.args.parts.shape.stations.items n c.args.workers c.in-Ok.reserve.setup) (sym (ap (λ (n : Network). length n.wires) c.requires.start)) c.in-Ok.ensures.setup)

pub assemble-requires-clause-return_lists : goal.assemble-requires-clause-return_lists
assemble-requires-clause-return_lists g c κs within =
    subst (λ l. AreReturnLists (length l) (length g.E.Era.start.wires) c.in-Ok.reserve.return_lists) c.deref.ensures.value
    (subst (λ n. AreReturnLists (length c.deref.result.now) n c.in-Ok.reserve.return_lists) (sym (ap (λ (n : Network). length n.wires) c.requires.start)) c.in-Ok.ensures.return_lists)

pub assemble-requires-clause-few : goal.assemble-requires-clause-few
assemble-requires-clause-few g c κs within = c.requires.few

pub returns-clause-opened : goal.returns-clause-opened
returns-clause-opened g c = c.assemble.ensures

pub returns-in_default-clause-parts : goal.returns-in_default-clause-parts
returns-in_default-clause-parts g c = c.requires.parts

pub returns-in_default-clause-refused : goal.returns-in_default-clause-refused
returns-in_default-clause-refused g c = sym c.requires.start

pub returns-in-Err-clause-parts : goal.returns-in-Err-clause-parts
returns-in-Err-clause-parts g c =
    subst (λ l. AreParts g.Z.Streams.flow (map g.H.Host.machines l) c.args.parts.shape c.open_links-linked.new.queues.items) c.deref-2.ensures.value c.in-Err.ensures.parts

pub returns-in-Err-clause-refused : goal.returns-in-Err-clause-refused
returns-in-Err-clause-refused g c =
    subst (λ l. joined (map g.H.Host.machines l) c.args.parts.shape c.open_links-linked.new.queues.items ≡ g.E.Era.start) c.deref-2.ensures.value c.in-Err.ensures.refused
