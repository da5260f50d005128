-- The parts of a network after a run, from those before.
use Rattle.std.proofs.Common.{◌≡◌, ℕ, ◌<◌, List, [], length, map, sym, subst, ap, ◌∙◌, arith}
use Rattle.std.proofs.lemmas.List.{length-map}
use Rattle.gg_flat.specs.Streams.{Flow}
use Rattle.gg_link.specs.Seats.{SeatState}
use Rattle.gg_node.specs.Machine.{Machine, machine_at}
use Rattle.gg_net.specs.declared.shape.Station.{Station}
use Rattle.gg_net.specs.declared.shape.Shape.{Shape}
use Rattle.gg_net.specs.Network.{Network, frame_of}
use Rattle.gg_net.specs.Kept.{MachineAt, Kept}
use Rattle.gg_net.specs.inside.Queue.{Held}
use Rattle.gg_net.specs.inside.Stations.{hosted, stationed, machines_by}
use Rattle.gg_net.specs.inside.Net.{AreListed, AreParts, joined}
use Rattle.gg_workers_pass.specs.inside.Pass.{MachineWentOn, EventsDone}
use Rattle.gg_workers_pass.specs.inside.Seats.{Linked, MayStand, TakeSeatOf, PutSeatOf}
use Rattle.gg_workers_pass.proofs.AgainLemmas.{linked-again}
use Rattle.gg_workers.specs.declared.worker.LinkedHost.{LinkedHost}
use Rattle.gg_workers.specs.inside.LinkedHosts.{DoneAt, AreLinkedHosts, AreNumbered}
use Rattle.gg_workers.specs.inside.Apart.{WereStationed, WasJoined, WereLinked, AreSeats}
use Rattle.gg_workers.specs.Work.{IsLater}
use Rattle.gg_workers.proofs.WorkLemmas as work
use Rattle.gg_workers.proofs.WorkLemmas.{net-again, net-later}

module _ {flow : Flow} {net : Network} {shape : Shape} {threads : List ℕ} (j : WasJoined flow net shape threads) where
  abbrev stations : List Station
  stations = shape.stations.items

  pub kept-start : Kept flow net
  kept-start = subst (Kept flow) (sym j.is) j.parts.kept

  pub count-start : length stations ≡ length net.machines
  count-start = sym (ap (λ (n : Network). length n.machines) j.is ∙ length-map stations (stationed j.hosts))

  pub listed-start : AreListed (frame_of net) stations
  listed-start = subst (λ (n : Network). AreListed (frame_of n) stations) (sym j.is) j.parts.listed

  pub stationed-start : WereStationed stations threads
  stationed-start = record { hosts = j.hosts; stationed = j.parts.stationed; sizes = j.sizes }

  module _ {H X S T : Type 0} (machines : H → List Machine) (takes_from : X → S → Type 0) (puts_into : X → T → Type 0) (taking : S → SeatState) (putting : T → SeatState) (links : List X) (upto : ℕ) where
    pub linked-back : (machines : List Machine) (queues : List Held) → WereLinked {S = S} {T = T} takes_from puts_into taking putting flow net links queues
        → (take_seats : List S) (put_seats : List T) → AreSeats (TakeSeatOf takes_from puts_into taking putting flow net links machines) (length net.wires) take_seats → AreSeats (PutSeatOf takes_from puts_into taking putting flow net links machines) (length net.wires) put_seats
        → Linked takes_from puts_into taking putting flow net machines links put_seats take_seats queues
    linked-back machines queues were take_seats put_seats takes puts =
        linked-again takes_from puts_into taking putting flow net machines links net.machines were.put_seats were.take_seats queues were.linked were.all put_seats take_seats (puts.long ∙ sym were.all) (takes.long ∙ sym were.all)
        (λ c put lt. puts.each c put (omega (arith, lt, were.all)))
        (λ c take lt. takes.each c take (omega (arith, lt, were.all)))

    module _ (bs : List (LinkedHost H S T)) (are : AreLinkedHosts machines threads (DoneAt takes_from puts_into taking putting flow net stations links upto) bs) (numbered : AreNumbered bs) (count : length bs ≡ length threads) where
      abbrev after : List (List Machine)
      after = map machines (map (λ (b : LinkedHost H S T). b.host) bs)

      as-many : length bs ≡ length j.hosts
      as-many = count ∙ ap (λ l. length l) j.sizes ∙ length-map j.hosts (λ (l : List Machine). length l)

      pub stand-back : (hs : List H) → hs ≡ map (λ (b : LinkedHost H S T). b.host) bs → MayStand flow net (machines_by (map machines hs) stations)
      stand-back hs is = subst (λ (l : List H). MayStand flow net (machines_by (map machines l) stations)) (sym is) (work.may-stand machines takes_from puts_into taking putting flow net stations links upto threads j.hosts j.parts.stationed bs are numbered as-many j.sizes count-start)

      run : (m : ℕ) → m < length stations → work.HasRun machines takes_from puts_into taking putting flow net stations links upto threads j.hosts j.parts.stationed bs are numbered as-many j.sizes m (machine_at (machines_by after stations) m)
      run = work.has-run machines takes_from puts_into taking putting flow net stations links upto threads j.hosts j.parts.stationed bs are numbered as-many j.sizes

      after-long : length after ≡ length j.hosts
      after-long = work.after-long machines takes_from puts_into taking putting flow net stations links upto threads j.hosts j.parts.stationed bs are numbered as-many j.sizes

      after-threads : (h : ℕ) → length (hosted after h) ≡ length (hosted j.hosts h)
      after-threads = work.threads-same machines takes_from puts_into taking putting flow net stations links upto threads j.hosts j.parts.stationed bs are numbered as-many j.sizes

      both : (left : List Held) → Linked takes_from puts_into taking putting flow net (machines_by after stations) [] [] [] left → AreParts flow after shape left × IsLater flow upto net (joined after shape left)
      both left closed =
          subst (λ (n : Network). ((m : ℕ) → m < length stations → MachineAt flow (frame_of n) m (machine_at (machines_by after stations) m)) → Linked takes_from puts_into taking putting flow n (machines_by after stations) [] [] [] left
          → ((m : ℕ) → m < length stations → MachineWentOn (frame_of n) m upto (machine_at n.machines m) (machine_at (machines_by after stations) m)) → ((m : ℕ) → m < length stations → EventsDone n m upto (machine_at (machines_by after stations) m))
          → AreParts flow after shape left × IsLater flow upto n (joined after shape left)) (sym j.is)
          (λ own links went done. (
            net-again takes_from puts_into taking putting j.parts upto after left after-long after-threads own links,
            net-later takes_from puts_into taking putting j.parts upto after left after-long after-threads own links went done,
          ))
          (λ m lt. (run m lt).own) closed (λ m lt. (run m lt).went) (λ m lt. (run m lt).done)

      module _ (hs : List H) (is : hs ≡ map (λ (b : LinkedHost H S T). b.host) bs) (left : List Held) (closed : Linked takes_from puts_into taking putting flow net (machines_by (map machines hs) stations) [] [] [] left) where
        closed-here : Linked takes_from puts_into taking putting flow net (machines_by after stations) [] [] [] left
        closed-here = subst (λ (l : List H). Linked takes_from puts_into taking putting flow net (machines_by (map machines l) stations) [] [] [] left) is closed

        pub parts-back : AreParts flow (map machines hs) shape left
        parts-back = subst (λ (l : List H). AreParts flow (map machines l) shape left) (sym is) (both left closed-here).0

        pub later-back : IsLater flow upto net (joined (map machines hs) shape left)
        later-back = subst (λ (l : List H). IsLater flow upto net (joined (map machines l) shape left)) (sym is) (both left closed-here).1

-- lists that were lent as slices
pub seats-lent : {X H : Type 0} (R : List X → List H → List Station → Type 0) (links ls : List X) (moved hs : List H) (stations given lent : List Station) → ls ≡ links → hs ≡ moved → given ≡ stations → lent ≡ stations → R ls moved given → R links hs lent
seats-lent {X} {H} R links ls moved hs stations given lent are_links are_hosts are_given are_lent r =
    subst (R links hs) (sym are_lent) (subst (λ (l : List H). R links l stations) (sym are_hosts) (subst (R links moved) are_given (subst (λ (l : List X). R l moved given) are_links r)))

pub linked_hosts-lent : {A B C : Type 0} (R : List A → List B → List C → Type 0) {threads lent_threads : List A} {stations lent_stations : List B} {links lent_links : List C} → threads ≡ lent_threads → stations ≡ lent_stations → links ≡ lent_links → R threads stations links → R lent_threads lent_stations lent_links
linked_hosts-lent R {threads} {lent_threads} {stations} {lent_stations} {links} {lent_links} one two three r =
    subst (R lent_threads lent_stations) three (subst (λ s. R lent_threads s links) two (subst (λ t. R t stations links) one r))
