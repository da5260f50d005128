-- Hosts that were given their seats are ready to run.
use Rattle.std.proofs.Common.{◌≡◌, ℕ, ◌+◌, ◌<◌, ◌≤◌, ◌∷◌, ◌++◌, inl, List, [], length, map, slice_index_or, sym, ap, subst, ◌∙◌, arith}
use Rattle.std.specs.Vec.{vec_capacity}
use Rattle.std.proofs.lemmas.List.{get_or-map, length-map, length-append}
use Rattle.std.proofs.lemmas.List.Elements.{All-push}
use Rattle.gg_flat.specs.Line.{value_at}
use Rattle.gg_flat.specs.Streams.{Flow}
use Rattle.gg_link.specs.Seats.{SeatState}
use Rattle.gg_node.specs.Machine.{Machine, no_machine, machine_at}
use Rattle.gg_net.specs.declared.shape.Station.{Station}
use Rattle.gg_net.specs.Network.{Network, queue_at, kind_at, frame_of}
use Rattle.gg_net.specs.Kept.{Kept}
use Rattle.gg_net.specs.inside.Queue.{Held}
use Rattle.gg_net.specs.inside.Stations.{hosted, stationed, machines_by, HasStation, AreStationed}
use Rattle.gg_net.specs.inside.Net.{IsListed, AreListed}
use Rattle.gg_workers_pass.specs.declared.machine_seats.MachineSeats.{MachineSeats}
use Rattle.gg_workers_pass.specs.inside.Seats.{Linked, AreNew}
use Rattle.gg_workers_pass.specs.inside.Pass.{HasSeats, HasNewSeats, MachineWentOn}
use Rattle.gg_workers_pass.proofs.EventLemmas.{some-of}
use Rattle.gg_workers_pass.proofs.NetLemmas.{takes-placed, puts-placed}
use Rattle.gg_workers_pass.proofs.WentLemmas.{went-nowhere}
use Rattle.gg_workers.specs.declared.worker.LinkedHost.{LinkedHost}
use Rattle.gg_workers.specs.declared.worker.Worker.{Worker}
use Rattle.gg_workers.specs.declared.host_seats.HostSeats.{HostSeats}
use Rattle.gg_workers.specs.inside.LinkedHosts.{ReadyAt, AreLinkedHosts}
use Rattle.gg_workers.specs.inside.HostSeats.{IsFilledFor, seats_at, HasPlaces, EachMachine}
use Rattle.gg_workers.specs.inside.Making.{HaveTheirSeats, AreIdle}
use Rattle.gg_workers.proofs.ListLemmas.{get_default}

module _ {X S T : Type 0} (takes_from : X → S → Type 0) (puts_into : X → T → Type 0) (taking : S → SeatState) (putting : T → SeatState) (flow : Flow) (net : Network) (kept : Kept flow net) (stations : List Station) (long : length stations ≡ length net.machines) (listed : AreListed (frame_of net) stations)
    (links : List X) (put_seats : List T) (take_seats : List S) (queues : List Held) (linked : Linked takes_from puts_into taking putting flow net net.machines links put_seats take_seats queues) (all : length links ≡ length net.wires) (new : AreNew taking putting net (length links) put_seats take_seats) (upto : ℕ) where
  module _ (m : ℕ) (known : m < length stations) (station : Station) (at : (s : Station) → slice_index_or stations m s ≡ station) (x : Machine) (same : x ≡ machine_at net.machines m) (machine_seats : MachineSeats S T) (full : IsFilledFor take_seats put_seats m station machine_seats) where
    here : IsListed net.wires m (kind_at (frame_of net).kinds m) station
    here = subst (λ (s : Station). IsListed net.wires m (kind_at (frame_of net).kinds m) s) (at station) (listed m station known)

    full-machine_seats : HasSeats takes_from puts_into taking putting flow net links m station.ins station.outs x machine_seats.takes.items machine_seats.puts.items
    full-machine_seats = subst (λ (y : Machine). HasSeats takes_from puts_into taking putting flow net links m station.ins station.outs y machine_seats.takes.items machine_seats.puts.items) (sym same)
        (record {
          machine = kept.machines m (omega (arith, known, long));
          takes = takes-placed takes_from puts_into taking putting flow net net.machines links put_seats take_seats queues linked all m station here machine_seats.takes.items full.takes.long full.takes.each;
          puts = puts-placed takes_from puts_into taking putting flow net net.machines links put_seats take_seats queues linked all m station here machine_seats.puts.items full.puts.long full.puts.each;
        })

    new-machine_seats : HasNewSeats taking putting net m station.ins station.outs x machine_seats.takes.items machine_seats.puts.items
    new-machine_seats =
        record {
          machine = same;
          takes = λ k s lt.
              let c : ℕ = value_at station.ins k in
              let there : c < length links = omega (arith, (here.into k (omega (arith, lt, here.ins))).known, all) in
              subst (λ (t : S). ((taking t).count ≡ 0) × ((taking t).seen ≡ length (queue_at net.queues c))) (sym (full.takes.each k s lt)) (new.got c s there);
          puts = λ k s lt.
              let c : ℕ = value_at station.outs k in
              let there : c < length links = omega (arith, (here.from k (omega (arith, lt, here.outs))).known, all) in
              subst (λ (t : T). (putting t).count ≡ length (queue_at net.queues c)) (sym (full.puts.each k s lt)) (new.given c s there);
        }

    -- a machine with its seats is ready
    pub ready-machine_seats : ReadyAt takes_from puts_into taking putting flow net stations links upto station.host station.thread x machine_seats
    ready-machine_seats =
        record {
          at = record {
            known = subst (λ (i : ℕ). i < length stations) (sym full.machine) known;
            host = λ s. ap (λ (i : ℕ). (slice_index_or stations i s).host) full.machine ∙ ap (λ (y : Station). y.host) (at s);
            thread = λ s. ap (λ (i : ℕ). (slice_index_or stations i s).thread) full.machine ∙ ap (λ (y : Station). y.thread) (at s);
            seats = λ s.
                let mine : HasSeats takes_from puts_into taking putting flow net links m (slice_index_or stations m s).ins (slice_index_or stations m s).outs x machine_seats.takes.items machine_seats.puts.items =
                subst (λ (y : Station). HasSeats takes_from puts_into taking putting flow net links m y.ins y.outs x machine_seats.takes.items machine_seats.puts.items) (sym (at s)) full-machine_seats in
                subst (λ (i : ℕ). HasSeats takes_from puts_into taking putting flow net links i (slice_index_or stations i s).ins (slice_index_or stations i s).outs x machine_seats.takes.items machine_seats.puts.items) (sym full.machine) mine;
            went_on = subst (λ (i : ℕ). MachineWentOn (frame_of net) i upto (machine_at net.machines i) x) (sym full.machine) (subst (λ (y : Machine). MachineWentOn (frame_of net) m upto y x) same (went-nowhere (frame_of net) m upto x));
          };
          before = inl (λ s.
              let mine : HasNewSeats taking putting net m (slice_index_or stations m s).ins (slice_index_or stations m s).outs x machine_seats.takes.items machine_seats.puts.items =
              subst (λ (y : Station). HasNewSeats taking putting net m y.ins y.outs x machine_seats.takes.items machine_seats.puts.items) (sym (at s)) new-machine_seats in
              subst (λ (i : ℕ). HasNewSeats taking putting net i (slice_index_or stations i s).ins (slice_index_or stations i s).outs x machine_seats.takes.items machine_seats.puts.items) (sym full.machine) mine);
        }

  module _ (machines : List (List Machine)) (are_stationed : AreStationed machines stations) (are : net.machines ≡ machines_by machines stations) (rows : List (HostSeats S T)) (full : EachMachine (IsFilledFor take_seats put_seats) stations 0 (length stations) rows) where
    -- the machine of each thread of a host is ready
    pub ready-thread : (h t : ℕ) (row : HostSeats S T) (machine_seats : MachineSeats S T) → h < length machines → t < length (hosted machines h)
        → ReadyAt takes_from puts_into taking putting flow net stations links upto h t (machine_at (hosted machines h) t) (slice_index_or (slice_index_or rows h row).by_thread.items t machine_seats)
    ready-thread h t row machine_seats h_in t_in =
        let found : HasStation stations h t = are_stationed.whole h t h_in t_in in
        let m : ℕ = found.machine in
        let first : Station = some-of stations m found.known in
        let station : Station = slice_index_or stations m first in
        let at : (s : Station) → slice_index_or stations m s ≡ station = (λ s. get_default stations m s first found.known) in
        let same : stationed machines station ≡ machine_at net.machines m = sym (ap (λ (l : List Machine). machine_at l m) are ∙ get_or-map (stationed machines) stations m first no_machine found.known) in
        let ready : ReadyAt takes_from puts_into taking putting flow net stations links upto station.host station.thread (stationed machines station) (seats_at rows station row machine_seats) =
        ready-machine_seats m found.known station at (stationed machines station) same (seats_at rows station row machine_seats) (full m first row machine_seats (omega arith) found.known) in
        let on_host : ReadyAt takes_from puts_into taking putting flow net stations links upto h station.thread (machine_at (hosted machines h) station.thread) (slice_index_or (slice_index_or rows h row).by_thread.items station.thread machine_seats) =
        subst (λ (i : ℕ). ReadyAt takes_from puts_into taking putting flow net stations links upto i station.thread (machine_at (hosted machines i) station.thread) (slice_index_or (slice_index_or rows i row).by_thread.items station.thread machine_seats)) (found.host first) ready in
        subst (λ (i : ℕ). ReadyAt takes_from puts_into taking putting flow net stations links upto h i (machine_at (hosted machines h) i) (slice_index_or (slice_index_or rows h row).by_thread.items i machine_seats)) (found.thread first) on_host

-- hosts with the seats of their machines
module _ {H S T : Type 0} (machines : H → List Machine) (P : ℕ → ℕ → Machine → MachineSeats S T → Type 0) (hosts : List H) (rows : List (HostSeats S T)) (places : HasPlaces (map machines hosts) rows) (threads : List ℕ) (counts : threads ≡ map (λ (own : List Machine). length own) (map machines hosts))
    (ready : (h t : ℕ) (row : HostSeats S T) (machine_seats : MachineSeats S T) → h < length (map machines hosts) → t < length (hosted (map machines hosts) h) → P h t (machine_at (hosted (map machines hosts) h) t) (slice_index_or (slice_index_or rows h row).by_thread.items t machine_seats))
    (linked_hosts : List (LinkedHost H S T)) (f : HaveTheirSeats hosts rows linked_hosts) where
  pub have-seats : AreLinkedHosts machines threads P linked_hosts
  have-seats k b lt =
      let linked_host : LinkedHost H S T = slice_index_or linked_hosts k b in
      let in_hosts : k < length hosts = omega (arith, lt, f.count) in
      let in_machines : k < length (map machines hosts) = omega (arith, in_hosts, length-map hosts machines) in
      let in_rows : k < length rows = omega (arith, in_machines, places.count) in
      let row : HostSeats S T = some-of rows k in_rows in
      let own : hosted (map machines hosts) k ≡ machines linked_host.host = get_or-map machines hosts k linked_host.host [] in_hosts ∙ ap machines (sym (f.host k b linked_host.host lt)) in
      let long : length linked_host.by_thread.items ≡ length (hosted (map machines hosts) k) = ap length (f.by_thread k b row lt) ∙ places.each k row in_rows in
      record {
        by_thread = record {
          count = long ∙ ap length own;
          each = λ t d le.
              let one : P k t (machine_at (hosted (map machines hosts) k) t) (slice_index_or (slice_index_or rows k row).by_thread.items t d) = ready k t row d in_machines (omega (arith, le, long)) in
              let two : P k t (machine_at (machines linked_host.host) t) (slice_index_or (slice_index_or rows k row).by_thread.items t d) = subst (λ (l : List Machine). P k t (machine_at l t) (slice_index_or (slice_index_or rows k row).by_thread.items t d)) own one in
              let three : P k t (machine_at (machines linked_host.host) t) (slice_index_or linked_host.by_thread.items t d) = subst (λ (l : List (MachineSeats S T)). P k t (machine_at (machines linked_host.host) t) (slice_index_or l t d)) (sym (f.by_thread k b row lt)) two in
              subst (λ (i : ℕ). P i t (machine_at (machines linked_host.host) t) (slice_index_or linked_host.by_thread.items t d)) (sym (f.number k b lt)) three;
        };
        count = long ∙ sym (ap (value_at threads) (f.number k b lt) ∙ ap (λ l. value_at l k) counts ∙ get_or-map (λ (l : List Machine). length l) (map machines hosts) k [] 0 in_machines);
      }

-- one idle worker more
pub idle-more : {H S T : Type 0} (count hosts : ℕ) (workers : List (Worker H S T)) (worker : Worker H S T) (new : List (Worker H S T)) → AreIdle count hosts workers → new ≡ workers ++ worker ∷ [] → worker.linked_hosts.items ≡ [] → hosts ≤ vec_capacity worker.linked_hosts → AreIdle (count + 1) hosts new
idle-more {H} {S} {T} count hosts workers worker new idle is none room =
    subst (λ (l : List (Worker H S T)). AreIdle (count + 1) hosts l) (sym is) (record {
      long = length-append workers (worker ∷ []) ∙ ap (λ n. n + 1) idle.long;
      none = All-push (λ (w : Worker H S T). w.linked_hosts.items ≡ []) workers worker idle.none none;
      room = All-push (λ (w : Worker H S T). hosts ≤ vec_capacity w.linked_hosts) workers worker idle.room room;
    })
