-- Hosts that have run are a network again.
use Rattle.std.proofs.Common.{◌≡◌, ℕ, ◌<◌, List, [], Option, Some, length, map, sym, ap, subst, ◌∙◌, arith}
use Rattle.std.specs.Prelude.{slice_index_or}
use Rattle.std.proofs.Math.ListN as exact
use Rattle.std.proofs.lemmas.List.{length-map, ext_get_or, get_or-map}
use Rattle.gg_flat.specs.Line.{value_at}
use Rattle.gg_flat.specs.Streams.{Flow}
use Rattle.gg_link.specs.Seats.{SeatState}
use Rattle.gg_node.specs.Machine.{Machine, machine_at}
use Rattle.gg_net.specs.declared.shape.Wire.{Wire}
use Rattle.gg_net.specs.declared.shape.Station.{Station}
use Rattle.gg_net.specs.Network.{Network, frame_of}
use Rattle.gg_net.specs.Kept.{MachineAt}
use Rattle.gg_net.specs.inside.Queue.{Held}
use Rattle.gg_net.specs.inside.Stations.{hosted, stationed, machines_by, IsStationed, AreStationed}
use Rattle.gg_net.specs.inside.Net.{net_of, IsNet}
use Rattle.gg_net.proofs.PartLemmas.{frame-rejoined}
use Rattle.gg_workers_pass.specs.inside.SeatLists.{AllThere, AreBack}
use Rattle.gg_workers_pass.specs.inside.Pass.{HasSeats, MachineWentOn, EventsDone}
use Rattle.gg_workers_pass.specs.inside.Seats.{Linked, MayStand}
use Rattle.gg_workers_pass.specs.declared.machine_seats.MachineSeats.{MachineSeats}
use Rattle.gg_workers_pass.proofs.AgainLemmas.{machine-stationed}
use Rattle.gg_workers_pass.proofs.AllLemmas.{all-back, all-hold}
use Rattle.gg_workers_pass.proofs.EventLemmas.{some-of}
use Rattle.gg_workers_pass.proofs.NetLemmas.{closed-net}
use Rattle.gg_workers_pass.proofs.LaterLemmas.{cycles-rise, serves-rise, puts-rise, takes-rise, latch-rises, fire-rises, serve-rises, finish-rises}
use Rattle.gg_workers.specs.declared.worker.LinkedHost.{LinkedHost}
use Rattle.gg_workers.specs.declared.host_seats.HostSeats.{HostSeats}
use Rattle.gg_workers.specs.inside.LinkedHosts.{DoneAt, AreLinkedHosts, AreNumbered}
use Rattle.gg_workers.specs.inside.Apart.{row_of, AllBack, IsOwned, AllOwned, AreSeats}
use Rattle.gg_workers.specs.Work.{IsLater}

module _ {H X S T : Type 0} (machines : H → List Machine) (takes_from : X → S → Type 0) (puts_into : X → T → Type 0) (taking : S → SeatState) (putting : T → SeatState) (flow : Flow) (net : Network) (stations : List Station) (links : List X) (upto : ℕ) (threads : List ℕ) (hosts : List (List Machine)) (placed : AreStationed hosts stations) (bs : List (LinkedHost H S T))
    (are : AreLinkedHosts machines threads (DoneAt takes_from puts_into taking putting flow net stations links upto) bs) (numbered : AreNumbered bs) (count : length bs ≡ length hosts) (sizes : threads ≡ map (λ (l : List Machine). length l) hosts) where
  -- the machines of the hosts after the run
  abbrev pub after : List (List Machine)
  after = map machines (map (λ (b : LinkedHost H S T). b.host) bs)

  abbrev pub now : List Machine
  now = machines_by after stations

  hosted-is : (h : ℕ) (b : LinkedHost H S T) → h < length bs → hosted after h ≡ machines (slice_index_or bs h b).host
  hosted-is h b lt =
      let x : H = (slice_index_or bs h b).host in
      get_or-map machines (map (λ (b : LinkedHost H S T). b.host) bs) h x [] (omega (arith, lt, length-map bs (λ (b : LinkedHost H S T). b.host)))
      ∙ ap machines (get_or-map (λ (b : LinkedHost H S T). b.host) bs h b x lt)

  pub after-long : length after ≡ length hosts
  after-long = length-map (map (λ (b : LinkedHost H S T). b.host) bs) machines ∙ length-map bs (λ (b : LinkedHost H S T). b.host) ∙ count

  -- a host has the seats of as many machines as it had threads
  machine_seats-count : (h : ℕ) (b : LinkedHost H S T) → h < length bs → length (slice_index_or bs h b).by_thread.items ≡ length (hosted hosts h)
  machine_seats-count h b lt = (are h b lt).count ∙ ap (value_at threads) (numbered h b lt) ∙ ap (λ l. value_at l h) sizes ∙ exact.get_or-map (λ (l : List Machine). length l) hosts h []

  lengths : map (λ (l : List Machine). length l) after ≡ map (λ (l : List Machine). length l) hosts
  lengths =
      ext_get_or 0 (map (λ (l : List Machine). length l) after) (map (λ (l : List Machine). length l) hosts)
      (length-map after (λ (l : List Machine). length l) ∙ after-long ∙ sym (length-map hosts (λ (l : List Machine). length l)))
      (λ h lt.
      let inside : h < length bs = omega (arith, lt, length-map after (λ (l : List Machine). length l), after-long, count) in
      let b : LinkedHost H S T = some-of bs h inside in
      exact.get_or-map (λ (l : List Machine). length l) after h []
      ∙ ap (λ (l : List Machine). length l) (hosted-is h b inside)
      ∙ sym (are h b inside).by_thread.count
      ∙ machine_seats-count h b inside
      ∙ sym (exact.get_or-map (λ (l : List Machine). length l) hosts h []))

  pub threads-same : (h : ℕ) → length (hosted after h) ≡ length (hosted hosts h)
  threads-same h = sym (exact.get_or-map (λ (l : List Machine). length l) after h []) ∙ ap (λ l. value_at l h) lengths ∙ exact.get_or-map (λ (l : List Machine). length l) hosts h []

  -- ---- the seats at a thread

  module _ (h t : ℕ) (b : LinkedHost H S T) (d : MachineSeats S T) (lt : h < length bs) (le : t < length (slice_index_or bs h b).by_thread.items) where
    abbrev machine_seats : MachineSeats S T
    machine_seats = slice_index_or (slice_index_or bs h b).by_thread.items t d

    pub done-here : DoneAt takes_from puts_into taking putting flow net stations links upto (slice_index_or bs h b).number t (machine_at (machines (slice_index_or bs h b).host) t) machine_seats
    done-here = (are h b lt).by_thread.each t d le

    -- they are those of the thread's machine
    pub machine-here : machine_at now machine_seats.machine ≡ machine_at (machines (slice_index_or bs h b).host) t
    machine-here =
        let s : Station = some-of stations machine_seats.machine done-here.at.known in
        machine-stationed after stations machine_seats.machine s done-here.at.known
        ∙ ap (λ j. machine_at (hosted after j) (slice_index_or stations machine_seats.machine s).thread) (done-here.at.host s ∙ numbered h b lt)
        ∙ ap (λ j. machine_at (hosted after h) j) (done-here.at.thread s)
        ∙ ap (λ l. machine_at l t) (hosted-is h b lt)

    pub owned-here : IsOwned takes_from puts_into taking putting flow net links now stations machine_seats
    owned-here =
        record {
          known = done-here.at.known;
          seats = λ s. subst (λ (x : Machine). HasSeats takes_from puts_into taking putting flow net links machine_seats.machine (slice_index_or stations machine_seats.machine s).ins (slice_index_or stations machine_seats.machine s).outs x machine_seats.takes.items machine_seats.puts.items) (sym machine-here) (done-here.at.seats s);
        }

  pub all-owned : AllOwned takes_from puts_into taking putting flow net links now stations (map row_of bs)
  all-owned j r lt k d le =
      let inside : j < length bs = omega (arith, lt, length-map bs row_of) in
      let b : LinkedHost H S T = some-of bs j inside in
      let at = get_or-map row_of bs j b r inside in
      subst (λ v. IsOwned takes_from puts_into taking putting flow net links now stations (slice_index_or v.by_thread.items k d)) (sym at) (owned-here j k b d inside (subst (λ v. k < length v.by_thread.items) at le))

  -- ---- the seats of a machine

  pub record HasItsSeats (m : ℕ) : Type 0 where
    pub host : ℕ
    pub thread : ℕ
    pub linked_host : LinkedHost H S T
    pub machine_seats : MachineSeats S T
    pub known : host < length bs
    pub there : thread < length (slice_index_or bs host linked_host).by_thread.items
    pub is : (slice_index_or (slice_index_or bs host linked_host).by_thread.items thread machine_seats).machine ≡ m

  pub has-machine_seats : (m : ℕ) → m < length stations → HasItsSeats m
  has-machine_seats m lt =
      let e : Station = some-of stations m lt in
      let s : Station = slice_index_or stations m e in
      let is_stationed : IsStationed hosts s = placed.each m e lt in
      let known : s.host < length bs = omega (arith, is_stationed.host, count) in
      let b : LinkedHost H S T = some-of bs s.host known in
      let there : s.thread < length (slice_index_or bs s.host b).by_thread.items = omega (arith, is_stationed.thread, machine_seats-count s.host b known) in
      let d : MachineSeats S T = some-of (slice_index_or bs s.host b).by_thread.items s.thread there in
      let done = done-here s.host s.thread b d known there in
      record {
        host = s.host;
        thread = s.thread;
        linked_host = b;
        machine_seats = d;
        known = known;
        there = there;
        is = placed.alone (slice_index_or (slice_index_or bs s.host b).by_thread.items s.thread d).machine m e e done.at.known lt (done.at.host e ∙ numbered s.host b known) (done.at.thread e);
      }

  -- what a machine is after the run
  pub record HasRun (m : ℕ) (x : Machine) : Type 0 where
    pub own : MachineAt flow (frame_of net) m x
    pub went : MachineWentOn (frame_of net) m upto (machine_at net.machines m) x
    pub done : EventsDone net m upto x

  pub has-run : (m : ℕ) → m < length stations → HasRun m (machine_at now m)
  has-run m lt =
      let at : HasItsSeats m = has-machine_seats m lt in
      let done = done-here at.host at.thread at.linked_host at.machine_seats at.known at.there in
      let machine_seats : MachineSeats S T = slice_index_or (slice_index_or bs at.host at.linked_host).by_thread.items at.thread at.machine_seats in
      let s : Station = some-of stations m lt in
      let x : Machine = machine_at (machines (slice_index_or bs at.host at.linked_host).host) at.thread in
      let run : HasRun machine_seats.machine x = record { own = (done.at.seats s).machine; went = done.at.went_on; done = done.done } in
      subst (λ j. HasRun j (machine_at now j)) at.is (subst (HasRun machine_seats.machine) (sym (machine-here at.host at.thread at.linked_host at.machine_seats at.known at.there)) run)

  pub may-stand : length stations ≡ length net.machines → MayStand flow net now
  may-stand same =
      record {
        long = length-map stations (stationed after) ∙ same;
        each = λ m lt. (has-run m (omega (arith, lt, same))).own;
      }

  -- ---- all seats are back

  module _ {A : Type 0} (end_of : ℕ → ℕ) (P : ℕ → A → Type 0) (wide : ℕ) (old new : List (Option A)) (rows : AllBack end_of P wide (map row_of bs) old new) (long : length old ≡ wide) (within : (c : ℕ) → c < wide → end_of c < length stations) where
    are-back : AreBack end_of P (length stations) wide new
    are-back =
        record {
          long = rows.long ∙ long;
          back = λ c lt low.
              let at : HasItsSeats (end_of c) = has-machine_seats (end_of c) low in
              let v = row_of (slice_index_or bs at.host at.linked_host) in
              let is = get_or-map row_of bs at.host at.linked_host v at.known in
              rows.back c at.host at.thread v at.machine_seats lt (omega (arith, at.known, length-map bs row_of)) (subst (λ (w : HostSeats S T). at.thread < length w.by_thread.items) (sym is) at.there)
              (sym at.is ∙ ap (λ (w : HostSeats S T). (slice_index_or w.by_thread.items at.thread at.machine_seats).machine) (sym is));
        }

    pub seats-there : AllThere new
    seats-there = all-back end_of P (length stations) wide new are-back within

    pub seats-hold : (all : List A) → map (λ seat. Some seat) all ≡ new → (c : ℕ) (s : A) → c < wide → P c (slice_index_or all c s)
    seats-hold = all-hold end_of P (length stations) wide new are-back within

    pub seats-long : (all : List A) → map (λ seat. Some seat) all ≡ new → length all ≡ wide
    seats-long all is = sym (length-map all (λ (seat : A). Some seat)) ∙ ap length is ∙ rows.long ∙ long

  -- the same, of hosts and rows as they were moved

  pub rows-owned : (hs : List H) (rows : List (HostSeats S T)) → hs ≡ map (λ (b : LinkedHost H S T). b.host) bs → rows ≡ map row_of bs → AllOwned takes_from puts_into taking putting flow net links (machines_by (map machines hs) stations) stations rows
  rows-owned hs rows are_hosts are_rows =
      subst (λ (l : List H). AllOwned takes_from puts_into taking putting flow net links (machines_by (map machines l) stations) stations rows) (sym are_hosts)
      (subst (λ (l : List (HostSeats S T)). AllOwned takes_from puts_into taking putting flow net links now stations l) (sym are_rows) all-owned)

  module _ {A : Type 0} (end_of : ℕ → ℕ) (Q : List H → ℕ → A → Type 0) (wide : ℕ) (hs : List H) (rows : List (HostSeats S T)) (are_hosts : hs ≡ map (λ (b : LinkedHost H S T). b.host) bs) (are_rows : rows ≡ map row_of bs) (old new : List (Option A)) (back : AllBack end_of (Q hs) wide rows old new) (long : length old ≡ wide) (within : (c : ℕ) → c < wide → end_of c < length stations) where
    back-here : AllBack end_of (Q (map (λ (b : LinkedHost H S T). b.host) bs)) wide (map row_of bs) old new
    back-here = subst (λ (l : List (HostSeats S T)). AllBack end_of (Q (map (λ (b : LinkedHost H S T). b.host) bs)) wide l old new) are_rows (subst (λ (l : List H). AllBack end_of (Q l) wide rows old new) are_hosts back)

    pub all-there : AllThere new
    all-there = seats-there end_of (Q (map (λ (b : LinkedHost H S T). b.host) bs)) wide old new back-here long within

    pub are-seats : (all : List A) → map (λ seat. Some seat) all ≡ new → AreSeats (Q (map (λ (b : LinkedHost H S T). b.host) bs)) wide all
    are-seats all is =
        record {
          long = seats-long end_of (Q (map (λ (b : LinkedHost H S T). b.host) bs)) wide old new back-here long within all is;
          each = seats-hold end_of (Q (map (λ (b : LinkedHost H S T). b.host) bs)) wide old new back-here long within all is;
        }

-- ---- the network

module _ {X S T : Type 0} (takes_from : X → S → Type 0) (puts_into : X → T → Type 0) (taking : S → SeatState) (putting : T → SeatState) {flow : Flow} {hosts : List (List Machine)} {stations : List Station} {wires : List Wire} {queues : List Held} {end : ℕ} (is : IsNet flow hosts stations wires queues end) (upto : ℕ) (after : List (List Machine)) (left : List Held) (long : length after ≡ length hosts) (threads : (h : ℕ) → length (hosted after h) ≡ length (hosted hosts h)) where
  abbrev old : Network
  old = net_of hosts stations wires queues end

  module _ (own : (m : ℕ) → m < length stations → MachineAt flow (frame_of old) m (machine_at (machines_by after stations) m)) (closed : Linked takes_from puts_into taking putting flow old (machines_by after stations) [] [] [] left) where
    pub net-again : IsNet flow after stations wires left end
    net-again = closed-net takes_from puts_into taking putting is after left long threads own closed

    pub net-later : ((m : ℕ) → m < length stations → MachineWentOn (frame_of old) m upto (machine_at old.machines m) (machine_at (machines_by after stations) m)) → ((m : ℕ) → m < length stations → EventsDone old m upto (machine_at (machines_by after stations) m)) → IsLater flow upto old (net_of after stations wires left end)
    net-later went done =
        let same : length old.machines ≡ length stations = length-map stations (stationed hosts) in
        let machines : List Machine = machines_by after stations in
        let tokens : List (List ℕ) = map (λ (q : Held). q.tokens) left in
        let gone = λ (m : ℕ) (lt : m < length old.machines). went m (omega (arith, lt, same)) in
        let all = λ (m : ℕ) (lt : m < length old.machines). done m (omega (arith, lt, same)) in
        record {
          frame = frame-rejoined flow old is.kept machines tokens (length-map stations (stationed after) ∙ sym same) (λ m lt. own m (omega (arith, lt, same)));
          kept = net-again.kept;
          counts = record {
            cycles = cycles-rise flow old is.kept upto machines tokens gone;
            serves = serves-rise flow old is.kept upto machines tokens gone;
            puts = puts-rise flow old is.kept upto machines tokens gone;
            takes = takes-rise flow old is.kept upto machines tokens gone;
          };
          done = record {
            latch = latch-rises flow old is.kept upto machines tokens all;
            fire = fire-rises flow old is.kept upto machines tokens all;
            serve = serve-rises flow old is.kept upto machines tokens all;
            finish = finish-rises flow old is.kept upto machines tokens all;
          };
        }
