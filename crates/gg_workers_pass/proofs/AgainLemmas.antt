-- The seats of all machines, after some passes, are again the seats of the network's links.
use Rattle.std.proofs.Common.{◌≡◌, ℕ, ◌<◌, List, length, sym, subst, arith}
use Rattle.std.specs.Prelude.{slice_index_or}
use Rattle.std.proofs.lemmas.List.{get_or-map}
use Rattle.std.proofs.lemmas.Option.{slice_get-get_or}
use Rattle.gg_flat.specs.Line.{value_at}
use Rattle.gg_flat.specs.Streams.{Flow}
use Rattle.gg_link.specs.Seats.{SeatState}
use Rattle.gg_node.specs.Machine.{Machine, no_machine, machine_at}
use Rattle.gg_net.specs.declared.shape.Station.{Station}
use Rattle.gg_net.specs.Network.{Network, kind_at, Frame, frame_of}
use Rattle.gg_net.specs.Kept.{MachineAt}
use Rattle.gg_net.specs.inside.Parted.{takes_by, enters_by}
use Rattle.gg_net.specs.inside.Queue.{Held}
use Rattle.gg_net.specs.inside.Stations.{stationed, machines_by}
use Rattle.gg_net.specs.inside.Net.{IsListed}
use Rattle.gg_workers_pass.specs.inside.Seats.{SeatCounts, TakeSeatOf, PutSeatOf, Linked}
use Rattle.gg_workers_pass.specs.inside.Pass.{HasSeats}

module _ {X S T : Type 0} (takes_from : X → S → Type 0) (puts_into : X → T → Type 0) (taking : S → SeatState) (putting : T → SeatState) (flow : Flow) (net : Network) (machines : List Machine) (links : List X) where
  abbrev frame : Frame
  frame = frame_of net

  abbrev IsTakeSeat : ℕ → S → Type 0
  IsTakeSeat = TakeSeatOf takes_from puts_into taking putting flow net links machines

  abbrev IsPutSeat : ℕ → T → Type 0
  IsPutSeat = PutSeatOf takes_from puts_into taking putting flow net links machines

  module _ (m : ℕ) (station : Station) (listed : IsListed net.wires m (kind_at frame.kinds m) station) (take_seats : List S) (put_seats : List T) (machine_seats : HasSeats takes_from puts_into taking putting flow net links m station.ins station.outs (machine_at machines m) take_seats put_seats) where
    -- the seats of a machine are those of the links of its channels
    pub machine_seats-takes : (k : ℕ) (s : S) → k < length station.ins → IsTakeSeat (value_at station.ins k) (slice_index_or take_seats k s)
    machine_seats-takes k s lt =
        let c : ℕ = value_at station.ins k in (
          λ link there. machine_seats.takes.belongs k s link lt there,
          subst (λ j. SeatCounts flow net c (takes_by frame (machine_at machines j) c) (taking (slice_index_or take_seats k s))) (sym (listed.into k (omega (arith, lt, listed.ins))).machine) (machine_seats.takes.counts k s lt),
        )

    pub machine_seats-puts : (k : ℕ) (s : T) → k < length station.outs → IsPutSeat (value_at station.outs k) (slice_index_or put_seats k s)
    machine_seats-puts k s lt =
        let c : ℕ = value_at station.outs k in (
          λ link there. machine_seats.puts.belongs k s link lt there,
          subst (λ j. SeatCounts flow net c (enters_by frame (machine_at machines j) c) (putting (slice_index_or put_seats k s))) (sym (listed.from k (omega (arith, lt, listed.outs))).machine) (machine_seats.puts.counts k s lt),
        )

  -- Links for all channels, whose seats are there again, can be closed: the queues are those of the opening.
  pub linked-again : (before : List Machine) (old_puts : List T) (old_takes : List S) (queues : List Held) → Linked takes_from puts_into taking putting flow net before links old_puts old_takes queues → length links ≡ length net.wires
      → (put_seats : List T) (take_seats : List S) → length put_seats ≡ length links → length take_seats ≡ length links
      → ((c : ℕ) (put : T) → c < length links → IsPutSeat c (slice_index_or put_seats c put)) → ((c : ℕ) (take : S) → c < length links → IsTakeSeat c (slice_index_or take_seats c take))
      → Linked takes_from puts_into taking putting flow net machines links put_seats take_seats queues
  linked-again before old_puts old_takes queues h all put_seats take_seats puts_long takes_long puts_are takes_are =
      record {
        few = h.few;
        put_count = puts_long;
        take_count = takes_long;
        count = h.count;
        room = h.room;
        linked = λ c link put take lt.
            record {
              into = (puts_are c put lt).0 (slice_index_or links c link) (slice_get-get_or links c link lt);
              from = (takes_are c take lt).0 (slice_index_or links c link) (slice_get-get_or links c link lt);
              given = (puts_are c put lt).1;
              got = (takes_are c take lt).1;
            };
        empty = h.empty;
        closed = λ c le lt. absurd (omega (arith, le, lt, all));
      }

-- The machine at each station is the one at its place: from the threads of the hosts to the machines by number.
pub own-by-stations : (flow : Flow) (frame : Frame) (hosts : List (List Machine)) (stations : List Station) → ((m : ℕ) (s : Station) → m < length stations → MachineAt flow frame m (stationed hosts (slice_index_or stations m s))) → (m : ℕ) (s : Station) → m < length stations → MachineAt flow frame m (machine_at (machines_by hosts stations) m)
own-by-stations flow frame hosts stations own m s lt = subst (MachineAt flow frame m) (sym (get_or-map (stationed hosts) stations m s no_machine lt)) (own m s lt)

-- the machine with a number, at the thread of its station
pub machine-stationed : (hosts : List (List Machine)) (stations : List Station) (m : ℕ) (s : Station) → m < length stations → machine_at (machines_by hosts stations) m ≡ stationed hosts (slice_index_or stations m s)
machine-stationed hosts stations m s lt = get_or-map (stationed hosts) stations m s no_machine lt
