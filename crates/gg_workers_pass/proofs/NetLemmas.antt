-- A network whose links are all closed, and one row of seats of a network whose links are all open.
use Rattle.std.proofs.Common.{◌≡◌, ◌≢◌, ℕ, ◌<◌, List, [], length, map, refl, sym, ap, subst, ◌∙◌, arith, get_or-set_other}
use Rattle.std.specs.Prelude.{slice_index_or, slice_set}
use Rattle.std.proofs.Math.ListN as exact
use Rattle.std.proofs.lemmas.List.{length-map, ext_get_or}
use Rattle.std.proofs.lemmas.Option.{get_or_from_slice_get}
use Rattle.gg_flat.specs.Line.{value_at}
use Rattle.gg_flat.specs.Streams.{Flow}
use Rattle.gg_link.specs.Seats.{SeatState}
use Rattle.gg_node.specs.Machine.{Machine, no_machine, machine_at}
use Rattle.gg_net.specs.declared.shape.Wire.{Wire}
use Rattle.gg_net.specs.declared.shape.Station.{Station}
use Rattle.gg_net.specs.Network.{Network, wire_at, queue_at, takes, entered, kind_at, Frame, frame_of}
use Rattle.gg_net.specs.Kept.{list_at, BetweenAt, MachineAt}
use Rattle.gg_net.specs.inside.Parted.{takes_by, enters_by}
use Rattle.gg_net.specs.inside.Queue.{Held}
use Rattle.gg_net.specs.inside.Stations.{hosted, machines_by}
use Rattle.gg_net.specs.inside.Net.{net_of, held_at, IsListed, IsNet}
use Rattle.gg_net.proofs.CountLemmas.{between-once}
use Rattle.gg_net.proofs.PartLemmas.{is-rejoined}
use Rattle.gg_workers_pass.specs.inside.Seats.{SeatCounts, LinkSeats, Linked}
use Rattle.gg_workers_pass.specs.inside.Rows.{SeatsByPlace}
use Rattle.gg_workers_pass.proofs.EventLemmas.{some-of}

-- ---- queues

-- the tokens of a queue, in the list of all tokens
tokens-at : (queues : List Held) (c : ℕ) → queue_at (map (λ (q : Held). q.tokens) queues) c ≡ (held_at queues c).tokens
tokens-at queues c = exact.get_or-map (λ (q : Held). q.tokens) queues c (record { tokens = []; room = 0 })

module _ {X S T : Type 0} (takes_from : X → S → Type 0) (puts_into : X → T → Type 0) (taking : S → SeatState) (putting : T → SeatState) {flow : Flow} {hosts : List (List Machine)} {stations : List Station} {wires : List Wire} {queues : List Held} {end : ℕ} (is : IsNet flow hosts stations wires queues end) where
  abbrev net : Network
  net = net_of hosts stations wires queues end

  abbrev frame : Frame
  frame = frame_of net

  -- The parts of a network have no links, and a queue for each channel.
  pub linked-none : Linked takes_from puts_into taking putting flow net net.machines [] [] [] queues
  linked-none =
      record {
        few = omega arith;
        put_count = refl;
        take_count = refl;
        count = sym (length-map queues (λ (q : Held). q.tokens)) ∙ is.kept.queues;
        room = is.room;
        linked = λ c link put take lt. absurd (omega (arith, lt));
        empty = λ c lt. absurd (omega (arith, lt));
        closed = λ c le lt. subst (BetweenAt (list_at flow.lists c) (wire_at wires c).capacity (takes net c) (entered net c)) (tokens-at queues c) (is.kept.channels c lt);
      }

  -- If all links are closed and the machines are as before, the network is as before.
  pub same-net : (left : List Held) → Linked takes_from puts_into taking putting flow net net.machines [] [] [] left → net_of hosts stations wires left end ≡ net
  same-net left h =
      ap (λ (tokens : List (List ℕ)). record { machines = machines_by hosts stations; wires = wires; queues = tokens; end = end })
      (ext_get_or [] (map (λ (q : Held). q.tokens) left) (map (λ (q : Held). q.tokens) queues)
      (length-map left (λ (q : Held). q.tokens) ∙ h.count ∙ sym is.kept.queues)
      (λ c lt.
      let known : c < length wires = omega (arith, lt, length-map left (λ (q : Held). q.tokens), h.count) in
      tokens-at left c
      ∙ between-once (list_at flow.lists c) (wire_at wires c).capacity (takes net c) (entered net c) (held_at left c).tokens (queue_at net.queues c) (h.closed c (omega arith) known) (is.kept.channels c known)))

  -- If all links are closed, hosts whose machines may stand at their places make a network with the queues.
  pub closed-net : (after : List (List Machine)) (left : List Held) → length after ≡ length hosts → ((h : ℕ) → length (hosted after h) ≡ length (hosted hosts h))
      → ((m : ℕ) → m < length stations → MachineAt flow frame m (machine_at (machines_by after stations) m))
      → Linked takes_from puts_into taking putting flow net (machines_by after stations) [] [] [] left
      → IsNet flow after stations wires left end
  closed-net after left count threads own h =
      is-rejoined is after left count threads own h.count h.room
      (λ c known. subst (BetweenAt (list_at flow.lists c) (wire_at wires c).capacity (takes_by frame (machine_at (machines_by after stations) (wire_at wires c).consumer) c) (enters_by frame (machine_at (machines_by after stations) (wire_at wires c).producer) c)) (sym (tokens-at left c)) (h.closed c (omega arith) known))

-- ---- a row of seats

module _ {X S T : Type 0} (takes_from : X → S → Type 0) (puts_into : X → T → Type 0) (taking : S → SeatState) (putting : T → SeatState) (flow : Flow) (net : Network) (machines : List Machine) (links : List X) (put_seats : List T) (take_seats : List S) (queues : List Held)
    (h : Linked takes_from puts_into taking putting flow net machines links put_seats take_seats queues) (all : length links ≡ length net.wires) (m : ℕ) (station : Station) (listed : IsListed net.wires m (kind_at (frame_of net).kinds m) station) where
  seats-of : (c : ℕ) (link : X) (put : T) (take : S) → c < length net.wires → LinkSeats takes_from puts_into taking putting flow net machines c (slice_index_or links c link) (slice_index_or put_seats c put) (slice_index_or take_seats c take)
  seats-of c link put take known = h.linked c link put take (omega (arith, known, all))

  -- The seats at the ins of a machine, in their order, count what it counts.
  pub takes-placed : (row : List S) → length row ≡ length station.ins → ((k : ℕ) (s : S) → k < length station.ins → slice_index_or row k s ≡ slice_index_or take_seats (value_at station.ins k) s) → SeatsByPlace takes_from taking flow net (takes_by (frame_of net) (machine_at machines m)) links station.ins row
  takes-placed row long is =
      record {
        long = long;
        belongs = λ k s link lt there.
            let c : ℕ = value_at station.ins k in
            let known : c < length net.wires = (listed.into k (omega (arith, lt, listed.ins))).known in
            let put : T = some-of put_seats c (omega (arith, known, all, h.put_count)) in
            subst (takes_from link) (sym (is k s lt)) (subst (λ l. takes_from l (slice_index_or take_seats c s)) (get_or_from_slice_get links c link link there) (seats-of c link put s known).from);
        counts = λ k s lt.
            let c : ℕ = value_at station.ins k in
            let at = listed.into k (omega (arith, lt, listed.ins)) in
            let put : T = some-of put_seats c (omega (arith, at.known, all, h.put_count)) in
            let link : X = some-of links c (omega (arith, at.known, all)) in
            subst (λ (t : S). SeatCounts flow net c (takes_by (frame_of net) (machine_at machines m) c) (taking t)) (sym (is k s lt))
            (subst (λ j. SeatCounts flow net c (takes_by (frame_of net) (machine_at machines j) c) (taking (slice_index_or take_seats c s))) at.machine (seats-of c link put s at.known).got);
      }

  -- The seats at the outs of a machine, in their order, count what it counts.
  pub puts-placed : (row : List T) → length row ≡ length station.outs → ((k : ℕ) (s : T) → k < length station.outs → slice_index_or row k s ≡ slice_index_or put_seats (value_at station.outs k) s) → SeatsByPlace puts_into putting flow net (enters_by (frame_of net) (machine_at machines m)) links station.outs row
  puts-placed row long is =
      record {
        long = long;
        belongs = λ k s link lt there.
            let c : ℕ = value_at station.outs k in
            let known : c < length net.wires = (listed.from k (omega (arith, lt, listed.outs))).known in
            let take : S = some-of take_seats c (omega (arith, known, all, h.take_count)) in
            subst (puts_into link) (sym (is k s lt)) (subst (λ l. puts_into l (slice_index_or put_seats c s)) (get_or_from_slice_get links c link link there) (seats-of c link s take known).into);
        counts = λ k s lt.
            let c : ℕ = value_at station.outs k in
            let at = listed.from k (omega (arith, lt, listed.outs)) in
            let take : S = some-of take_seats c (omega (arith, at.known, all, h.take_count)) in
            let link : X = some-of links c (omega (arith, at.known, all)) in
            subst (λ (t : T). SeatCounts flow net c (enters_by (frame_of net) (machine_at machines m) c) (putting t)) (sym (is k s lt))
            (subst (λ j. SeatCounts flow net c (enters_by (frame_of net) (machine_at machines j) c) (putting (slice_index_or put_seats c s))) at.machine (seats-of c link s take at.known).given);
      }

-- ---- the threads of a host

-- a pass over the machine of one thread leaves the others as they were
pub others-stay : (old new : List Machine) (thread other : ℕ) → other ≢ thread → new ≡ slice_set old thread (machine_at new thread) → machine_at new other ≡ machine_at old other
others-stay old new thread other apart alone = ap (λ all. machine_at all other) alone ∙ get_or-set_other old thread other (machine_at new thread) no_machine apart
