-- A network before its first cycle is kept.
use Rattle.std.proofs.Common.{◌≡◌, ℕ, ◌<◌, ◌≤◌, List, [], None, length, map, take, drop, refl, sym, ap, subst, ◌∙◌, arith}
use Rattle.std.proofs.lemmas.List.{length-map, ext_get_or}
use Rattle.std.proofs.Math.ListN as exact
use Rattle.gg_flat.specs.Clock.{edges_at}
use Rattle.gg_flat.specs.State.{State}
use Rattle.gg_flat.specs.Run.{Start, row_at, state_at}
use Rattle.gg_flat.specs.Streams.{Flow}
use Rattle.gg_node.specs.Machine.{Behaviour, RunsPiece, GivesColumn, KeepsLast, Port, Machine, no_machine, machine_at, latch_at, flag_at}
use Rattle.gg_node.proofs.EmptyLemmas.{empty-after}
use Rattle.gg_net.specs.declared.shape.Wire.{Wire}
use Rattle.gg_net.specs.declared.shape.Station.{Station}
use Rattle.gg_net.specs.Network.{Network, wire_at, queue_at, and_one, got_by, entered_by, opening_queue, puts, takes, entered, kind_of, kind_at, frame_of}
use Rattle.gg_net.specs.Kept.{list_at, rows_at, start_at, ins_of, run_state, served_by, IsStateOf, Keeps, KeepsNone, MachineAt, Kept}
use Rattle.gg_net.specs.inside.Queue.{Held}
use Rattle.gg_net.specs.inside.Stations.{machines_by, stationed}
use Rattle.gg_net.specs.inside.Net.{net_of, IsNet, OpensIn, IsOpening, Opens, AreOpen}
use Rattle.gg_net.specs.Net.{opening_net}
use Rattle.gg_net.proofs.LatchLemmas.{no-latch, no-flag}
use Rattle.gg_net.proofs.StepLemmas.{clear-after}
use Rattle.gg_net.proofs.ChannelLemmas.{between-same, between-open}
use Rattle.gg_order.proofs.RunsLemmas.SinceLemmas.{since-self}

-- ---- queues

abbrev no_tokens : Held
no_tokens = record { tokens = []; room = 0 }

-- the queue that a channel opens with
pub queue-opens : (wires : List Wire) (c : ℕ) → queue_at (map (λ (w : Wire). opening_queue w.first) wires) c ≡ opening_queue (wire_at wires c).first
queue-opens wires c = exact.get_or-map (λ (w : Wire). opening_queue w.first) wires c (record { producer = 0; out = 0; consumer = 0; place = 0; capacity = 0; first = None })

-- queues that were just opened hold what their channels open with
pub all-opened : (wires : List Wire) (queues : List Held) → AreOpen wires (length wires) queues → map (λ (q : Held). q.tokens) queues ≡ map (λ (w : Wire). opening_queue w.first) wires
all-opened wires queues are =
    ext_get_or [] (map (λ (q : Held). q.tokens) queues) (map (λ (w : Wire). opening_queue w.first) wires) (length-map queues (λ (q : Held). q.tokens) ∙ are.count ∙ sym (length-map wires (λ (w : Wire). opening_queue w.first))) (λ c lt.
    let known : c < length wires = omega (arith, lt, length-map queues (λ (q : Held). q.tokens), are.count) in
    exact.get_or-map (λ (q : Held). q.tokens) queues c no_tokens ∙ are.opened c known ∙ sym (queue-opens wires c))

-- ---- machines

stands-open : (b : Behaviour) (start : Start) (ports : List Port) (rows : List (List ℕ)) (cycle served : ℕ) (state : State) → cycle ≡ start.cycle → served ≡ 0 → OpensIn b start.state state → IsStateOf b start ports rows cycle served state
stands-open (RunsPiece piece) start ports rows cycle served state first none opens =
    opens ∙ sym (ap (λ n. served_by (edges_at start.ratios cycle) (ins_of piece (row_at rows cycle)) (run_state piece start rows cycle) (take n ports)) none ∙ ap (run_state piece start rows) first ∙ ap (state_at piece start (drop start.cycle rows)) (since-self start.cycle))
stands-open (GivesColumn column) start ports rows cycle served state first none opens = opens
stands-open (KeepsLast most) start ports rows cycle served state first none opens = opens

keeps-open : (b : Behaviour) (begin : ℕ) (list : List ℕ) (cycle : ℕ) (kept : List ℕ) → cycle ≡ begin → kept ≡ [] → Keeps b begin list cycle kept
keeps-open (RunsPiece piece) begin list cycle kept first none = tt
keeps-open (GivesColumn column) begin list cycle kept first none = tt
keeps-open (KeepsLast most) begin list cycle kept first none =
    record {
      base = begin;
      between = record { held = omega (arith, first, ap length none); room = omega (arith, ap length none); tokens = λ j below. absurd (omega (arith, below, ap length none)) };
      begun = omega arith;
      whole = λ few. refl;
    }

rest-open : (b : Behaviour) (kept : List ℕ) → kept ≡ [] → KeepsNone b kept
rest-open (RunsPiece piece) kept none = none
rest-open (GivesColumn column) kept none = none
rest-open (KeepsLast most) kept none = tt

module _ (flow : Flow) (machines : List Machine) (wires : List Wire) (end : ℕ) (begins : flow.begin ≤ end) (m : ℕ) (open_at : IsOpening flow m (machine_at machines m)) where
  abbrev x : Machine
  x = machine_at machines m

  pub machine-open : MachineAt flow (frame_of (opening_net machines wires end)) m x
  machine-open =
      record {
        kind = sym (exact.get_or-map kind_of machines m no_machine);
        begun = omega (arith, open_at.cycle);
        within = omega (arith, open_at.cycle, begins);
        stands = stands-open x.behaviour (start_at flow (kind_at (map kind_of machines) m) m) x.ports (rows_at flow.runs m) x.cycle x.served x.state open_at.cycle open_at.served open_at.state;
        latched = λ c value known to has. absurd (no-latch (length x.latches) (wire_at wires c).place value (ap (λ latches. latch_at latches (wire_at wires c).place) (sym open_at.latches) ∙ has));
        fired = λ o flag. absurd (no-flag (length x.flags) o (ap (λ flags. flag_at flags o) (sym open_at.flags) ∙ flag));
        served = omega (arith, open_at.served);
        serving = λ pos. absurd (omega (arith, pos, open_at.served));
        fields = λ k d lt. absurd (omega (arith, lt, ap (λ n. length (take n x.ports)) open_at.served));
        kept = λ c known to. keeps-open x.behaviour flow.begin (list_at flow.lists c) x.cycle x.kept open_at.cycle open_at.kept;
        rest = rest-open x.behaviour x.kept open_at.kept;
      }

given-open : (flow : Flow) (m : ℕ) (x : Machine) (o : ℕ) → IsOpening flow m x → and_one x.cycle (flag_at x.flags o) ≡ flow.begin
given-open flow m x o open_at = ap (λ flags. and_one x.cycle (flag_at flags o)) open_at.flags ∙ ap (and_one x.cycle) (clear-after (length x.flags) o) ∙ open_at.cycle

got-open : (flow : Flow) (m : ℕ) (x : Machine) (i : ℕ) → IsOpening flow m x → got_by x.cycle (latch_at x.latches i) ≡ flow.begin
got-open flow m x i open_at = ap (λ latches. got_by x.cycle (latch_at latches i)) open_at.latches ∙ ap (got_by x.cycle) (empty-after (length x.latches) i) ∙ open_at.cycle

-- ---- the network

module _ {flow : Flow} {hosts : List (List Machine)} {stations : List Station} {wires : List Wire} {end : ℕ} (opens : Opens flow hosts stations wires end) where
  abbrev machines : List Machine
  machines = machines_by hosts stations

  abbrev net : Network
  net = opening_net machines wires end

  opening-at : (m : ℕ) → m < length machines → IsOpening flow m (machine_at machines m)
  opening-at m there = opens.opening m (omega (arith, there, length-map stations (stationed hosts)))

  known-at : (m : ℕ) → m < length (map kind_of machines) → m < length machines
  known-at m below = omega (arith, below, length-map machines kind_of)

  kept-open : Kept flow net
  kept-open =
      record {
        queues = length-map wires (λ (w : Wire). opening_queue w.first);
        sound = opens.sound;
        machines = λ m there. machine-open flow machines wires end opens.sound.solves.begins m (opening-at m there);
        channels = λ c known.
            let w : Wire = wire_at wires c in
            let put : puts net c ≡ flow.begin = given-open flow w.producer (machine_at machines w.producer) w.out (opening-at w.producer (known-at w.producer (opens.sound.wired.producer c known))) in
            let took : takes net c ≡ flow.begin = got-open flow w.consumer (machine_at machines w.consumer) w.place (opening-at w.consumer (known-at w.consumer (opens.sound.wired.consumer c known))) in
            between-same (list_at flow.lists c) w.capacity flow.begin (takes net c) (entered_by w.first flow.begin) (entered net c) (opening_queue w.first) (queue_at net.queues c) took (ap (entered_by w.first) put) (queue-opens wires c)
            (between-open w.first (list_at flow.lists c) w.capacity flow.begin (opens.sound.wired.some c known) (λ token is. opens.sound.solves.opens c token known is));
      }

  module _ (queues : List Held) (are : AreOpen wires (length wires) queues) where
    pub open-is : net_of hosts stations wires queues end ≡ opening_net (machines_by hosts stations) wires end
    open-is = ap (λ (qs : List (List ℕ)). record { machines = machines; wires = wires; queues = qs; end = end }) (all-opened wires queues are)

    pub is-net : IsNet flow hosts stations wires queues end
    is-net =
        record {
          stationed = opens.stationed;
          listed = opens.listed;
          room = are.room;
          limits = opens.limits;
          kept = subst (Kept flow) (sym open-is) kept-open;
        }
