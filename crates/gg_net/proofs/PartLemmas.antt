-- A network taken apart among the owners of its machines, and put together again: what an owner has to know to do a
-- step of its machine, and what the owners together have to know so that the parts are a network.
use Rattle.std.proofs.Common.{◌≡◌, ◌≢◌, ℕ, suc, ◌<◌, ◌≤◌, List, Option, None, Some, Bool, true, false, length, map, refl, sym, ap, subst, ◌∙◌, arith, get_or-set_same, get_or-set_other}
use Rattle.std.specs.Prelude.{IfSome, slice_get, slice_index_or}
use Rattle.std.proofs.lemmas.List.{length-map, ext_get_or}
use Rattle.std.proofs.Math.ListN as exact
use Rattle.gg_flat.specs.Line.{value_at}
use Rattle.gg_flat.specs.State.{State}
use Rattle.gg_flat.specs.Streams.{Flow}
use Rattle.gg_node.specs.Machine.{Port, Machine, no_machine, machine_at, latch_at, flag_at, first_empty, missing}
use Rattle.gg_node.specs.inside.Machine.{due}
use Rattle.gg_node.specs.inside.Step.{FitsIn, MayLatch, MayFire, MayServe, MayFinish, AllLatched}
use Rattle.gg_node.specs.Step.{HasFields, fields_of, with_latch, with_flag, finished, AllFired}
use Rattle.gg_node.proofs.EmptyLemmas.{empty-after}
use Rattle.gg_net.specs.declared.shape.Wire.{Wire}
use Rattle.gg_net.specs.declared.shape.Station.{Station}
use Rattle.gg_net.specs.Network.{wire_at, Network, queue_at, and_one, got_by, entered_by, Kind, no_kind, kind_of, Frame, frame_of}
use Rattle.gg_net.specs.inside.Readings.{fields_at, due_fields}
use Rattle.gg_net.specs.Kept.{list_at, IsSound, MachineAt, BetweenAt, Kept}
use Rattle.gg_net.specs.inside.Parted.{takes_by, enters_by}
use Rattle.gg_net.specs.inside.Queue.{Held}
use Rattle.gg_net.specs.inside.Stations.{hosted, stationed, machines_by, IsStationed}
use Rattle.gg_net.specs.inside.Net.{net_of, AreListed, HasRoom, IsWithinLimits, IsNet}
use Rattle.gg_net.proofs.PortLemmas.{any_port}
use Rattle.gg_net.proofs.WireLemmas.{one-in, one-out}
use Rattle.gg_net.proofs.LatchLemmas.{has-value, all-filled}
use Rattle.gg_net.proofs.MachineLemmas.{due-port, behaviour-is, place-within, out-within}
use Rattle.gg_net.proofs.MayLemmas.{fits-by, known-by}
use Rattle.gg_net.proofs.StepLemmas.{all-served, clear-after}
use Rattle.gg_net.proofs.ChannelLemmas.{entered-suc}

-- ---- counts

entered-up : (first : Option ℕ) (a b : ℕ) → a ≤ b → entered_by first a ≤ entered_by first b
entered-up None a b le = le
entered-up (Some token) a b le = omega (arith, le)

-- no list has more values than there are cycles, and one
pub list-short : (flow : Flow) (frame : Frame) → IsSound flow frame → frame.end ≤ 1000000 → (c : ℕ) → c < length frame.wires → length (list_at flow.lists c) ≤ 1000001
list-short flow frame sound few c known = by (wire_at frame.wires c).first (sound.solves.long c known)
  where
    by : (first : Option ℕ) → length (list_at flow.lists c) ≡ entered_by first frame.end → length (list_at flow.lists c) ≤ 1000001
    by None is = omega (arith, is, few)
    by (Some token) is = omega (arith, is, few)

-- ---- one machine, by its owner

module _ (flow : Flow) (frame : Frame) (sound : IsSound flow frame) (m : ℕ) (below : m < length frame.kinds) (x : Machine) (at : MachineAt flow frame m x) where
  -- what a host requires
  pub own-may-latch : (c value : ℕ) → c < length frame.wires → (wire_at frame.wires c).consumer ≡ m → x.cycle < frame.end → latch_at x.latches (wire_at frame.wires c).place ≡ None → value ≡ value_at (list_at flow.lists c) x.cycle → MayLatch x (wire_at frame.wires c).place value
  own-may-latch c value known to lt empty token =
      record {
        there = place-within flow frame sound m below x at c known to;
        empty = empty;
        typed = subst (λ v. FitsIn x.behaviour (wire_at frame.wires c).place v) (sym token) (fits-by flow frame sound m below x.behaviour c x.cycle (behaviour-is flow frame sound m below x at) known to at.begun lt);
      }

  pub own-may-fire : (c : ℕ) → c < length frame.wires → (wire_at frame.wires c).producer ≡ m → x.cycle < frame.end → flag_at x.flags (wire_at frame.wires c).out ≡ false → missing x (wire_at frame.wires c).out ≡ None → MayFire x (wire_at frame.wires c).out
  own-may-fire c known from lt clear needed =
      record {
        there = out-within flow frame sound m below x at c known from;
        clear = clear;
        needed = needed;
        known = known-by flow frame sound m below x.behaviour x.cycle (behaviour-is flow frame sound m below x at) lt;
      }

  pub own-may-serve : (p : ℕ) → AllFired x → due x ≡ Some p → first_empty x.latches (due_fields x) ≡ None → MayServe x p
  own-may-serve p fired is none =
      let q : Port = (due-port (slice_get x.ports x.served) p is).0 in
      let port : slice_get x.ports x.served ≡ Some q = (due-port (slice_get x.ports x.served) p is).1 in
      let filled : first_empty x.latches (fields_of q.access) ≡ None = subst (λ (o : Option Port). first_empty x.latches (fields_at o) ≡ None) port none in
      record { fired = fired; due = is; fields = subst (λ (o : Option Port). IfSome o (HasFields x.latches)) (sym port) (all-filled x.latches (fields_of q.access) filled) }

  pub own-may-finish : x.cycle < frame.end → AllFired x → due x ≡ None → AllLatched x → MayFinish x
  own-may-finish lt fired none latched =
      record {
        fired = fired;
        served = all-served x.ports x.served any_port at.served none;
        latched = latched;
        below = omega (arith, lt, sound.solves.able m below, ap (λ (k : Kind). k.limit) at.kind);
      }

  -- No more tokens enter a channel than its list has values.
  pub enters-short : (c : ℕ) → c < length frame.wires → (wire_at frame.wires c).producer ≡ m → enters_by frame x c ≤ length (list_at flow.lists c)
  enters-short c known from =
      let within : and_one x.cycle (flag_at x.flags (wire_at frame.wires c).out) ≤ frame.end = by (flag_at x.flags (wire_at frame.wires c).out) refl in
      let up : enters_by frame x c ≤ entered_by (wire_at frame.wires c).first frame.end = entered-up (wire_at frame.wires c).first (and_one x.cycle (flag_at x.flags (wire_at frame.wires c).out)) frame.end within in
      omega (arith, up, sound.solves.long c known)
    where
      by : (flag : Bool) → flag_at x.flags (wire_at frame.wires c).out ≡ flag → and_one x.cycle flag ≤ frame.end
      by false is = at.within
      by true is = let lt : x.cycle < frame.end = (at.fired (wire_at frame.wires c).out is).0 in omega (arith, lt)

  -- ---- how its steps change the counts

  pub takes-latch : (c value : ℕ) → c < length frame.wires → (wire_at frame.wires c).consumer ≡ m → latch_at x.latches (wire_at frame.wires c).place ≡ None → takes_by frame (with_latch x (wire_at frame.wires c).place value) c ≡ suc (takes_by frame x c)
  takes-latch c value known to empty =
      ap (got_by x.cycle) (get_or-set_same x.latches (wire_at frame.wires c).place (Some value) None (place-within flow frame sound m below x at c known to)) ∙ ap suc (sym (ap (got_by x.cycle) empty))

  pub takes-latch-other : (c d value : ℕ) → c < length frame.wires → d < length frame.wires → (wire_at frame.wires c).consumer ≡ m → (wire_at frame.wires d).consumer ≡ m → d ≢ c → takes_by frame (with_latch x (wire_at frame.wires c).place value) d ≡ takes_by frame x d
  takes-latch-other c d value known lt to too other =
      ap (got_by x.cycle) (get_or-set_other x.latches (wire_at frame.wires c).place (wire_at frame.wires d).place (Some value) None (λ same. other (one-in frame sound.wired d c lt known (too ∙ sym to) same)))

  pub takes-finish : (next : State) (c : ℕ) → c < length frame.wires → (wire_at frame.wires c).consumer ≡ m → AllLatched x → takes_by frame (finished x next) c ≡ takes_by frame x c
  takes-finish next c known to all =
      let i : ℕ = (wire_at frame.wires c).place in
      ap (got_by (suc x.cycle)) (empty-after (length x.latches) i) ∙ sym (ap (got_by x.cycle) (has-value (latch_at x.latches i) (all i None (place-within flow frame sound m below x at c known to))))

  pub enters-fire : (c : ℕ) → c < length frame.wires → (wire_at frame.wires c).producer ≡ m → flag_at x.flags (wire_at frame.wires c).out ≡ false → enters_by frame (with_flag x (wire_at frame.wires c).out) c ≡ suc (enters_by frame x c)
  enters-fire c known from clear =
      ap (λ flag. entered_by (wire_at frame.wires c).first (and_one x.cycle flag)) (get_or-set_same x.flags (wire_at frame.wires c).out true false (out-within flow frame sound m below x at c known from))
      ∙ entered-suc (wire_at frame.wires c).first x.cycle
      ∙ ap (λ flag. suc (entered_by (wire_at frame.wires c).first (and_one x.cycle flag))) (sym clear)

  pub enters-fire-other : (c d : ℕ) → c < length frame.wires → d < length frame.wires → (wire_at frame.wires c).producer ≡ m → (wire_at frame.wires d).producer ≡ m → d ≢ c → enters_by frame (with_flag x (wire_at frame.wires c).out) d ≡ enters_by frame x d
  enters-fire-other c d known lt from too other =
      ap (λ flag. entered_by (wire_at frame.wires d).first (and_one x.cycle flag)) (get_or-set_other x.flags (wire_at frame.wires c).out (wire_at frame.wires d).out true false (λ same. other (one-out frame sound.wired d c lt known (too ∙ sym from) same)))

  pub enters-finish : (next : State) (c : ℕ) → c < length frame.wires → (wire_at frame.wires c).producer ≡ m → AllFired x → enters_by frame (finished x next) c ≡ enters_by frame x c
  enters-finish next c known from all =
      let o : ℕ = (wire_at frame.wires c).out in
      ap (λ flag. entered_by (wire_at frame.wires c).first (and_one (suc x.cycle) flag)) (clear-after (length x.flags) o)
      ∙ ap (λ flag. entered_by (wire_at frame.wires c).first (and_one x.cycle flag)) (sym (all o false (out-within flow frame sound m below x at c known from)))

-- ---- the network from its machines and queues

module _ (flow : Flow) (net : Network) (kept : Kept flow net) (machines : List Machine) (queues : List (List ℕ)) (count : length machines ≡ length net.machines) (own : (m : ℕ) → m < length net.machines → MachineAt flow (frame_of net) m (machine_at machines m)) where
  -- the network with these machines and queues
  abbrev pub rejoined : Network
  rejoined = record net { machines = machines; queues = queues }

  pub frame-rejoined : frame_of rejoined ≡ frame_of net
  frame-rejoined =
      ap (λ (kinds : List Kind). record { kinds = kinds; wires = net.wires; end = net.end })
      (ext_get_or no_kind (map kind_of machines) (map kind_of net.machines) (length-map machines kind_of ∙ count ∙ sym (length-map net.machines kind_of))
      (λ m lt. exact.get_or-map kind_of machines m no_machine ∙ (own m (omega (arith, lt, length-map machines kind_of, count))).kind))

  pub kept-rejoined : length queues ≡ length net.wires
      → ((c : ℕ) → c < length net.wires → BetweenAt (list_at flow.lists c) (wire_at net.wires c).capacity (takes_by (frame_of net) (machine_at machines (wire_at net.wires c).consumer) c) (enters_by (frame_of net) (machine_at machines (wire_at net.wires c).producer) c) (queue_at queues c))
      → Kept flow rejoined
  kept-rejoined wide between =
      record {
        queues = wide;
        sound = subst (IsSound flow) (sym frame-rejoined) kept.sound;
        machines = λ m lt. subst (λ f. MachineAt flow f m (machine_at machines m)) (sym frame-rejoined) (own m (omega (arith, lt, count)));
        channels = between;
      }

-- ---- the parts of a network

module _ {flow : Flow} {hosts : List (List Machine)} {stations : List Station} {wires : List Wire} {queues : List Held} {end : ℕ} (net : IsNet flow hosts stations wires queues end) (after : List (List Machine)) (left : List Held) where
  abbrev frame : Frame
  frame = frame_of (net_of hosts stations wires queues end)

  -- Hosts with as many threads as before, whose machines may stand at their places, and queues with room that hold what
  -- was put and not taken, make a network again.
  pub is-rejoined : length after ≡ length hosts → ((h : ℕ) → length (hosted after h) ≡ length (hosted hosts h))
      → ((m : ℕ) → m < length stations → MachineAt flow frame m (machine_at (machines_by after stations) m))
      → length left ≡ length wires → HasRoom wires left
      → ((c : ℕ) → c < length wires → BetweenAt (list_at flow.lists c) (wire_at wires c).capacity (takes_by frame (machine_at (machines_by after stations) (wire_at wires c).consumer) c) (enters_by frame (machine_at (machines_by after stations) (wire_at wires c).producer) c) (queue_at (map (λ (q : Held). q.tokens) left) c))
      → IsNet flow after stations wires left end
  is-rejoined count threads own wide room between =
      let old : Network = net_of hosts stations wires queues end in
      let machines : List Machine = machines_by after stations in
      let tokens : List (List ℕ) = map (λ (q : Held). q.tokens) left in
      let same : length machines ≡ length old.machines = length-map stations (stationed after) ∙ sym (length-map stations (stationed hosts)) in
      let mine : (m : ℕ) → m < length old.machines → MachineAt flow frame m (machine_at machines m) = λ m lt. own m (omega (arith, lt, length-map stations (stationed hosts))) in
      let frames : frame_of (net_of after stations wires left end) ≡ frame = frame-rejoined flow old net.kept machines tokens same mine in
      record {
        stationed = record {
          each = λ k d lt.
              let is_stationed : IsStationed hosts (slice_index_or stations k d) = net.stationed.each k d lt in
              record { host = omega (arith, is_stationed.host, count); thread = omega (arith, is_stationed.thread, threads (slice_index_or stations k d).host) };
          alone = net.stationed.alone;
          whole = λ h t host thread. net.stationed.whole h t (omega (arith, host, count)) (omega (arith, thread, threads h));
        };
        listed = subst (λ f. AreListed f stations) (sym frames) net.listed;
        room = room;
        limits = subst IsWithinLimits (sym frames) net.limits;
        kept = kept-rejoined flow old net.kept machines tokens same mine (length-map left (λ (q : Held). q.tokens) ∙ wide) between;
      }
