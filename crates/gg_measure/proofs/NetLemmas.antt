-- A network that is kept has a marking of its layout, and its counts are allowed.
use Rattle.std.proofs.Common.{◌≡◌, ℕ, suc, ◌+◌, ◌-◌, ◌*◌, ◌^◌, ◌<◌, ◌≤◌, List, [], Option, Some, None, true, length, refl, ap, sym, subst, ◌∙◌, inl, inr, arith}
use Rattle.std.proofs.Math.Nat.{mul-le-mul_left}
use Rattle.std.proofs.lemmas.Nat.{mul-le}
use Rattle.std.proofs.Math.ListN as exact
use Rattle.std.specs.Prelude.{All, Contains, IsSome, is_some, slice_index_or}
use Rattle.std.proofs.lemmas.Bool.{cases_lt, cases_Bool}
use Rattle.std.proofs.lemmas.List.{length-map, length-take, get_or-map, get_or-take}
use Rattle.gg_flat.specs.Streams.{Flow}
use Rattle.gg_flat.specs.Line.{value_at}
use Rattle.gg_flat.specs.Served.{Access, ByReader, ByWriter}
use Rattle.gg_node.specs.Machine.{Machine, Port, no_machine, machine_at, latch_at}
use Rattle.gg_node.specs.Step.{fields_of, HasFields}
use Rattle.gg_net.proofs.PortLemmas.{any_port}
use Rattle.gg_net.proofs.MayLemmas.{producer-there, consumer-there}
use Rattle.gg_net.specs.Network as network
use Rattle.gg_net.specs.Network.{Network, Kind, Frame, wire_at, kind_at, kind_of, no_kind, frame_of, got_by}
use Rattle.gg_net.specs.Kept.{Kept, MachineAt, BetweenAt, NeedsChannel, list_at}
use Rattle.gg_net.specs.inside.Net.{IsWithinLimits}
use Rattle.gg_net.specs.Step.{latch_of}
use Rattle.gg_net.proofs.Can.{missing_of}
use Rattle.gg_net.specs.Refusal.{Turn, first_without}
use Rattle.gg_net.specs.Step.{facts_of}
use Rattle.gg_net.proofs.TableLemmas.{needs-none, none-unfired}
use Rattle.gg_net.specs.markings.Marking.{Layout, Marking, link_at, turns_at, is_set, marked_facts}
use Rattle.gg_net.specs.inside.Fits.{HasLayout, IsTurnOf, AreTurnsOf, places_of, marking_of}
use Rattle.gg_net.proofs.MarkingsLemmas.CountLemmas.{cycle-at, served-at, taken-at, given-at, puts-are, entered-are, takes-are}
use Rattle.gg_net.proofs.MarkingsLemmas.ChangeLemmas.{taken-count, given-count}
use Rattle.gg_net.proofs.MarkingsLemmas.AlikeLemmas.{needs-same, outs-same}
use Rattle.gg_net.proofs.MarkingsLemmas.AgreeLemmas.{alike}
use Rattle.gg_net.proofs.MarkingsLemmas.PutsLemmas.{puts-within}
use Rattle.gg_net.specs.inside.Counts.{Counts, counts_of, WasTaken, IsAllowed, HasBegun, CanRun, IsMarkingOf}
use Rattle.gg_net.specs.markings.Counts.{dues}
use Rattle.gg_net.specs.markings.Measure.{sum_below}
use Rattle.gg_net.specs.inside.Measure.{left}
use Rattle.gg_measure.specs.inside.Nets.{dues_at, net_left, wire_left, machine_left}
use Rattle.gg_net.proofs.MarkingsLemmas.SumLemmas.{sum-same, sum-le, sum-add, sum-equal, sum-times, sum-front, sum-listed}
use Rattle.gg_net.proofs.MarkingsLemmas.EarlyLemmas.{entered-is}
use Rattle.gg_net.proofs.MarkingsLemmas.FreeLemmas.{all-taken, has-given, set-one, clear-one}

any_turn : Turn
any_turn = record { number = 0; fields = [] }

-- an access has a field
has-field : (access : Access) → 0 < length (fields_of access)
has-field (ByReader r reader) = omega arith
has-field (ByWriter w writer) = omega arith

-- no more tokens are got than there are cycles
pub got-within : (cycle end : ℕ) (latch : Option ℕ) → cycle ≤ end → ((value : ℕ) → latch ≡ Some value → cycle < end) → got_by cycle latch ≤ end
got-within cycle end None within lt = within
got-within cycle end (Some value) within lt = omega (arith, lt value refl)

pub takes-within : (flow : Flow) (net : Network) → Kept flow net → (c : ℕ) → c < length net.wires → network.takes net c ≤ net.end
takes-within flow net kept c known =
    let q : ℕ = (wire_at net.wires c).consumer in
    let at : MachineAt flow (frame_of net) q (machine_at net.machines q) = kept.machines q (consumer-there flow net kept c known) in
    got-within (machine_at net.machines q).cycle net.end (latch_of net c) at.within (λ value is. (at.latched c value known refl is).0)

module _ (flow : Flow) (net : Network) (kept : Kept flow net) (layout : Layout) (has : HasLayout (frame_of net) layout) where
  abbrev frame : Frame
  frame = frame_of net

  abbrev marking : Marking
  marking = marking_of net

  abbrev counts : Counts
  counts = counts_of layout (marking_of net)

  pub wire-there : (c : ℕ) → c < length layout.links → c < length net.wires
  wire-there c known = omega (arith, known, has.channels)

  pub kind-there : (m : ℕ) → m < length layout.turns → m < length frame.kinds
  kind-there m known = omega (arith, known, has.machines)

  pub kind-count : length frame.kinds ≡ length net.machines
  kind-count = length-map net.machines kind_of

  pub machine-there : (m : ℕ) → m < length layout.turns → m < length net.machines
  machine-there m known = omega (arith, known, has.machines, kind-count)

  pub kind-is : (m : ℕ) → kind_at frame.kinds m ≡ kind_of (machine_at net.machines m)
  kind-is m = exact.get_or-map kind_of net.machines m no_machine

  -- ---- the layout

  pub link-producer : (c : ℕ) → c < length net.wires → (link_at layout c).producer ≡ (wire_at net.wires c).producer
  link-producer c known = (has.link c known).producer

  pub link-consumer : (c : ℕ) → c < length net.wires → (link_at layout c).consumer ≡ (wire_at net.wires c).consumer
  link-consumer c known = (has.link c known).consumer

  pub turn-is : (m i : ℕ) (any : Turn) → m < length layout.turns → i < length (turns_at layout m) → IsTurnOf frame m (slice_index_or (kind_at frame.kinds m).ports i any_port) (slice_index_or (turns_at layout m) i any)
  turn-is m i any known lt = let are : AreTurnsOf frame m (kind_at frame.kinds m).ports (turns_at layout m) = has.turns m (kind-there m known) in are.each i any_port any (omega (arith, lt, are.count))

  pub turn-fields : (m i : ℕ) (any : Turn) → m < length layout.turns → i < length (turns_at layout m) → All (λ d. (d < length layout.links) × ((link_at layout d).consumer ≡ m)) (slice_index_or (turns_at layout m) i any).fields
  turn-fields m i any known lt = λ j any_d j_lt.
      let d : ℕ = slice_index_or (slice_index_or (turns_at layout m) i any).fields j any_d in
      let is : (d < length net.wires) × ((wire_at net.wires d).consumer ≡ m) = (turn-is m i any known lt).taken j any_d j_lt in
      (omega (arith, is.0, has.channels), link-consumer d is.0 ∙ is.1)

  pub link-needs : (c : ℕ) → c < length net.wires → All (λ d. (d < length net.wires) × ((wire_at net.wires d).consumer ≡ (wire_at net.wires c).producer)) (link_at layout c).needs
  link-needs c known = (has.link c known).taken

  -- a channel needs what its link lists
  needs-channel : (c : ℕ) → c < length net.wires → (i any : ℕ) → i < length (link_at layout c).needs → NeedsChannel frame c (slice_index_or (link_at layout c).needs i any)
  needs-channel c known i any lt =
      let d : ℕ = slice_index_or (link_at layout c).needs i any in
      let place : ℕ = (wire_at net.wires d).place in
      let is : (d < length net.wires) × ((wire_at net.wires d).consumer ≡ (wire_at net.wires c).producer) = link-needs c known i any lt in
      let among : Contains (places_of frame (link_at layout c).needs) place =
      (i, omega (arith, lt, length-map (link_at layout c).needs (λ e. (wire_at net.wires e).place)), get_or-map (λ e. (wire_at net.wires e).place) (link_at layout c).needs i any place lt) in
      record {
        known = known;
        place = place;
        needed = subst (λ (places : List ℕ). Contains places place) (has.link c known).needs among;
        at = record { known = is.0; machine = is.1; place = refl };
      }

  pub can-run : CanRun layout
  can-run =
      record {
        producer = λ c known. omega (arith, link-producer c (wire-there c known), kept.sound.wired.producer c (wire-there c known), has.machines);
        consumer = λ c known. omega (arith, link-consumer c (wire-there c known), kept.sound.wired.consumer c (wire-there c known), has.machines);
        room = λ c known. omega (arith, (has.link c (wire-there c known)).capacity, kept.sound.wired.some c (wire-there c known));
        needs = λ c known i any lt.
            let d : ℕ = slice_index_or (link_at layout c).needs i any in
            let is : (d < length net.wires) × ((wire_at net.wires d).consumer ≡ (wire_at net.wires c).producer) = link-needs c (wire-there c known) i any lt in
            (omega (arith, is.0, has.channels), link-consumer d is.0 ∙ is.1 ∙ sym (link-producer c (wire-there c known)));
        fields = λ m known i any lt. turn-fields m i any known lt;
        numbers = λ m known i any lt.
            let are : AreTurnsOf frame m (kind_at frame.kinds m).ports (turns_at layout m) = has.turns m (kind-there m known) in
            omega (
              arith,
              (turn-is m i any known lt).number,
              kept.sound.wired.numbers m (kind-there m known) i any_port (omega (arith, lt, are.count)),
              ap (λ (ports : List ℕ). value_at ports m) has.ports,
              exact.get_or-map (λ (kind : Kind). kind.port_count) frame.kinds m no_kind,
            );
        ranks = λ c. value_at kept.sound.no_ring.ranks c;
        lower = λ c known i any lt. kept.sound.no_ring.lower c (slice_index_or (link_at layout c).needs i any) (needs-channel c (wire-there c known) i any lt);
      }

  -- ---- the marking

  pub shape-of : IsMarkingOf layout marking
  shape-of =
      record {
        cycles = omega (arith, length-map net.machines (λ (x : Machine). x.cycle), has.machines, kind-count);
        served = omega (arith, length-map net.machines (λ (x : Machine). x.served), has.machines, kind-count);
        taken = omega (arith, taken-count net, has.channels);
        given = omega (arith, given-count net, has.channels);
      }

  machine : (m : ℕ) → m < length layout.turns → MachineAt flow frame m (machine_at net.machines m)
  machine m known = kept.machines m (machine-there m known)

  -- what a channel needs is taken, if its token was given
  needs-taken : (c : ℕ) → c < length layout.links → is_set marking.given c ≡ true → first_without (marked_facts layout marking).taken (link_at layout c).needs ≡ None
  needs-taken c known set =
      let k : c < length net.wires = wire-there c known in
      let p : ℕ = (wire_at net.wires c).producer in
      let at : MachineAt flow frame p (machine_at net.machines p) = kept.machines p (producer-there flow net kept c k) in
      let none : missing_of net c ≡ None = (at.fired (wire_at net.wires c).out (sym (given-at net c k) ∙ set)).1 in
      sym (needs-same (facts_of net) (marked_facts layout marking) (alike flow net kept layout has) c k) ∙ needs-none net kept.sound.wired c k (wire_at net.wires c) refl none

  -- the fields of a port that was served are taken
  fields-taken : (m i : ℕ) (any : Turn) → m < length layout.turns → i < value_at marking.served m → All (WasTaken counts (counts.cycles m)) (slice_index_or (turns_at layout m) i any).fields
  fields-taken m i any known lt =
      let x : Machine = machine_at net.machines m in
      let at : MachineAt flow frame m x = machine m known in
      let are : AreTurnsOf frame m (kind_at frame.kinds m).ports (turns_at layout m) = has.turns m (kind-there m known) in
      let ports : length (kind_at frame.kinds m).ports ≡ length x.ports = ap (λ (kind : Kind). length kind.ports) (kind-is m) in
      let lt_served : i < x.served = omega (arith, lt, served-at net m) in
      let within : i < length (turns_at layout m) = omega (arith, lt_served, at.served, are.count, ports) in
      let fields : HasFields x.latches (slice_index_or x.ports i any_port) =
      subst (λ (port : Port). HasFields x.latches port) (get_or-take x.served x.ports i any_port lt_served) (at.fields i any_port (omega (arith, lt_served, length-take x.served x.ports, at.served))) in
      let is : IsTurnOf frame m (slice_index_or x.ports i any_port) (slice_index_or (turns_at layout m) i any) = subst (λ (kind : Kind). IsTurnOf frame m (slice_index_or kind.ports i any_port) (slice_index_or (turns_at layout m) i any)) (kind-is m) (turn-is m i any known within) in
      let channels : List ℕ = (slice_index_or (turns_at layout m) i any).fields in
      let places : All (λ j. IsSome (latch_at x.latches j)) (places_of frame channels) = subst (λ (js : List ℕ). All (λ j. IsSome (latch_at x.latches j)) js) (sym is.fields) fields in
      λ j any_d j_lt.
      let d : ℕ = slice_index_or channels j any_d in
      let d_is : (d < length net.wires) × ((wire_at net.wires d).consumer ≡ m) = is.taken j any_d j_lt in
      let some : IsSome (latch_at x.latches (wire_at net.wires d).place) =
      subst (λ k. IsSome (latch_at x.latches k)) (get_or-map (λ e. (wire_at net.wires e).place) channels j any_d 0 j_lt) (places j 0 (omega (arith, j_lt, length-map channels (λ e. (wire_at net.wires e).place)))) in
      let set : is_set marking.taken d ≡ true = taken-at net d d_is.0 ∙ ap (λ k. is_some (latch_at (machine_at net.machines k).latches (wire_at net.wires d).place)) d_is.1 ∙ some in
      set-one (value_at marking.cycles (link_at layout d).consumer) (is_set marking.taken d) set ∙ ap (λ k. suc (counts.cycles k)) (link-consumer d d_is.0 ∙ d_is.1)

  cycle-end : (m : ℕ) → m < length layout.turns → counts.cycles m ≤ layout.end
  cycle-end m known = omega (arith, (machine m known).within, cycle-at net m, has.end)

  take-end : (c : ℕ) → c < length layout.links → counts.takes c ≤ layout.end
  take-end c known =
      let k : c < length net.wires = wire-there c known in
      omega (arith, takes-are net layout has c k, has.end, takes-within flow net kept c k)

  served-within : (m : ℕ) → m < length layout.turns → value_at marking.served m ≤ dues layout m
  served-within m known =
      let are : AreTurnsOf frame m (kind_at frame.kinds m).ports (turns_at layout m) = has.turns m (kind-there m known) in
      omega (arith, (machine m known).served, served-at net m, are.count, ap (λ (kind : Kind). length kind.ports) (kind-is m))

  serve-end : (m : ℕ) → m < length layout.turns → counts.serves m ≤ dues layout m * layout.end
  serve-end m known =
      elim (cases_lt 0 (value_at marking.served m)) [
        | inr none ↦ omega (arith, none, mul-le-mul_left (dues layout m) (cycle-end m known))
        | inl some ↦
            let fields : All (WasTaken counts (counts.cycles m)) (slice_index_or (turns_at layout m) 0 any_turn).fields = fields-taken m 0 any_turn known some in
            let is : IsTurnOf frame m (slice_index_or (kind_at frame.kinds m).ports 0 any_port) (slice_index_or (turns_at layout m) 0 any_turn) = turn-is m 0 any_turn known (omega (arith, some, served-within m known)) in
            let channels : List ℕ = (slice_index_or (turns_at layout m) 0 any_turn).fields in
            let first : 0 < length channels =
            omega (arith, has-field (slice_index_or (kind_at frame.kinds m).ports 0 any_port).access, ap length is.fields, length-map channels (λ e. (wire_at net.wires e).place)) in
            let taken : counts.takes (slice_index_or channels 0 0) ≡ suc (counts.cycles m) = fields 0 0 first in
            let below : counts.cycles m < layout.end = omega (arith, taken, take-end (slice_index_or channels 0 0) (turn-fields m 0 any_turn known (omega (arith, some, served-within m known)) 0 0 first).0) in
            omega (arith, served-within m known, mul-le-mul_left (dues layout m) below)
      ]

  pub allowed-of : IsAllowed layout counts
  allowed-of =
      record {
        flows = λ c known.
            let k : c < length net.wires = wire-there c known in
            let between : BetweenAt (list_at flow.lists c) (wire_at net.wires c).capacity (network.takes net c) (network.entered net c) (network.queue_at net.queues c) = kept.channels c k in
            record {
              least = omega (arith, between.held, entered-are net layout has c k, takes-are net layout has c k, entered-is (counts.puts c) (link_at layout c).piped);
              most = omega (arith, between.held, between.room, entered-are net layout has c k, takes-are net layout has c k, (has.link c k).capacity, entered-is (counts.puts c) (link_at layout c).piped);
            };
        puts = λ c known. elim (cases_Bool (is_set marking.given c)) [
          | inl set ↦ inr (record {
            given = set-one (value_at marking.cycles (link_at layout c).producer) (is_set marking.given c) set;
            needed = all-taken layout marking can-run (link_at layout c).producer (link_at layout c).needs (can-run.needs c known) (needs-taken c known set);
          })
          | inr clear ↦ inl (clear-one (value_at marking.cycles (link_at layout c).producer) (is_set marking.given c) clear)
        ];
        takes = λ c known. elim (cases_Bool (is_set marking.taken c)) [
          | inl set ↦ inr (set-one (value_at marking.cycles (link_at layout c).consumer) (is_set marking.taken c) set)
          | inr clear ↦ inl (clear-one (value_at marking.cycles (link_at layout c).consumer) (is_set marking.taken c) clear)
        ];
        serves = λ m known. (
          value_at marking.served m,
          record {
            count = refl;
            within = served-within m known;
            given = λ some. has-given layout marking can-run m (sym (outs-same (facts_of net) (marked_facts layout marking) (alike flow net kept layout has) m) ∙ none-unfired net kept.sound.wired m (machine-there m known) ((machine m known).serving (omega (arith, some, served-at net m))));
            fields = λ i any lt. fields-taken m i any known lt;
          },
        );
        cycle_end = cycle-end;
        put_end = λ c known. omega (arith, puts-are net layout has c (wire-there c known), puts-within flow net kept c (wire-there c known), has.end);
        take_end = take-end;
        serve_end = serve-end;
      }

  -- all machines have begun
  pub begun-of : HasBegun layout flow.begin counts
  begun-of = record { cycles = λ m known. omega (arith, (machine m known).begun, cycle-at net m) }

  -- ---- the measure

  pub dues-are : (m : ℕ) → m < length layout.turns → dues layout m ≡ dues_at net m
  dues-are m known = (has.turns m (kind-there m known)).count ∙ ap (λ (kind : Kind). length kind.ports) (kind-is m)

  pub serves-are : (m : ℕ) → m < length layout.turns → network.serves net m ≡ counts.serves m
  serves-are m known =
      ap (λ n. n * (machine_at net.machines m).cycle + (machine_at net.machines m).served) (sym (dues-are m known))
      ∙ ap (λ n. dues layout m * n + (machine_at net.machines m).served) (sym (cycle-at net m))
      ∙ ap (λ n. dues layout m * value_at marking.cycles m + n) (sym (served-at net m))

  pub left-is : net_left net ≡ left layout counts
  left-is =
      omega (
        arith,
        sum-same (wire_left net) (λ c. (layout.end - counts.puts c) + (layout.end - counts.takes c)) (length net.wires) (λ c k. omega (arith, puts-are net layout has c k, takes-are net layout has c k, has.end)),
        sum-same (machine_left net) (λ m. (layout.end - counts.cycles m) + (dues layout m * layout.end - counts.serves m)) (length net.machines) (λ m lt.
            let known : m < length layout.turns = omega (arith, lt, has.machines, kind-count) in
            omega (arith, cycle-at net m, serves-are m known, has.end, ap (λ n. n * net.end) (dues-are m known), ap (λ n. dues layout m * n) has.end)),
        ap (sum_below (λ c. (layout.end - counts.puts c) + (layout.end - counts.takes c))) (has.channels),
        ap (sum_below (λ m. (layout.end - counts.cycles m) + (dues layout m * layout.end - counts.serves m))) (has.machines ∙ kind-count),
      )

  -- no more ports are served than there are cycles for
  pub serves-within : (m : ℕ) → m < length net.machines → network.serves net m ≤ dues_at net m * net.end
  serves-within m there =
      let known : m < length layout.turns = omega (arith, there, has.machines, kind-count) in
      omega (arith, serves-are m known, serve-end m known, ap (λ n. n * layout.end) (dues-are m known), ap (λ n. dues_at net m * n) has.end)

  -- ---- the measure is small

  wires-few : (k : ℕ) → sum_below (wire_left net) k ≤ k * (2 * net.end)
  wires-few k = omega (arith, sum-le (wire_left net) (λ c. 2 * net.end) k (λ c lt. omega arith), sum-equal (λ c. 2 * net.end) (2 * net.end) k (λ c lt. refl))

  machines-few : (k : ℕ) → sum_below (machine_left net) k ≤ k * net.end + sum_below (dues_at net) k * net.end
  machines-few k =
      omega (
        arith,
        sum-le (machine_left net) (λ m. net.end + dues_at net m * net.end) k (λ m lt. omega arith),
        sum-add (λ m. net.end) (λ m. dues_at net m * net.end) k,
        sum-equal (λ m. net.end) net.end k (λ m lt. refl),
        sum-times (dues_at net) net.end k,
      )

  dues-few : IsWithinLimits frame → (k : ℕ) → k ≤ length net.machines → sum_below (dues_at net) k < 2 ^ 32
  dues-few limits k le =
      omega (
        arith,
        limits.ports,
        sum-listed (λ (kind : Kind). length kind.ports) frame.kinds no_kind,
        ap (sum_below (λ m. length (kind_at frame.kinds m).ports)) kind-count,
        sum-same (λ m. length (kind_at frame.kinds m).ports) (dues_at net) (length net.machines) (λ m lt. ap (λ (kind : Kind). length kind.ports) (kind-is m)),
        sum-front (dues_at net) k (length net.machines) le,
      )

  abbrev most_left : ℕ
  most_left = 2 ^ 32 * 4000000

  pub wires-small : IsWithinLimits frame → (k : ℕ) → k ≤ length net.wires → sum_below (wire_left net) k ≤ 2 ^ 32 * 2000000
  wires-small limits k le = omega (arith, wires-few k, mul-le k (2 * net.end) (2 ^ 32) 2000000 (omega (arith, le, limits.channels)) (omega (arith, limits.cycles)))

  pub machines-small : IsWithinLimits frame → (k : ℕ) → k ≤ length net.machines → sum_below (machine_left net) k ≤ 2 ^ 32 * 2000000
  machines-small limits k le =
      omega (
        arith,
        machines-few k,
        mul-le k net.end (2 ^ 32) 1000000 (omega (arith, le, limits.machines, kind-count)) (omega (arith, limits.cycles)),
        mul-le (sum_below (dues_at net) k) net.end (2 ^ 32) 1000000 (omega (arith, dues-few limits k le)) (omega (arith, limits.cycles)),
      )
