-- A network that is kept and isn't at its end can go on: some event may be done.
use Rattle.std.proofs.Common.{◌≡◌, ℕ, zero, suc, ◌<◌, ◌≤◌, List, [], ◌∷◌, Option, None, Some, Bool, true, false, inl, inr, length, refl, sym, ap, subst, ◌∙◌, ⊎_elim, arith}
use Rattle.std.specs.Prelude.{◌⊎◌, All, Contains, IsSome, slice_get, slice_index_or}
use Rattle.std.proofs.lemmas.Bool.{cases_lt}
use Rattle.std.proofs.lemmas.Option.{none-some, same_Some, slice_get_within, get_or_from_slice_get}
use Rattle.gg_flat.specs.Line.{value_at}
use Rattle.gg_flat.specs.Streams.{Flow}
use Rattle.gg_node.specs.Machine.{Port, Machine, machine_at, latch_at, flag_at, first_empty, empty_or, needs_at}
use Rattle.gg_node.specs.inside.Machine.{port_number}
use Rattle.gg_node.specs.Step.{fields_of, AllFired}
use Rattle.gg_node.specs.inside.Step.{AllLatched}
use Rattle.gg_net.specs.declared.event.Event.{Event}
use Rattle.gg_net.specs.declared.event.Event.TheVariants.{Latch, Fire, Serve, Finish}
use Rattle.gg_net.specs.Network.{Network, wire_at, IsAtIn, IsAtOut, queue_at, producer_of, consumer_of, and_one, got_by, entered_by, puts, takes, entered, Kind, kind_at, frame_of}
use Rattle.gg_net.specs.Step.{latch_of, flag_of, Ready}
use Rattle.gg_net.specs.inside.Readings.{fields_at}
use Rattle.gg_net.proofs.Can.{missing_of}
use Rattle.gg_net.specs.Kept.{list_at, NeedsChannel, BetweenAt, Kept}
use Rattle.gg_net.proofs.LatchLemmas.{first-among, none-empty}
use Rattle.gg_net.proofs.MayLemmas.{producer-there, consumer-there}
use Rattle.gg_net.proofs.NetLemmas.{missing-within}
use Rattle.gg_net.proofs.TableLemmas.{can-latch, can-fire, can-serve, can-finish}
use Rattle.gg_net.proofs.FrameLemmas.{machine-known, kind-is}

-- ---- over plain variables

-- a least value of a function below a bound
record Least (f : ℕ → ℕ) (n : ℕ) : Type 0 where
  pub at : ℕ
  pub within : at < n
  pub least : (k : ℕ) → k < n → f at ≤ f k

least-of : (f : ℕ → ℕ) (n : ℕ) → Least f (suc n)
least-of f zero = record { at = 0; within = omega arith; least = λ k lt. let none : k ≡ 0 = omega (arith, lt) in omega (arith, ap f none) }
least-of f (suc n) =
    let before : Least f (suc n) = least-of f n in
    ⊎_elim
    (λ (lt : f (suc n) < f before.at). record {
      at = suc n;
      within = omega arith;
      least = λ k below. ⊎_elim
          (λ (less : k < suc n). omega (arith, before.least k less, lt))
          (λ (more : suc n ≤ k). let same : k ≡ suc n = omega (arith, more, below) in omega (arith, ap f same))
          (cases_lt k (suc n));
    })
    (λ (le : f before.at ≤ f (suc n)). record {
      at = before.at;
      within = omega (arith, before.within);
      least = λ k below. ⊎_elim
          (λ (less : k < suc n). before.least k less)
          (λ (more : suc n ≤ k). let same : k ≡ suc n = omega (arith, more, below) in omega (arith, le, ap f same))
          (cases_lt k (suc n));
    })
    (cases_lt (f (suc n)) (f before.at))

record ClearAt (flags : List Bool) : Type 0 where
  pub out : ℕ
  pub known : out < length flags
  pub clear : flag_at flags out ≡ false

find-clear : (flags : List Bool) → ClearAt flags ⊎ All (λ flag. flag ≡ true) flags
find-clear [] = inr (λ k d lt. absurd (omega (arith, lt)))
find-clear (false ∷ flags) = inl (record { out = 0; known = omega arith; clear = refl })
find-clear (true ∷ flags) =
    ⊎_elim
    (λ (at : ClearAt flags). inl (record { out = suc at.out; known = omega (arith, at.known); clear = at.clear }))
    (λ (all : All (λ flag. flag ≡ true) flags). inr (more all))
    (find-clear flags)
  where
    more : All (λ flag. flag ≡ true) flags → All (λ flag. flag ≡ true) (true ∷ flags)
    more all zero d lt = refl
    more all (suc k) d lt = all k d (omega (arith, lt))

record EmptyAt (latches : List (Option ℕ)) : Type 0 where
  pub place : ℕ
  pub known : place < length latches
  pub empty : latch_at latches place ≡ None

find-empty : (latches : List (Option ℕ)) → EmptyAt latches ⊎ All (λ latch. IsSome latch) latches
find-empty [] = inr (λ k d lt. absurd (omega (arith, lt)))
find-empty (None ∷ latches) = inl (record { place = 0; known = omega arith; empty = refl })
find-empty (Some value ∷ latches) =
    ⊎_elim
    (λ (at : EmptyAt latches). inl (record { place = suc at.place; known = omega (arith, at.known); empty = at.empty }))
    (λ (all : All (λ latch. IsSome latch) latches). inr (more all))
    (find-empty latches)
  where
    more : All (λ latch. IsSome latch) latches → All (λ latch. IsSome latch) (Some value ∷ latches)
    more all zero d lt = refl
    more all (suc k) d lt = all k d (omega (arith, lt))

-- the first in that is empty is empty
first-is-empty : (latches : List (Option ℕ)) (ins : List ℕ) (i : ℕ) → first_empty latches ins ≡ Some i → latch_at latches i ≡ None
first-is-empty latches [] i is = absurd (none-some i is)
first-is-empty latches (j ∷ ins) i is = by (latch_at latches j) refl (first-is-empty latches ins i) is
  where
    by : (latch : Option ℕ) → latch_at latches j ≡ latch → (first_empty latches ins ≡ Some i → latch_at latches i ≡ None) → empty_or latch j (first_empty latches ins) ≡ Some i → latch_at latches i ≡ None
    by None at rest is = ap (latch_at latches) (sym (same_Some j i is)) ∙ at
    by (Some value) at rest is = rest is

got-at : (t cycle : ℕ) (latch : Option ℕ) → t ≤ cycle → got_by cycle latch ≤ t → (cycle ≡ t) × (latch ≡ None)
got-at t cycle None le got = (omega (arith, le, got), refl)
got-at t cycle (Some value) le got = absurd (omega (arith, le, got))

given-at : (t cycle : ℕ) (flag : Bool) → t ≤ cycle → and_one cycle flag ≤ t → (cycle ≡ t) × (flag ≡ false)
given-at t cycle false le given = (omega (arith, le, given), refl)
given-at t cycle true le given = absurd (omega (arith, le, given))

given-least : (t cycle : ℕ) (flag : Bool) → t ≤ cycle → t ≤ and_one cycle flag
given-least t cycle false le = le
given-least t cycle true le = omega (arith, le)

entered-least : (t : ℕ) (first : Option ℕ) (n : ℕ) → t ≤ n → entered_by first n ≤ t → n ≤ t
entered-least t None n le in_all = in_all
entered-least t (Some token) n le in_all = absurd (omega (arith, le, in_all))

entered-most : (first : Option ℕ) (n : ℕ) → entered_by first n ≤ suc n
entered-most None n = omega arith
entered-most (Some token) n = omega arith

-- ---- the machines that are least far

module _ (flow : Flow) (net : Network) (kept : Kept flow net) (t : ℕ) (below : t < net.end) (least : (k : ℕ) → k < length net.machines → t ≤ (machine_at net.machines k).cycle) where
  -- some event may be done
  abbrev MayGo : Type 0
  MayGo = (event : Event) × Ready net event

  -- A consumer that is least far waits for a channel: its token may be latched, or its producer is least far too and
  -- hasn't given it.
  waits : (c : ℕ) → c < length net.wires → latch_of net c ≡ None → (consumer_of net c).cycle ≡ t → MayGo ⊎ (((producer_of net c).cycle ≡ t) × (flag_of net c ≡ false))
  waits c known empty at =
      let between : BetweenAt (list_at flow.lists c) (wire_at net.wires c).capacity (takes net c) (entered net c) (queue_at net.queues c) = kept.channels c known in
      let took : takes net c ≡ t = ap (got_by (consumer_of net c).cycle) empty ∙ at in
      let le : t ≤ (producer_of net c).cycle = least (wire_at net.wires c).producer (producer-there flow net kept c known) in
      ⊎_elim
      (λ (held : 0 < length (queue_at net.queues c)). inl (Latch c, can-latch net c (record { can = (known, omega (arith, at, below)); empty = empty; held = held })))
      (λ (none : length (queue_at net.queues c) ≤ 0).
      let in_all : entered net c ≤ t = omega (arith, none, took, between.held) in
      inr (given-at t (producer_of net c).cycle (flag_of net c) le (entered-least t (wire_at net.wires c).first (puts net c) (given-least t (producer_of net c).cycle (flag_of net c) le) in_all)))
      (cases_lt 0 (length (queue_at net.queues c)))

  abbrev rank : ℕ → ℕ
  rank c = value_at kept.sound.no_ring.ranks c

  -- A producer that is least far hasn't given a channel's token: it may be given, or it waits for one of lower rank.
  fires-by : (c : ℕ) (place : Option ℕ) → missing_of net c ≡ place → c < length net.wires → (producer_of net c).cycle ≡ t → flag_of net c ≡ false
      → ((d : ℕ) → d < length net.wires → rank d < rank c → (producer_of net d).cycle ≡ t → flag_of net d ≡ false → MayGo) → MayGo
  fires-by c None needed known at clear lower =
      let between : BetweenAt (list_at flow.lists c) (wire_at net.wires c).capacity (takes net c) (entered net c) (queue_at net.queues c) = kept.channels c known in
      let some : 0 < (wire_at net.wires c).capacity = kept.sound.wired.some c known in
      let put : puts net c ≡ t = ap (and_one (producer_of net c).cycle) clear ∙ at in
      ⊎_elim
      (λ (lt : length (queue_at net.queues c) < (wire_at net.wires c).capacity). (Fire c, can-fire net kept.sound.wired c (record { can = (known, omega (arith, at, below)); clear = clear; needed = needed; room = lt })))
      (λ (le : (wire_at net.wires c).capacity ≤ length (queue_at net.queues c)).
      let took : takes net c ≤ t = omega (arith, le, some, between.held, entered-most (wire_at net.wires c).first (puts net c), put) in
      let is : ((consumer_of net c).cycle ≡ t) × (latch_of net c ≡ None) = got-at t (consumer_of net c).cycle (latch_of net c) (least (wire_at net.wires c).consumer (consumer-there flow net kept c known)) took in
      (Latch c, can-latch net c (record { can = (known, omega (arith, is.0, below)); empty = is.1; held = omega (arith, le, some) })))
      (cases_lt (length (queue_at net.queues c)) (wire_at net.wires c).capacity)
  fires-by c (Some i) needed known at clear lower =
      let p : ℕ = (wire_at net.wires c).producer in
      let o : ℕ = (wire_at net.wires c).out in
      let x : Machine = producer_of net c in
      let there : p < length net.machines = producer-there flow net kept c known in
      let within : i < length x.latches = missing-within flow net kept p there o i needed in
      let place : i < (kind_at (frame_of net).kinds p).ins = omega (arith, within, ap (λ (k : Kind). k.ins) (kind-is net p)) in
      let d : ℕ = (kept.sound.wired.into p i (machine-known net p there) place).0 in
      let in_at : IsAtIn net.wires p i d = (kept.sound.wired.into p i (machine-known net p there) place).1 in
      let has : Contains (needs_at x.needs o) i = first-among x.latches (needs_at x.needs o) i needed in
      let needs : NeedsChannel (frame_of net) c d = record { known = known; place = i; needed = subst (λ (k : Kind). Contains (needs_at k.needs o) i) (sym (kind-is net p)) has; at = in_at } in
      let empty : latch_of net d ≡ None = ap (λ m. latch_at (machine_at net.machines m).latches (wire_at net.wires d).place) in_at.machine ∙ ap (latch_at x.latches) in_at.place ∙ first-is-empty x.latches (needs_at x.needs o) i needed in
      ⊎_elim
      (λ (go : MayGo). go)
      (λ (is : ((producer_of net d).cycle ≡ t) × (flag_of net d ≡ false)). lower d in_at.known (kept.sound.no_ring.lower c d needs) is.0 is.1)
      (waits d in_at.known empty (ap (λ m. (machine_at net.machines m).cycle) in_at.machine ∙ at))

  fires : (n c : ℕ) → rank c < n → c < length net.wires → (producer_of net c).cycle ≡ t → flag_of net c ≡ false → MayGo
  fires zero c low known at clear = absurd (omega (arith, low))
  fires (suc n) c low known at clear = fires-by c (missing_of net c) refl known at clear (λ d there less. fires n d (omega (arith, less, low)) there)

  module _ (m : ℕ) (there : m < length net.machines) (at : (machine_at net.machines m).cycle ≡ t) where
    abbrev x : Machine
    x = machine_at net.machines m

    -- all tokens were given and taken: a port may be served, or the cycle may be finished
    ends-by : (port : Option Port) → slice_get x.ports x.served ≡ port → AllFired x → AllLatched x → MayGo
    ends-by None is fired latched = (Finish m, can-finish net kept.sound.wired m (record { there = there; below = omega (arith, at, below); fired = fired; served = ap port_number is; latched = latched }))
    ends-by (Some q) is fired latched =
        let served : x.served < length x.ports = slice_get_within x.ports x.served q is in
        let q-is : slice_index_or x.ports x.served q ≡ q = get_or_from_slice_get x.ports x.served q q is in
        let numbers : All (λ (port : Port). port.number < x.port_count) x.ports = subst (λ (k : Kind). All (λ (port : Port). port.number < k.port_count) k.ports) (kind-is net m) (kept.sound.wired.numbers m (machine-known net m there)) in
        let all : All (λ (port : Port). All (λ i. i < length x.latches) (fields_of port.access)) x.ports = subst (λ (k : Kind). All (λ (port : Port). All (λ i. i < k.ins) (fields_of port.access)) k.ports) (kind-is net m) (kept.sound.wired.fields m (machine-known net m there)) in
        let fields : All (λ i. i < length x.latches) (fields_of q.access) = subst (λ (port : Port). All (λ i. i < length x.latches) (fields_of port.access)) q-is (all x.served q served) in (
          Serve m q.number,
          can-serve net kept.sound.wired m q.number (record {
            there = (there, subst (λ (port : Port). port.number < x.port_count) q-is (numbers x.served q served));
            below = omega (arith, at, below);
            fired = fired;
            due = ap port_number is;
            fields = ap (λ (port : Option Port). first_empty x.latches (fields_at port)) is ∙ none-empty x.latches (fields_of q.access) (λ k d lt. latched (slice_index_or (fields_of q.access) k d) None (fields k d lt));
          }),
        )

    machine-goes : MayGo
    machine-goes =
        ⊎_elim
        (λ (clear : ClearAt x.flags).
        let o : ℕ = clear.out in
        let place : o < (kind_at (frame_of net).kinds m).outs = omega (arith, clear.known, ap (λ (k : Kind). k.outs) (kind-is net m)) in
        let c : ℕ = (kept.sound.wired.from m o (machine-known net m there) place).0 in
        let out_at : IsAtOut net.wires m o c = (kept.sound.wired.from m o (machine-known net m there) place).1 in
        fires (suc (rank c)) c (omega arith) out_at.known (ap (λ k. (machine_at net.machines k).cycle) out_at.machine ∙ at)
        (ap (λ k. flag_at (machine_at net.machines k).flags (wire_at net.wires c).out) out_at.machine ∙ ap (flag_at x.flags) out_at.out ∙ clear.clear))
        (λ (fired : AllFired x). ⊎_elim
        (λ (empty : EmptyAt x.latches).
        let i : ℕ = empty.place in
        let place : i < (kind_at (frame_of net).kinds m).ins = omega (arith, empty.known, ap (λ (k : Kind). k.ins) (kind-is net m)) in
        let d : ℕ = (kept.sound.wired.into m i (machine-known net m there) place).0 in
        let in_at : IsAtIn net.wires m i d = (kept.sound.wired.into m i (machine-known net m there) place).1 in
        ⊎_elim
        (λ (go : MayGo). go)
        (λ (is : ((producer_of net d).cycle ≡ t) × (flag_of net d ≡ false)). fires (suc (rank d)) d (omega arith) in_at.known is.0 is.1)
        (waits d in_at.known (ap (λ k. latch_at (machine_at net.machines k).latches (wire_at net.wires d).place) in_at.machine ∙ ap (latch_at x.latches) in_at.place ∙ empty.empty) (ap (λ k. (machine_at net.machines k).cycle) in_at.machine ∙ at)))
        (λ (latched : AllLatched x). ends-by (slice_get x.ports x.served) refl fired latched)
        (find-empty x.latches))
        (find-clear x.flags)

-- A network that is kept goes on, while a machine has cycles left.
pub goes-on : (flow : Flow) (net : Network) (m : ℕ) → Kept flow net → m < length net.machines → (machine_at net.machines m).cycle < net.end → (event : Event) × Ready net event
goes-on flow net m kept there lt = by (length net.machines) refl
  where
    by : (n : ℕ) → length net.machines ≡ n → (event : Event) × Ready net event
    by zero none = absurd (omega (arith, there, none))
    by (suc n) count =
        let f : ℕ → ℕ = λ k. (machine_at net.machines k).cycle in
        let first : Least f (suc n) = least-of f n in
        machine-goes flow net kept (f first.at) (omega (arith, lt, first.least m (omega (arith, there, count)))) (λ k below. first.least k (omega (arith, below, count))) first.at (omega (arith, first.within, count)) refl
