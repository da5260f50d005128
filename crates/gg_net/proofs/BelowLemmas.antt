-- What `step_below` asks of the machine at hand is what the table asks of the network.
use Rattle.std.proofs.Common.{◌≡◌, ℕ, ◌<◌, ◌≤◌, None, Bool, true, false, Result, Ok, Err, is_ok, MatchResult, length, sym, ap, subst, ◌∙◌, arith, true≢false}
use Rattle.std.specs.Prelude.{◌↔◌, nat_lt}
use Rattle.std.proofs.lemmas.Bool.{ltb-true, lt-ltb}
use Rattle.gg_node.specs.Machine.{Machine, machine_at}
use Rattle.gg_node.specs.inside.Machine.{due}
use Rattle.gg_node.specs.inside.Step.{Wants, Gives, AllLatched}
use Rattle.gg_node.specs.Step.{AllFired}
use Rattle.gg_net.specs.declared.event.Event.{Event}
use Rattle.gg_net.specs.declared.event.Event.TheVariants.{Latch, Fire, Serve, Finish}
use Rattle.gg_net.specs.declared.shape.Wire.{Wire}
use Rattle.gg_net.specs.Network.{Network, wire_at, queue_at, producer_of, consumer_of, frame_of}
use Rattle.gg_net.specs.declared.event.StepRefusal.{StepRefusal}
use Rattle.gg_net.specs.Step.{Ready, Refused}
use Rattle.gg_net.specs.inside.Step.{cycle_of}
use Rattle.gg_net.specs.Kept.{IsWired}
use Rattle.gg_net.proofs.Can.{CanLatch, CanFire, CanFinish}
use Rattle.gg_net.proofs.TableLemmas.{never, latch-can, can-latch, fire-can, can-fire, serve-can, finish-can, can-finish}

-- ---- over plain variables

-- what isn't so, is answered by false
pub not-so : {P : Type 0} → (P → ⊥) → (false ≡ true) ↔ P
not-so un = (λ is. absurd (true≢false (sym is)), λ so. absurd (un so))

-- the same of an answer that is false
pub not-true : {P : Type 0} (b : Bool) → b ≡ false → (P → ⊥) → (b ≡ true) ↔ P
not-true b is un = (λ yes. absurd (true≢false (sym yes ∙ is)), λ so. absurd (un so))

pub not-both : (b : Bool) → b ≡ true → b ≡ false → ⊥
not-both b so un = absurd (true≢false (sym so ∙ un))

-- an answer that is told as a flag
pub flagged : {A : Type 0} (net : Network) (event : Event) (judged : Result A StepRefusal) (flag : Bool) → flag ≡ is_ok judged → MatchResult judged (λ x. Ready net event) (Refused net event) → (flag ≡ true) ↔ Ready net event
flagged net event (Ok x) flag is ready = (λ yes. ready, λ may. is)
flagged net event (Err cause) flag is refused = (λ yes. absurd (true≢false (sym yes ∙ is)), λ may. absurd (never net event cause may refused))

-- the event may be done, and its machine is below a cycle
abbrev pub MayBelow : ℕ → Network → Event → Type 0
MayBelow cycle net event = Ready net event × (cycle_of net event < cycle)

module _ (net : Network) (wired : IsWired (frame_of net)) where
  -- the machine of an event that may be done has cycles left
  pub has-left : (event : Event) → Ready net event → cycle_of net event < net.end
  has-left (Latch c) ready = (latch-can net c ready).can.1
  has-left (Fire c) ready = (fire-can net wired c ready).can.1
  has-left (Serve m p) ready = (serve-can net wired m p ready).below
  has-left (Finish m) ready = (finish-can net wired m ready).below

  module _ (cycle : ℕ) where
    -- what may be done below a cycle, may be below the lower one of it and the end
    pub may-capped : (capped : ℕ) (event : Event) → (cycle_of net event < cycle → cycle_of net event < net.end → cycle_of net event < capped) → Ready net event → cycle_of net event < cycle → MayBelow capped net event
    may-capped capped event both ready below = (ready, both below (has-left event ready))

    module _ (capped : cycle ≤ net.end) (c : ℕ) (w : Wire) (x : Machine) (is : w ≡ wire_at net.wires c) where
      -- ---- `Latch`

      pub latch-below : (count : ℕ) → c < length net.wires → x ≡ machine_at net.machines w.consumer → Wants cycle x w.place → count ≡ length (queue_at net.queues c) → nat_lt 0 count ≡ true → MayBelow cycle net (Latch c)
      latch-below count known at wants counted some =
          let own : Wants cycle (consumer_of net c) (wire_at net.wires c).place =
          subst (λ (v : Wire). Wants cycle (machine_at net.machines v.consumer) v.place) is (subst (λ (y : Machine). Wants cycle y w.place) at wants) in
          let below : (consumer_of net c).cycle < cycle = own.below in
          let held : 0 < count = ltb-true 0 count some in
          (can-latch net c (record { can = (known, omega (arith, below, capped)); empty = own.empty; held = omega (arith, held, counted) }), below)

      pub below-latch : (count : ℕ) → x ≡ machine_at net.machines w.consumer → count ≡ length (queue_at net.queues c) → MayBelow cycle net (Latch c) → Wants cycle x w.place × (nat_lt 0 count ≡ true)
      below-latch count at counted may =
          let can : CanLatch net c = latch-can net c may.0 in
          let own : Wants cycle (consumer_of net c) (wire_at net.wires c).place = record { below = may.1; empty = can.empty } in (
            subst (λ (y : Machine). Wants cycle y w.place) (sym at) (subst (λ (v : Wire). Wants cycle (machine_at net.machines v.consumer) v.place) (sym is) own),
            lt-ltb 0 count (omega (arith, can.held, counted)),
          )

      -- ---- `Fire`

      pub fire-below : (count : ℕ) → c < length net.wires → x ≡ machine_at net.machines w.producer → Gives cycle x w.out → count ≡ length (queue_at net.queues c) → nat_lt count w.capacity ≡ true → MayBelow cycle net (Fire c)
      fire-below count known at gives counted room =
          let own : Gives cycle (producer_of net c) (wire_at net.wires c).out =
          subst (λ (v : Wire). Gives cycle (machine_at net.machines v.producer) v.out) is (subst (λ (y : Machine). Gives cycle y w.out) at gives) in
          let below : (producer_of net c).cycle < cycle = own.below in
          let less : count < w.capacity = ltb-true count w.capacity room in (
            can-fire net wired c (record {
              can = (known, omega (arith, below, capped));
              clear = own.clear;
              needed = own.needed;
              room = subst (λ (v : Wire). length (queue_at net.queues c) < v.capacity) is (omega (arith, counted, less));
            }),
            below,
          )

      pub below-fire : (count : ℕ) → x ≡ machine_at net.machines w.producer → count ≡ length (queue_at net.queues c) → MayBelow cycle net (Fire c) → Gives cycle x w.out × (nat_lt count w.capacity ≡ true)
      below-fire count at counted may =
          let can : CanFire net c = fire-can net wired c may.0 in
          let own : Gives cycle (producer_of net c) (wire_at net.wires c).out = record { below = may.1; clear = can.clear; needed = can.needed } in
          let room : length (queue_at net.queues c) < w.capacity = subst (λ (v : Wire). length (queue_at net.queues c) < v.capacity) (sym is) can.room in (
            subst (λ (y : Machine). Gives cycle y w.out) (sym at) (subst (λ (v : Wire). Gives cycle (machine_at net.machines v.producer) v.out) (sym is) own),
            lt-ltb count w.capacity (omega (arith, room, counted)),
          )

    -- ---- `Finish`

    module _ (capped : cycle ≤ net.end) (m : ℕ) (x : Machine) where
      pub finish-below : m < length net.machines → x ≡ machine_at net.machines m → x.cycle < cycle → due x ≡ None → AllFired x → AllLatched x → MayBelow cycle net (Finish m)
      finish-below there at below served fired latched =
          let own : (machine_at net.machines m).cycle < cycle = subst (λ (y : Machine). y.cycle < cycle) at below in (
            can-finish net wired m (record {
              there = there;
              below = omega (arith, own, capped);
              fired = subst AllFired at fired;
              served = ap due (sym at) ∙ served;
              latched = subst AllLatched at latched;
            }),
            own,
          )

      pub below-finish : x ≡ machine_at net.machines m → MayBelow cycle net (Finish m) → (x.cycle < cycle) × (due x ≡ None) × AllFired x × AllLatched x
      below-finish at may =
          let can : CanFinish net m = finish-can net wired m may.0 in (
            subst (λ (y : Machine). y.cycle < cycle) (sym at) may.1,
            ap due at ∙ can.served,
            subst AllFired (sym at) can.fired,
            subst AllLatched (sym at) can.latched,
          )
