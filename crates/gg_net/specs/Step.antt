-- The steps of a network: when each may be done, how it changes the network, and why it is refused.
-- Source: MEMOCODE 2009 (a node takes a token from each input queue once in a cycle, gives one to each output queue as
-- soon as what it depends on is there and the queue has room, and then finishes the cycle); ICCAD 2019 for memories
-- that are served port by port.
use Rattle.std.specs.Prelude.{◌≡◌, ℕ, zero, suc, ◌++◌, ◌==◌, ◌&&◌, if◌then◌else◌, List, [], ◌∷◌, Option, Some, None, Bool, is_some, length, map, drop, slice_set, slice_get, nat_lt}
use Rattle.gg_flat.specs.Line.{value_at}
use Rattle.gg_flat.specs.State.{State}
use Rattle.gg_node.specs.Machine.{Port, Machine, machine_at, latch_at, flag_at, needs_at}
use Rattle.gg_node.specs.Token.{IsToken, IsNextState}
use Rattle.gg_node.specs.Step.{with_latch, with_flag, with_served, finished, fields_of}
use Rattle.gg_net.specs.declared.event.Event.{Event}
use Rattle.gg_net.specs.declared.event.Event.TheVariants.{Latch, Fire, Serve, Finish}
use Rattle.gg_net.specs.declared.event.StepRefusal.{StepRefusal}
use Rattle.gg_net.specs.declared.shape.Wire.{Wire}
use Rattle.gg_net.specs.Network.{Network, wire_at, queue_at, producer_of, consumer_of}
use Rattle.gg_net.specs.Refusal.{Turn, Facts, refusal}

-- ---- the facts of a network

-- the latch of a channel's consumer
abbrev pub latch_of : Network → ℕ → Option ℕ
latch_of net c = latch_at (consumer_of net c).latches (wire_at net.wires c).place

-- the flag of a channel's producer
abbrev pub flag_of : Network → ℕ → Bool
flag_of net c = flag_at (producer_of net c).flags (wire_at net.wires c).out

-- the last number below n that passes a test; 0 if there is none
abbrev pub last_below : (ℕ → Bool) → ℕ → ℕ
last_below test zero = 0
last_below test (suc n) = if test n then n else last_below test n

-- the channel at in i of machine m
abbrev pub channel_into : List Wire → ℕ → ℕ → ℕ
channel_into wires m i = last_below (λ c. (wire_at wires c).consumer == m && (wire_at wires c).place == i) (length wires)

-- the channels at these ins of machine m
abbrev pub channels_at : List Wire → ℕ → List ℕ → List ℕ
channels_at wires m places = map (channel_into wires m) places

-- a port of machine m with the channels of its fields
abbrev pub turn_of : List Wire → ℕ → Port → Turn
turn_of wires m port = record { number = port.number; fields = channels_at wires m (fields_of port.access) }

-- `turn_of` the port, if there is one
abbrev pub turn_if : List Wire → ℕ → Option Port → Option Turn
turn_if wires m None = None
turn_if wires m (Some port) = Some (turn_of wires m port)

-- the facts that decide the steps of a network
abbrev pub facts_of : Network → Facts
facts_of net =
    record {
      channels = length net.wires;
      machines = length net.machines;
      ports = λ m. (machine_at net.machines m).port_count;
      producer = λ c. (wire_at net.wires c).producer;
      consumer = λ c. (wire_at net.wires c).consumer;
      needs = λ c. channels_at net.wires (wire_at net.wires c).producer (needs_at (producer_of net c).needs (wire_at net.wires c).out);
      capacity = λ c. (wire_at net.wires c).capacity;
      below = λ m. nat_lt (machine_at net.machines m).cycle net.end;
      due = λ m. turn_if net.wires m (slice_get (machine_at net.machines m).ports (machine_at net.machines m).served);
      taken = λ c. is_some (latch_of net c);
      given = λ c. flag_of net c;
      held = λ c. length (queue_at net.queues c);
    }

-- an event may be done
abbrev pub Ready : Network → Event → Type 0
Ready net event = refusal (facts_of net) event ≡ None

-- an event is refused for this cause: the first of its conditions that fails
abbrev pub Refused : Network → Event → StepRefusal → Type 0
Refused net event cause = refusal (facts_of net) event ≡ Some cause

-- ---- how each changes the network

-- the network with another machine at place m
abbrev pub with_machine : Network → ℕ → Machine → Network
with_machine net m machine = record net { machines = slice_set net.machines m machine }

-- the token at the front of a channel's queue
abbrev pub front_of : Network → ℕ → ℕ
front_of net c = value_at (queue_at net.queues c) 0

-- the network after the front token of a channel was put into the latch
abbrev pub after_latch : Network → ℕ → Network
after_latch net c =
    record net {
      machines = slice_set net.machines (wire_at net.wires c).consumer (with_latch (consumer_of net c) (wire_at net.wires c).place (front_of net c));
      queues = slice_set net.queues c (drop 1 (queue_at net.queues c));
    }

-- the network after a channel's token was given
abbrev pub after_fire : Network → ℕ → ℕ → Network
after_fire net c token =
    record net {
      machines = slice_set net.machines (wire_at net.wires c).producer (with_flag (producer_of net c) (wire_at net.wires c).out);
      queues = slice_set net.queues c (queue_at net.queues c ++ token ∷ []);
    }

-- the network after a machine did one more access
abbrev pub after_serve : Network → ℕ → Network
after_serve net m = with_machine net m (with_served (machine_at net.machines m))

-- the network after a machine finished its cycle, now in this state
abbrev pub after_finish : Network → ℕ → State → Network
after_finish net m next = with_machine net m (finished (machine_at net.machines m) next)

-- ---- steps

-- The token of a channel was given: the token of its producer's out.
pub record Gives (old : Network) (c : ℕ) (new : Network) : Type 0 where
  pub token : ℕ
  pub is : IsToken (producer_of old c) (wire_at old.wires c).out token
  pub after : new ≡ after_fire old c token

-- A machine advanced to its next state.
pub record GoesOn (old : Network) (m : ℕ) (new : Network) : Type 0 where
  pub state : State
  pub is : IsNextState (machine_at old.machines m) state
  pub after : new ≡ after_finish old m state

-- how an event changes a network
abbrev pub After : Network → Event → Network → Type 0
After old (Latch c) new = new ≡ after_latch old c
After old (Fire c) new = Gives old c new
After old (Serve m p) new = new ≡ after_serve old m
After old (Finish m) new = GoesOn old m new

-- A step of a network: the event may be done, and this is the network after it.
pub record Step (old : Network) (event : Event) (new : Network) : Type 0 where
  pub ready : Ready old event
  pub after : After old event new
