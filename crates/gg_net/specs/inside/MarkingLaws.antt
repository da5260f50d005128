-- Laws: a network agrees with its marking, also after steps.
-- Source: MEMOCODE 2009 (the k-th token of each queue is the signal's value in cycle k, so that a network's state
-- follows from counts).
use Rattle.std.specs.Prelude.{◌≡◌, ℕ, suc, ◌-◌, ◌<◌, ◌++◌, List, [], ◌∷◌, Option, Ok, Err, length, take}
use Rattle.gg_flat.specs.Line.{value_at}
use Rattle.gg_flat.specs.Streams.{Flow}
use Rattle.gg_node.specs.Machine.{Machine, machine_at}
use Rattle.gg_net.specs.declared.shape.Wire.{Wire}
use Rattle.gg_net.specs.declared.event.Event.{Event}
use Rattle.gg_net.specs.declared.event.Event.TheVariants.{Fire}
use Rattle.gg_net.specs.Network.{Network, wire_at, queue_at, frame_of, entered}
use Rattle.gg_net.specs.Network as network
use Rattle.gg_net.specs.Kept.{Kept, list_at}
use Rattle.gg_net.specs.inside.Net.{IsOpening}
use Rattle.gg_net.specs.Net.{opening_net}
use Rattle.gg_net.specs.Refusal as table
use Rattle.gg_net.specs.Step.{facts_of, Step}
use Rattle.gg_net.specs.markings.Marking.{Layout, opening_marking, marked_refusal}
use Rattle.gg_net.specs.markings.Goes.{Stopped, replayed_from}
use Rattle.gg_net.specs.inside.Fits.{HasLayout, marking_of}
use Rattle.gg_net.specs.markings.Steps.{IsStep, Steps, StopsAt}

-- An event of a network is refused just as its marking refuses it: for the same cause, or not at all.
abbrev pub RefusalsAreMarked : Type 0
RefusalsAreMarked =
    (flow : Flow) (net : Network) (layout : Layout) (event : Event)
    -- The network is kept and has this layout.
    → Kept flow net → HasLayout (frame_of net) layout
    -- The table returns the same for the network and its marking.
    → table.refusal (facts_of net) event ≡ marked_refusal layout (marking_of net) event

-- Before the first cycle the marking is the opening marking.
abbrev pub OpensMarked : Type 0
OpensMarked =
    (flow : Flow) (machines : List Machine) (wires : List Wire) (end : ℕ) (layout : Layout)
    -- Each machine is as it is before its first cycle.
    → ((m : ℕ) → m < length machines → IsOpening flow m (machine_at machines m))
    -- The network of these machines and channels has this layout.
    → HasLayout (frame_of (opening_net machines wires end)) layout
    -- Its marking is the opening marking at the flow's first cycle.
    → marking_of (opening_net machines wires end) ≡ opening_marking layout flow.begin

-- Before the first cycle no token was put since the network began.
abbrev pub OpensWithNonePut : Type 0
OpensWithNonePut =
    (flow : Flow) (machines : List Machine) (wires : List Wire) (end c : ℕ)
    -- Each machine is as it is before its first cycle.
    → ((m : ℕ) → m < length machines → IsOpening flow m (machine_at machines m))
    -- The producer of channel c is one of them.
    → (wire_at wires c).producer < length machines
    -- The number of tokens put into the channel is the number of cycles before the beginning.
    → network.puts (opening_net machines wires end) c ≡ flow.begin

-- The newest token of a queue is the last of the channel's values that have entered.
abbrev pub NewestIsLastEntered : Type 0
NewestIsLastEntered =
    (flow : Flow) (net : Network) (c : ℕ)
    -- The network is kept, and the queue of channel c has a token.
    → Kept flow net → c < length net.wires → 0 < length (queue_at net.queues c)
    -- The last token of the queue is the last of the values of the channel's list that have entered.
    → value_at (queue_at net.queues c) (length (queue_at net.queues c) - 1) ≡ value_at (list_at flow.lists c) (entered net c - 1)

-- A token that is put is the next value of its channel's list.
abbrev pub PutsTheNext : Type 0
PutsTheNext =
    (flow : Flow) (old new : Network) (c : ℕ)
    -- The network is kept, and channel c is fired.
    → Kept flow old → Step old (Fire c) new
    -- The values that have entered are the earlier ones, and then the newest token of the queue.
    → take (entered new c) (list_at flow.lists c)
    ≡ take (entered old c) (list_at flow.lists c) ++ value_at (queue_at new.queues c) (length (queue_at new.queues c) - 1) ∷ []

-- Steps that are done lead to the marking that their replay leads to.
abbrev pub StepsAreReplayed : Type 0
StepsAreReplayed =
    (flow : Flow) (old new : Network) (layout : Layout) (k : ℕ) (events : List (Option Event))
    -- The network is kept and has this layout.
    → Kept flow old → HasLayout (frame_of old) layout
    -- These steps lead to another network.
    → Steps old events new
    -- Replayed from the marking of the first network, they lead to the marking of the other.
    → replayed_from layout k (marking_of old) events ≡ Ok (marking_of new)

-- Steps that stop are replayed up to the same step, and stop for the same cause.
abbrev pub StopsAreReplayed : Type 0
StopsAreReplayed =
    (flow : Flow) (old new : Network) (layout : Layout) (k : ℕ) (events : List (Option Event)) (stopped : Stopped)
    -- The network is kept and has this layout.
    → Kept flow old → HasLayout (frame_of old) layout
    -- The steps stop at this step, for this cause.
    → StopsAt k old events new stopped
    -- Replayed from the marking, they stop at the same step for the same cause.
    → replayed_from layout k (marking_of old) events ≡ Err stopped

-- After a step that is done the replay goes on with the rest.
abbrev pub ReplayGoesOn : Type 0
ReplayGoesOn =
    (flow : Flow) (old new : Network) (layout : Layout) (k : ℕ) (event : Option Event) (events : List (Option Event))
    -- The network is kept and has this layout.
    → Kept flow old → HasLayout (frame_of old) layout
    -- The step leads to another network.
    → IsStep old event new
    -- Replaying the step and the rest from the first marking comes to the same as replaying the rest from the second.
    → replayed_from layout k (marking_of old) (event ∷ events) ≡ replayed_from layout (suc k) (marking_of new) events
