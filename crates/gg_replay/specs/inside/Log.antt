-- The log of a network: for each channel the tokens that have entered it so far.
-- Source: MEMOCODE 2009 (the k-th token of each queue is the signal's value in cycle k).
use Rattle.std.specs.Prelude.{◌≡◌, ℕ, ◌<◌, List, [], Option, take, length, map, slice_index_or}
use Rattle.gg_flat.specs.Streams.{Flow}
use Rattle.gg_node.specs.Machine.{Machine, machine_at}
use Rattle.gg_net.specs.declared.event.Event.{Event}
use Rattle.gg_net.specs.declared.shape.Wire.{Wire}
use Rattle.gg_net.specs.Network.{Network, entered, opening_queue}
use Rattle.gg_net.specs.Kept.{Kept, list_at}
use Rattle.gg_net.specs.inside.Net.{IsOpening}
use Rattle.gg_net.specs.Net.{opening_net}
use Rattle.gg_net.specs.markings.Steps.{IsStep}

-- these machines are before their first step, as the flow has them
abbrev pub AreOpening : Flow → List Machine → Type 0
AreOpening flow machines = (m : ℕ) → m < length machines → IsOpening flow m (machine_at machines m)

-- the log of these channels before the first cycle: for each the token that it opens with, if there is one
abbrev pub opening_log : List Wire → List (List ℕ)
opening_log wires = map (λ wire. opening_queue wire.first) wires

-- the tokens of the channel with a number; none past the end
abbrev pub tokens_at : List (List ℕ) → ℕ → List ℕ
tokens_at log c = slice_index_or log c []

-- The log has for each channel the values of its list that have entered it.
pub record AreFronts (flow : Flow) (net : Network) (log : List (List ℕ)) : Type 0 where
  pub count : length log ≡ length net.wires
  pub each : (c : ℕ) → c < length net.wires → tokens_at log c ≡ take (entered net c) (list_at flow.lists c)

-- The log is one step late: it is the log of the network before this step.
pub record IsBehind (flow : Flow) (step : Option Event) (net : Network) (log : List (List ℕ)) : Type 0 where
  pub before : Network
  pub kept : Kept flow before
  pub done : IsStep before step net
  pub fronts : AreFronts flow before log

-- the opening log of these channels is right for the network of these machines before its first step
abbrev pub OpensWithFronts : Flow → List Machine → List Wire → (end : ℕ) → Type 0
OpensWithFronts flow machines wires end =
    Kept flow (opening_net machines wires end) → AreOpening flow machines
    → AreFronts flow (opening_net machines wires end) (opening_log wires)
