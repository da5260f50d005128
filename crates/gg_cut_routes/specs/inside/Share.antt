-- What a machine of a plan has, by the routed channels.
-- Source: MEMOCODE 2009 (the nodes of a network, with the channels that each takes and gives); ICCAD 2019 (instances
-- and memories of a target as models of their own).
use Rattle.std.specs.Prelude.{◌≡◌, ◌↔◌, ◌⊎◌, ℕ, ◌<◌, List, Bool, not, ◌&&◌, ◌==◌, map, filter, Contains, AllPairs}
use Rattle.std.specs.List.{list_any}
use Rattle.gg_order.specs.Design.{Ordered}
use Rattle.gg_order.specs.Marks.{is_marked}
use Rattle.gg_flat.specs.inside.InOrder.{IsAlong}
use Rattle.gg_part.specs.inside.Choice.{IsChoice}
use Rattle.gg_cut_plan.specs.declared.listed.Listed.{Listed}
use Rattle.gg_cut_plan.specs.declared.wires.Wire.{Wire}
use Rattle.gg_cut_plan.specs.Machines.{first_source}
use Rattle.gg_cut_plan.specs.Direct.{Hub, routes}
use Rattle.gg_cut_plan.specs.Plan.{channels_to, channels_from, signals_of, givens_of, MakesBy, Takes, HasMemory}

-- What machine m has: the channels that it takes and the channels that it gives, in order; exactly the signals that it makes or takes, along the
-- order of evaluation; and exactly the memories that belong to it, ascending. If m is the hub, a unit or a memory, these make a part.
pub record IsPlanShare (design : Ordered) (listed : Listed) (hub : Hub) (m : ℕ) (ins outs globals memories : List ℕ) : Type 0 where
  pub takes : ins ≡ channels_to (routes hub) m
  pub gives : outs ≡ channels_from (routes hub) m
  pub signals : (s : ℕ) → Contains globals s ↔ (MakesBy hub m s ⊎ Takes (routes hub) m s)
  pub along : IsAlong design.order globals
  pub banks : (k : ℕ) → Contains memories k ↔ HasMemory design.tree listed m k
  pub ascend : AllPairs (λ a b. a < b) memories
  pub choice : m < first_source listed → IsChoice design.circuit globals (signals_of (routes hub) ins) (givens_of (routes hub) outs) memories

-- ---- what stays of the hub's signals

-- the hub is at no end of the channel
abbrev pub is_past_hub : Wire → Bool
is_past_hub w = not (w.producer == 0) && not (w.consumer == 0)

-- the signals of the channels that pass the hub
abbrev pub past_hub : List Wire → List ℕ
past_hub wires = map (λ w. w.signal) (filter is_past_hub wires)

-- A signal that the hub had stays: it isn't marked as gone, and its channel doesn't pass the hub.
abbrev pub stays_by : List Wire → List Bool → ℕ → Bool
stays_by wires gone s = not (is_marked gone s) && not (list_any (λ t. s == t) (past_hub wires))
