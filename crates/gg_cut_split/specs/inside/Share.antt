-- What a machine of a cut has.
-- Source: MEMOCODE 2009 (the nodes of a network, with the channels that each takes and gives); ICCAD 2019 (instances
-- and memories of a target as models of their own).
use Rattle.std.specs.Prelude.{◌≡◌, ◌↔◌, ◌⊎◌, ℕ, ◌<◌, List, Contains, AllPairs}
use Rattle.gg_order.specs.Design.{Ordered}
use Rattle.gg_flat.specs.inside.InOrder.{IsAlong}
use Rattle.gg_part.specs.inside.Choice.{IsChoice}
use Rattle.gg_cut_plan.specs.declared.listed.Listed.{Listed}
use Rattle.gg_cut_plan.specs.declared.wires.Wire.{Wire}
use Rattle.gg_cut_plan.specs.Machines.{first_source}
use Rattle.gg_cut_plan.specs.Plan.{channels_to, channels_from, signals_of, givens_of, Takes, HasMemory}
use Rattle.gg_cut_plan.specs.inside.Plan.{Makes}

-- What machine m has: the channels that it takes and the channels that it gives, in order; exactly the signals that it makes or takes, along the
-- order of evaluation; and exactly the memories that belong to it, ascending. If m is the hub, a unit or a memory, these make a part.
pub record IsShareOf (design : Ordered) (listed : Listed) (wires : List Wire) (m : ℕ) (ins outs globals memories : List ℕ) : Type 0 where
  pub takes : ins ≡ channels_to wires m
  pub gives : outs ≡ channels_from wires m
  pub signals : (s : ℕ) → Contains globals s ↔ (Makes design.circuit design.tree listed wires m s ⊎ Takes wires m s)
  pub along : IsAlong design.order globals
  pub banks : (k : ℕ) → Contains memories k ↔ HasMemory design.tree listed m k
  pub ascend : AllPairs (λ a b. a < b) memories
  pub choice : m < first_source listed → IsChoice design.circuit globals (signals_of wires ins) (givens_of wires outs) memories
