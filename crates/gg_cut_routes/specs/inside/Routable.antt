-- What the channels of a cut are routed from.
-- Source: ICCAD 2019 (instances that are marked lie apart, each a model of its own).
use Rattle.std.specs.Prelude.{◌≡◌, ◌≢◌, ◌↔◌, ◌⊎◌, ℕ, ◌<◌, List, Bool, length, Contains, All, AllPairs}
use Rattle.gg_flat.specs.Circuit.{FlatCircuit}
use Rattle.gg_flat.specs.WellFormed.{IsWellFormed}
use Rattle.gg_flat_tree.specs.Tree.{InstanceTree, IsTree}
use Rattle.gg_flat_tree.specs.Scoped.{IsScoped}
use Rattle.gg_flat.specs.Order.{IsOrder}
use Rattle.gg_part.specs.inside.Choice.{IsChoice}
use Rattle.gg_partfile.specs.declared.request.BridgeEntry.{BridgeEntry}
use Rattle.gg_cut_plan.specs.Ports.{ports_of, machine_end}
use Rattle.gg_cut_plan.specs.declared.listed.Listed.{Listed}
use Rattle.gg_cut_plan.specs.declared.wires.Wire.{Wire}
use Rattle.gg_cut_plan.specs.Channels.{wires_of}
use Rattle.gg_cut_plan.specs.Plan.{channels_to, channels_from, signals_of, givens_of, Takes, HasMemory}
use Rattle.gg_cut_plan.specs.inside.Plan.{Makes}
use Rattle.gg_order.specs.Marks.{is_marked}
use Rattle.gg_cut_split.specs.inside.Apart.{AreApart, AreEnds}
use Rattle.gg_cut_plan.specs.Direct.{Hub, routes, is_gone}

-- A circuit that is well formed, with its tree and an order; units that lie apart; the channels before; and the signals and the
-- memories that the hub has, which make a part.
pub record CanRoute (circuit : FlatCircuit) (tree : InstanceTree) (order : List ℕ) (listed : Listed) (entries : List BridgeEntry) (wires : List Wire) (globals memories : List ℕ) : Type 0 where
  pub formed : IsWellFormed circuit
  pub fitting : IsTree circuit tree
  pub scoped : IsScoped circuit tree
  pub ordered : IsOrder circuit order
  pub apart : AreApart tree listed
  pub base : wires ≡ wires_of circuit tree listed entries
  -- no two channels carry one signal
  pub once : AllPairs (λ v w. v.signal ≢ w.signal) (wires_of circuit tree listed entries)
  -- machines of the cut are at the ends of each channel
  pub ends : All (AreEnds (machine_end (ports_of circuit tree listed entries))) (wires_of circuit tree listed entries)
  -- the hub's signals are just the signals that it makes or takes
  pub signals : (s : ℕ) → Contains globals s ↔ (Makes circuit tree listed (wires_of circuit tree listed entries) 0 s ⊎ Takes (wires_of circuit tree listed entries) 0 s)
  pub banks : (k : ℕ) → Contains memories k ↔ HasMemory tree listed 0 k
  -- they make a part; it gets what the hub's in-channels carry, and gives what its out-channels carry
  pub choice : IsChoice circuit globals (signals_of (wires_of circuit tree listed entries) (channels_to (wires_of circuit tree listed entries) 0)) (givens_of (wires_of circuit tree listed entries) (channels_from (wires_of circuit tree listed entries) 0)) memories

-- the marks are on the signals that leave the plan, and on no other signals of the circuit
abbrev pub MarksGone : Hub → List Bool → Type 0
MarksGone hub gone = (s : ℕ) → s < length hub.circuit.signals → is_marked gone s ≡ is_gone hub s

-- the channels that are left, and marks on the signals that leave
pub record IsRouting (hub : Hub) (left : List Wire) (gone : List Bool) : Type 0 where
  pub channels : left ≡ routes hub
  pub leaves : MarksGone hub gone
