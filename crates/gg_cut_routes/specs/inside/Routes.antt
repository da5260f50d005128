-- What the routed channels of a cut are good for.
-- Source: MEMOCODE 2009 (the nodes of a network, and the channels between them); ICCAD 2019 (units and memories of a target as
-- models of their own, with sources for its inputs and sinks for its outputs).
use Rattle.std.specs.Prelude.{◌≡◌, ◌≢◌, ◌↔◌, ◌⊎◌, ℕ, ◌+◌, ◌<◌, List, length, Contains, All, AllPairs, Some, None}
use Rattle.gg_flat.specs.Line.{value_at}
use Rattle.gg_order.specs.Design.{Ordered}
use Rattle.gg_part.specs.inside.Choice.{IsChoice}
use Rattle.gg_partfile.specs.declared.request.BridgeEntry.{BridgeEntry}
use Rattle.gg_cut_plan.specs.declared.listed.Listed.{Listed}
use Rattle.gg_cut_plan.specs.declared.wires.Wire.{Wire}
use Rattle.gg_cut_plan.specs.Machines.{first_source}
use Rattle.gg_cut_plan.specs.Ports.{Bridges, first_bridge, giver_of, keeper_of, machine_end, ports_of}
use Rattle.gg_flat.specs.Circuit.{FlatCircuit}
use Rattle.gg_cut_plan.specs.Plan.{channels_to, channels_from, signals_of, givens_of, MakesBy, Takes, HasMemory}
use Rattle.gg_cut_plan.specs.Direct.{Hub, routes}
use Rattle.gg_cut_plan.specs.inside.Direct.{IsSame}

-- A source takes nothing, and gives its input on at least one channel.
pub record GivesInput (wires : List Wire) (m input : ℕ) : Type 0 where
  pub none : (s : ℕ) → ¬ Contains (signals_of wires (channels_to wires m)) s
  pub one : Contains (givens_of wires (channels_from wires m)) input
  pub all : (s : ℕ) → Contains (givens_of wires (channels_from wires m)) s → s ≡ input

-- A tray gives nothing, and takes one channel.
pub record TakesOutput (wires : List Wire) (m output : ℕ) : Type 0 where
  pub none : (s : ℕ) → ¬ Contains (givens_of wires (channels_from wires m)) s
  pub one : Contains (signals_of wires (channels_to wires m)) output
  pub all : (s : ℕ) → Contains (signals_of wires (channels_to wires m)) s → s ≡ output

-- Bridge k takes just the outputs that it sees, gives just the inputs that it drives, and no channel that it gives is routed.
pub record IsAtPorts (circuit : FlatCircuit) (b : Bridges) (wires : List Wire) (k : ℕ) : Type 0 where
  pub takes : (s : ℕ) → Contains (signals_of wires (channels_to wires (first_bridge b + k))) s ↔ ((p : ℕ) × (p < b.outs) × (b.viewer p ≡ Some k) × (value_at circuit.outs p ≡ s))
  pub gives : (s : ℕ) → Contains (givens_of wires (channels_from wires (first_bridge b + k))) s ↔ ((p : ℕ) × (p < b.ins) × (b.driver p ≡ Some k) × (value_at circuit.ins p ≡ s))
  pub plain : (w : Wire) → Contains wires w → w.producer ≡ first_bridge b + k → w.given ≡ w.signal

-- The routed channels of a cut: no two carry one signal, which is known; each is between two machines of the cut; what a machine gives it doesn't
-- take; both signals of a channel have one value; what the hub, a unit or a memory makes and takes, with the memories that belong to
-- it, makes a part; each source gives its input, each tray takes its output, and each bridge is at its ports.
pub record AreRoutes (design : Ordered) (listed : Listed) (entries : List BridgeEntry) (hub : Hub) : Type 0 where
  pub once : AllPairs (λ r s. r.signal ≢ s.signal) (routes hub)
  pub known : All (λ r. r.signal < length design.circuit.signals) (routes hub)
  pub ends : All (λ r. (r.producer < machine_end (ports_of design.circuit design.tree listed entries)) × (r.consumer < machine_end (ports_of design.circuit design.tree listed entries))) (routes hub)
  pub no_echo : (r s : Wire) → Contains (routes hub) r → Contains (routes hub) s → r.producer ≡ s.consumer → r.given ≢ s.signal
  pub same : All (IsSame design.circuit) (routes hub)
  pub choice : (m : ℕ) (globals memories : List ℕ) → m < first_source listed → ((s : ℕ) → Contains globals s ↔ (MakesBy hub m s ⊎ Takes (routes hub) m s)) → AllPairs (λ a b. a ≢ b) globals → ((k : ℕ) → Contains memories k ↔ HasMemory design.tree listed m k) → AllPairs (λ a b. a ≢ b) memories
      → IsChoice design.circuit globals (signals_of (routes hub) (channels_to (routes hub) m)) (givens_of (routes hub) (channels_from (routes hub) m)) memories
  pub sources : (p : ℕ) → p < length design.circuit.ins → (ports_of design.circuit design.tree listed entries).driver p ≡ None
      → GivesInput (routes hub) (giver_of (ports_of design.circuit design.tree listed entries) p) (value_at design.circuit.ins p)
  pub trays : (p : ℕ) → p < length design.circuit.outs → (ports_of design.circuit design.tree listed entries).viewer p ≡ None
      → TakesOutput (routes hub) (keeper_of (ports_of design.circuit design.tree listed entries) p) (value_at design.circuit.outs p)
  pub bridges : (k : ℕ) → k < length entries → IsAtPorts design.circuit (ports_of design.circuit design.tree listed entries) (routes hub) k
