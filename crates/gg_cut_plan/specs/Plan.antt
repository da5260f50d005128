-- The plan of a cut: its machines with their pieces, its channels, and what each channel needs.
-- Source: MEMOCODE 2009 (a network of machines that are latency-insensitive: an output depends only on the inputs
-- that it is computed from); ICCAD 2019 (instances and memories of a target as models of their own).
use Rattle.std.specs.Prelude.{◌≡◌, ◌≢◌, ◌↔◌, ◌⊎◌, ℕ, ◌<◌, ◌≤◌, ◌+◌, ◌-◌, ◌^◌, List, [], ◌∷◌, Bool, Option, Some, unwrap_or, false, ◌++◌, ◌==◌, length, map, drop, filter, codes, slice_index_or, Contains, AllPairs}
use Rattle.std.specs.List.{range_with_len}
use Rattle.gg_bits.specs.Shape.{shape}
use Rattle.gg_flat.specs.Line.{value_at, shape_at}
use Rattle.gg_flat.specs.Circuit.{signal_shapes}
use Rattle.gg_flat_tree.specs.Clocked.{top_clocks}
use Rattle.gg_flat_tree.specs.Tree.{InstanceTree, path_at, memory_at}
use Rattle.gg_order.specs.Design.{Ordered}
use Rattle.gg_flat.specs.Reads.{Reaches}
use Rattle.gg_part.specs.Part.{IsPart}
use Rattle.gg_part.specs.Building.{AreHeld}
use Rattle.gg_flat.specs.InOrder.{IsInOrder}
use Rattle.gg_part.specs.declared.part.Part.{Part}
use Rattle.gg_partfile.specs.declared.request.BridgeEntry.{BridgeEntry}
use Rattle.gg_partfile.specs.declared.request.Request.{Request}
use Rattle.gg_cut_plan.specs.declared.plan.Body.{Body}
use Rattle.gg_cut_plan.specs.declared.plan.Body.TheVariants.{Cut, Memory, Source, Tray, Bridge}
use Rattle.gg_cut_plan.specs.declared.plan.BridgeBody.{BridgeBody}
use Rattle.gg_cut_plan.specs.declared.plan.Machine.{Machine}
use Rattle.gg_cut_plan.specs.declared.plan.Channel.{Channel}
use Rattle.gg_cut_plan.specs.declared.plan.Plan.{Plan}
use Rattle.gg_cut_plan.specs.declared.listed.Listed.{Listed}
use Rattle.gg_cut_plan.specs.Listed.{listed_of, memory_owner, place_of}
use Rattle.gg_cut_plan.specs.declared.wires.Wire.{Wire}
use Rattle.gg_cut_plan.specs.Machines.{first_memory, first_source}
use Rattle.gg_cut_plan.specs.Channels.{wire, capacity_of}
use Rattle.gg_cut_plan.specs.Clocks.{ratios_of}
use Rattle.gg_cut_plan.specs.Direct.{Hub, routes, is_gone, is_piped, plan_hub, plan_wires}
use Rattle.gg_cut_plan.specs.Bridges.{Models, model_named}
use Rattle.gg_cut_plan.specs.Ports.{first_bridge, first_kept_tray, machine_end, open_ins, open_outs, output_count, plan_bridges}
use Rattle.gg_cut_plan.specs.Hosts.{host_of}
use Rattle.gg_cut_plan.specs.Alike.{AreAlike}

-- ---- channels by machine

-- the channel at a place; past the end one of signal 0, from the hub to the hub
abbrev pub wire_at : List Wire → ℕ → Wire
wire_at wires c = slice_index_or wires c (wire 0 0 0)

-- the channels that a machine takes, in their order
abbrev pub channels_to : List Wire → ℕ → List ℕ
channels_to wires m = filter (λ c. (wire_at wires c).consumer == m) (range_with_len 0 (length wires))

-- the channels that a machine gives, in their order
abbrev pub channels_from : List Wire → ℕ → List ℕ
channels_from wires m = filter (λ c. (wire_at wires c).producer == m) (range_with_len 0 (length wires))

-- the signals that channels' consumers take
abbrev pub signals_of : List Wire → List ℕ → List ℕ
signals_of wires channels = map (λ c. (wire_at wires c).signal) channels

-- the signals that give the channels' values in their producers
abbrev pub givens_of : List Wire → List ℕ → List ℕ
givens_of wires channels = map (λ c. (wire_at wires c).given) channels

-- ---- a machine's piece

-- a signal that no channel carries
abbrev pub IsInner : List Wire → ℕ → Type 0
IsInner wires s = (c : ℕ) → c < length wires → ¬ ((wire_at wires c).signal ≡ s)

-- machine m gets signal s from outside: it takes the signal's channel
abbrev pub Takes : List Wire → ℕ → ℕ → Type 0
Takes wires m s = Contains (signals_of wires (channels_to wires m)) s

-- memory k of the circuit belongs to machine m
pub record HasMemory (tree : InstanceTree) (listed : Listed) (m k : ℕ) : Type 0 where
  -- the memory's place among the memories of the tree
  pub place : ℕ
  pub known : place < length tree.memories
  pub is : (memory_at tree place).memory ≡ k
  pub owner : memory_owner tree listed place ≡ m

-- Machine m of a plan gives signal s its value: it owns the signal, no channel carried it before the routing, and it stays; or it
-- gives the signal on a channel.
abbrev pub MakesBy : Hub → ℕ → ℕ → Type 0
MakesBy hub m s = ((s < length hub.circuit.signals) × (hub.owner s ≡ m) × IsInner hub.base s × (is_gone hub s ≡ false)) ⊎ Contains (givens_of (routes hub) (channels_from (routes hub) m)) s

-- the instance with the Clock inputs of a machine: a unit's own one, and the top for the hub and for the listed memories
abbrev pub clock_home : Listed → ℕ → ℕ
clock_home listed m = slice_index_or (0 ∷ listed.units) m 0

-- for each clock of a machine the clock of the circuit that it follows
abbrev pub machine_clocks : InstanceTree → Listed → ℕ → List (Option ℕ)
machine_clocks tree listed m = top_clocks tree (clock_home listed m)

-- A machine's piece: exactly the signals that it makes or takes, in an order of evaluation, exactly the registers of the signals that it doesn't
-- take, and the memories that belong to it. In the order of its channels, the signals that it takes are its in-signals, and the signals that give its
-- channels' values are its out-signals. Its clocks are the Clock inputs of a unit, or the top's.
pub record IsCutPart (design : Ordered) (listed : Listed) (hub : Hub) (m : ℕ) (part : Part) : Type 0 where
  pub is : IsPart design.circuit part.piece part.globals part.held part.memories part.clocks
  pub clocks : part.clocks ≡ machine_clocks design.tree listed m
  pub signals : (s : ℕ) → Contains part.globals s ↔ (MakesBy hub m s ⊎ Takes (routes hub) m s)
  pub ins : map (value_at part.globals) part.piece.ins ≡ signals_of (routes hub) (channels_to (routes hub) m)
  pub outs : map (value_at part.globals) part.piece.outs ≡ givens_of (routes hub) (channels_from (routes hub) m)
  pub held : AreHeld design.circuit part.globals (signals_of (routes hub) (channels_to (routes hub) m)) part.held
  pub memories : (k : ℕ) → Contains part.memories k ↔ HasMemory design.tree listed m k
  pub ordered : IsInOrder part.piece

-- the place of a port in an entry's list; 0 if it isn't there
abbrev pub port_place : List (List ℕ) → List ℕ → ℕ
port_place ports name = unwrap_or (place_of ports name) 0

-- the entry at a place; past the end one without a name and ports
abbrev pub entry_at : List BridgeEntry → ℕ → BridgeEntry
entry_at entries k = slice_index_or entries k (record { name = []; sees = []; drives = [] })

-- Machine m, which takes and gives these channels, is the bridge of entry k. It has the entry's name and its model, and for each channel
-- the place in the entry of the port that the channel is named by.
pub record IsBridgeBody (design : Ordered) (request : Request) (models : Models) (wires : List Wire) (m k : ℕ) (bridge : BridgeBody) : Type 0 where
  pub known : k < length request.bridges
  pub name : bridge.name ≡ (entry_at request.bridges k).name
  pub model : model_named models bridge.name ≡ Some bridge.model
  pub ins : bridge.ins ≡ map (λ c. port_place (entry_at request.bridges k).sees (path_at design.circuit.paths (wire_at wires c).signal)) (channels_to wires m)
  pub outs : bridge.outs ≡ map (λ c. port_place (entry_at request.bridges k).drives (path_at design.circuit.paths (wire_at wires c).signal)) (channels_from wires m)

-- What machine m of the plan is, by its number: the hub, a unit or a listed memory; the source of a top input, by its place among the
-- inputs that no bridge drives, which are the columns of the trace; a tray; or a bridge.
abbrev pub IsBody : Ordered → Request → Models → Listed → Hub → ℕ → Body → Type 0
IsBody design request models listed hub m (Cut part) = (m < first_memory listed) × IsCutPart design listed hub m part
IsBody design request models listed hub m (Memory part) = (first_memory listed ≤ m) × (m < first_source listed) × IsCutPart design listed hub m part
IsBody design request models listed hub m (Source place) = (place < length (open_ins design.circuit request)) × (m ≡ first_source listed + place)
IsBody design request models listed hub m Tray = (first_kept_tray (plan_bridges design.circuit design.tree request) ≤ m) × (m < first_bridge (plan_bridges design.circuit design.tree request))
IsBody design request models listed hub m (Bridge bridge) =
    (first_bridge (plan_bridges design.circuit design.tree request) ≤ m)
    × IsBridgeBody design request models (routes hub) m (m - first_bridge (plan_bridges design.circuit design.tree request)) bridge

-- ---- machines

-- the names of the plan's trays, in their order
abbrev pub open_tray_names : Ordered → Request → List (List ℕ)
open_tray_names design request =
    map (λ s. codes "out:" ++ path_at design.circuit.paths s) (open_outs design.circuit (output_count design) request)
    ++ map (λ s. codes "halt:" ++ path_at design.circuit.paths s) (drop (output_count design) design.circuit.outs)

-- the names of the plan's machines, in order: the hub, the units, the listed memories, the sources of inputs that no bridge drives, the
-- trays that are left, and the bridges
abbrev pub machine_names : Ordered → Request → Listed → List (List ℕ)
machine_names design request listed =
    codes "hub:" ∷ (request.units
    ++ map (path_at design.tree.memory_paths) listed.memories
    ++ map (λ s. codes "in:" ++ path_at design.circuit.paths s) (open_ins design.circuit request)
    ++ open_tray_names design request
    ++ map (λ entry. codes "bridge:" ++ entry.name) request.bridges)

-- machine m of the plan
pub record IsMachine (design : Ordered) (request : Request) (models : Models) (listed : Listed) (hub : Hub) (m : ℕ) (machine : Machine) : Type 0 where
  pub name : machine.name ≡ path_at (machine_names design request listed) m
  -- machines have one host only if one list of `share` has their units
  pub host : machine.host ≡ host_of request.units request.share m
  pub body : IsBody design request models listed hub m machine.body
  -- the channels that it takes, and the channels that it gives, in the order of the plan's channels
  pub ins : machine.ins ≡ channels_to (routes hub) m
  pub outs : machine.outs ≡ channels_from (routes hub) m

-- ---- channels

-- An out-signal of a part needs channel c: the channel is at an in-signal that the out-signal reaches by reads.
pub record IsNeed (part : Part) (channels : List ℕ) (out c : ℕ) : Type 0 where
  -- the place of the in-signal, and of its channel in `channels`
  pub place : ℕ
  pub known : place < length part.piece.ins
  pub is : value_at channels place ≡ c
  pub reached : Reaches part.piece out (value_at part.piece.ins place)

-- The needs of an out-signal of a part: exactly the channels at the in-signals that it reaches by reads.
abbrev pub AreNeedsOf : Part → List ℕ → ℕ → List ℕ → Type 0
AreNeedsOf part channels out needs = (c : ℕ) → Contains needs c ↔ IsNeed part channels out c

-- The needs of a channel that this machine gives by signal s: the needs of that out-signal. A source's channel and a bridge's need none.
abbrev pub NeedsIn : Body → List ℕ → ℕ → List ℕ → Type 0
NeedsIn (Cut part) channels s needs = (out : ℕ) → out < length part.globals → value_at part.globals out ≡ s → AreNeedsOf part channels out needs
NeedsIn (Memory part) channels s needs = (out : ℕ) → out < length part.globals → value_at part.globals out ≡ s → AreNeedsOf part channels out needs
NeedsIn (Source place) channels s needs = needs ≡ []
NeedsIn Tray channels s needs = needs ≡ []
NeedsIn (Bridge bridge) channels s needs = needs ≡ []

-- channel c of the plan; `piped` says which signals have a channel with a token in it at the start
pub record IsChannel (design : Ordered) (capacity : List ℕ → ℕ) (piped : ℕ → Bool) (machines : List Machine) (w : Wire) (channel : Channel) : Type 0 where
  pub signal : channel.signal ≡ w.signal
  pub name : channel.name ≡ path_at design.circuit.paths w.signal
  pub type : shape channel.ty ≡ shape_at (signal_shapes design.circuit) w.signal
  pub producer : channel.producer ≡ w.producer
  pub consumer : channel.consumer ≡ w.consumer
  -- the capacity that the request gives for its name, otherwise the default
  pub bound : channel.capacity ≡ capacity (path_at design.circuit.paths w.signal)
  pub pipe : channel.pipe ≡ piped w.signal
  pub ascending : AllPairs (λ a b. a < b) channel.needs
  -- the needs of the signal that gives the channel's value in its producer
  pub needs : (any : Machine) → NeedsIn (slice_index_or machines w.producer any).body (slice_index_or machines w.producer any).ins w.given channel.needs

-- ---- the plan

-- The plan of a design, a request, the models that are handed in, and the capacity of the channels that the request doesn't name. Its ratios are the
-- ratios of the circuit's clocks. Two machines have one host only if they are units with one piece. Their clocks may follow different clocks of the
-- circuit. All machines have numbers of 32 bits.
pub record IsPlan (design : Ordered) (request : Request) (models : Models) (default : ℕ) (plan : Plan) : Type 0 where
  pub listed : plan.listed ≡ listed_of design.tree request
  pub ratios : plan.ratios ≡ ratios_of design.tree request
  pub machine_total : length plan.machines ≡ machine_end (plan_bridges design.circuit design.tree request)
  pub few : length plan.machines < 2 ^ 32
  pub channel_total : length plan.channels ≡ length (plan_wires design.circuit design.tree request)
  pub machine : (m : ℕ) (any : Machine) → m < length plan.machines → IsMachine design request models (listed_of design.tree request) (plan_hub design.circuit design.tree request) m (slice_index_or plan.machines m any)
  pub channel : (c : ℕ) (any : Channel) → c < length plan.channels → IsChannel design (capacity_of request.capacity default) (is_piped design.circuit request) plan.machines (wire_at (plan_wires design.circuit design.tree request) c) (slice_index_or plan.channels c any)
  -- two machines with one host have pieces that are alike
  pub shared : (m n : ℕ) (any other : Machine) → m < length plan.machines → n < length plan.machines → m ≢ n
      → (slice_index_or plan.machines m any).host ≡ (slice_index_or plan.machines n other).host
      → AreAlike (slice_index_or plan.machines m any).body (slice_index_or plan.machines n other).body
