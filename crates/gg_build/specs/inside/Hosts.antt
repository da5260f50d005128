-- The hosts of the machines of a plan, and their stations.
-- Source: ICCAD 2019 (units and memories of a target as models of their own, each on a host; duplicate instances that share one;
-- memories that are served port by port).
use Rattle.std.specs.Prelude.{◌≡◌, ◌≢◌, ◌↔◌, ℕ, ◌^◌, ◌<◌, ◌≤◌, List, [], ◌∷◌, ◌++◌, All, Contains, Some, length, map, slice_index_or, ⊤}
use Rattle.gg_flat.specs.Circuit.{FlatCircuit}
use Rattle.gg_flat.specs.Clock.{Ratio}
use Rattle.gg_flat.specs.Line.{value_at}
use Rattle.gg_flat.specs.Run.{Start}
use Rattle.gg_flat.specs.State.{IsState, State}
use Rattle.gg_flat.specs.WellFormed.{IsWellFormed}
use Rattle.gg_part.specs.inside.Choice.{IsChoice}
use Rattle.gg_flat.specs.InOrder.{IsInOrder}
use Rattle.gg_part.specs.declared.part.Part.{Part}
use Rattle.gg_bridge.specs.inside.Hosted.{ArePorts}
use Rattle.gg_cut_plan.specs.Alike.{AreAlike, IsLike}
use Rattle.gg_cut_plan.specs.declared.plan.Body.{Body}
use Rattle.gg_cut_plan.specs.declared.plan.Body.TheVariants.{Cut, Memory, Source, Tray, Bridge}
use Rattle.gg_cut_plan.specs.declared.plan.Machine as planned
use Rattle.gg_cut_plan.specs.declared.plan.Plan.{Plan}
use Rattle.gg_memunit.specs.MemoryUnit.{IsMemoryPiece, started_unit}
use Rattle.gg_node.specs.Machine.{Machine, machine_at}
use Rattle.gg_net.specs.declared.shape.Station.{Station}
use Rattle.gg_net.specs.inside.Net.{entry_of}
use Rattle.gg_net.specs.inside.Stations.{AreStationed, stationed}
use Rattle.gg_build.specs.inside.Alone.{IsCutAgain}
use Rattle.gg_build.specs.plan.Built.{IsBuilt, IsUnitOf, machine_in, nameless}
use Rattle.gg_build.specs.declared.node.Node.{Node}
use Rattle.gg_build.specs.declared.node.Node.TheVariants as node
use Rattle.gg_build.specs.inside.Bridges.{Table, AreApart, HasOwn, bridge_named}
use Rattle.gg_build.specs.inside.Groups.{FirstsAscend, group_at}
use Rattle.gg_build.specs.inside.Node.{machines_of}

-- ---- machines of a plan that can be built

-- The part of a unit is well formed, and its signals are in an order of evaluation. Numbers of 32 bits suffice for its outs.
pub record IsUnitPart (part : Part) : Type 0 where
  pub formed : IsWellFormed part.piece
  pub ordered : IsInOrder part.piece
  pub few : length part.piece.outs ≤ 2 ^ 32

-- The part of a listed memory can be cut once more, and then has only the memory.
pub record IsMemoryPart (part : Part) : Type 0 where
  pub formed : IsWellFormed part.piece
  pub chosen : IsChoice part.piece (part.piece.ins ++ part.piece.outs) part.piece.ins part.piece.outs (0 ∷ [])
  pub alone : (alone : Part) → IsCutAgain part alone → IsMemoryPiece alone.piece

-- A source with this many outs can be built. It has a column and at least one out, and numbers of 32 bits suffice for its outs.
pub record IsSourceAt (columns : List (List ℕ)) (outs place : ℕ) : Type 0 where
  pub known : place < length columns
  pub some : 0 < outs
  pub few : outs < 2 ^ 32

-- A machine of the plan with this many outs can be built, on these columns.
abbrev pub CanBuild : List (List ℕ) → ℕ → Body → Type 0
CanBuild columns outs (Cut part) = IsUnitPart part
CanBuild columns outs (Memory part) = IsMemoryPart part
CanBuild columns outs (Source place) = IsSourceAt columns outs place
CanBuild columns outs Tray = ⊤
CanBuild columns outs (Bridge bridge) = ArePorts bridge.model bridge.ins bridge.outs

-- A unit or a listed memory begins in a state of its piece.
abbrev pub CanBegin : (Body → Start) → Body → Type 0
CanBegin starts (Cut part) = IsState part.piece (starts (Cut part)).state
CanBegin starts (Memory part) = IsState part.piece (starts (Memory part)).state
CanBegin starts (Source place) = ⊤
CanBegin starts Tray = ⊤
CanBegin starts (Bridge bridge) = ⊤

-- the body of machine m of these
abbrev pub body_at : List planned.Machine → ℕ → Body
body_at machines m = (slice_index_or machines m nameless).body

-- the number of channels that machine m of these gives; 0 past the end
abbrev pub outs_at : List planned.Machine → ℕ → ℕ
outs_at machines m = length (slice_index_or machines m nameless).outs

-- Each of these machines of a plan can be built, and its host has a number. Two that have one host are units with one piece.
pub record CanBuildAll (starts : Body → Start) (columns : List (List ℕ)) (machines : List planned.Machine) : Type 0 where
  pub few : length machines < 2 ^ 32
  pub known : All (λ machine. machine.host < length machines) machines
  pub ready : (m : ℕ) → m < length machines → CanBuild columns (outs_at machines m) (body_at machines m)
  pub begin : (m : ℕ) → m < length machines → CanBegin starts (body_at machines m)
  pub alike : (m k : ℕ) → m < length machines → k < length machines → m ≢ k → (slice_index_or machines m nameless).host ≡ (slice_index_or machines k nameless).host → AreAlike (body_at machines m) (body_at machines k)

-- each of these machines begins in a state of its piece
abbrev pub CanAllBegin : (Body → Start) → List planned.Machine → List ℕ → Type 0
CanAllBegin starts machines group = (t : ℕ) → t < length group → CanBegin starts (body_at machines (value_at group t))

-- Machines of a plan that can be built as one host.
pub record IsGroup (starts : Body → Start) (columns : List (List ℕ)) (machines : List planned.Machine) (group : List ℕ) : Type 0 where
  pub some : 0 < length group
  pub few : length group < 2 ^ 32
  pub known : All (λ m. m < length machines) group
  pub ready : (t : ℕ) → t < length group → CanBuild columns (outs_at machines (value_at group t)) (body_at machines (value_at group t))
  pub begin : CanAllBegin starts machines group
  pub alike : (t u : ℕ) → t < length group → u < length group → t ≢ u → AreAlike (body_at machines (value_at group t)) (body_at machines (value_at group u))

-- ---- bridges

-- the body of the first machine of a host
abbrev pub first_body : List planned.Machine → List (List ℕ) → ℕ → Body
first_body machines members h = body_at machines (value_at (group_at members h) 0)

-- The table has the bridges of host `first` and of all hosts after it.
abbrev pub HaveBridges : {B : Type 0} → (B → FlatCircuit) → (B → State) → Table B → List planned.Machine → List (List ℕ) → ℕ → Type 0
HaveBridges piece state table machines members first = (h : ℕ) → first ≤ h → h < length members → HasOwn piece state table (first_body machines members h)

-- No two hosts have bridges with one name.
abbrev pub AreAllApart : List planned.Machine → List (List ℕ) → Type 0
AreAllApart machines members = (h k : ℕ) → h < k → k < length members → AreApart (first_body machines members h) (first_body machines members k)

-- No two machines have bridges with one name.
abbrev pub HaveNames : List planned.Machine → Type 0
HaveNames machines = (m k : ℕ) → m < length machines → k < length machines → m ≢ k → AreApart (body_at machines m) (body_at machines k)

-- ---- hosts

-- The network's machine for a machine of the plan that gives this many channels. `starts` says where each machine begins.
abbrev pub IsBuiltWith : (Body → Start) → List (List ℕ) → ℕ → Body → Machine → Type 0
IsBuiltWith starts columns outs body machine = IsBuilt columns outs (starts body) body machine

-- These machines are a single one, which has the property `Is`.
pub record IsAlone (Is : Machine → Type 0) (machines : List Machine) : Type 0 where
  pub alone : machines ≡ machine_at machines 0 ∷ []
  pub is : Is (machine_at machines 0)

-- A machine is the unit of a memory's piece.
pub record IsServed (machine : Machine) : Type 0 where
  pub piece : FlatCircuit
  pub own : Start
  pub is_memory : IsMemoryPiece piece
  pub is : machine ≡ started_unit piece own.ratios own.state own.cycle

-- A host serves the ports of a memory, or none.
abbrev pub HasPorts : {B : Type 0} → Node B → Type 0
HasPorts (node.Unit unit) = ⊤
HasPorts (node.Shared units) = ⊤
HasPorts (node.Memory machine) = IsServed machine
HasPorts (node.Source machine) = machine.ports ≡ []
HasPorts (node.Tray machine) = machine.ports ≡ []
HasPorts (node.Bridge host) = host.machine.ports ≡ []

-- A node has a single machine, which has the property `Is`.
pub record IsHost {B : Type 0} (Is : Machine → Type 0) (node : Node B) : Type 0 where
  pub own : IsAlone Is (machines_of node)
  pub ports : HasPorts node

-- A node has these machines of a plan, a thread each.
pub record IsHostOf {B : Type 0} (starts : Body → Start) (columns : List (List ℕ)) (machines : List planned.Machine) (group : List ℕ) (node : Node B) : Type 0 where
  pub count : length (machines_of node) ≡ length group
  pub each : (t : ℕ) → t < length group → IsBuiltWith starts columns (outs_at machines (value_at group t)) (body_at machines (value_at group t)) (machine_at (machines_of node) t)
  pub ports : HasPorts node

-- the hosts of these groups of machines
pub record AreHosts {B : Type 0} (starts : Body → Start) (columns : List (List ℕ)) (machines : List planned.Machine) (members : List (List ℕ)) (count : ℕ) (nodes : List (Node B)) : Type 0 where
  pub total : length nodes ≡ count
  pub each : (h : ℕ) (any : Node B) → h < count → IsHostOf starts columns machines (group_at members h) (slice_index_or nodes h any)

-- ---- which host a machine has

-- the kinds of hosts: of units, of a memory that is served, of a source, of a tray, of a bridge
pub data HostKind : Type 0 where
  OfUnits : HostKind
  OfMemory : HostKind
  OfSource : HostKind
  OfTray : HostKind
  OfBridge : HostKind

abbrev pub kind_of : {B : Type 0} → Node B → HostKind
kind_of (node.Unit unit) = OfUnits
kind_of (node.Shared units) = OfUnits
kind_of (node.Memory machine) = OfMemory
kind_of (node.Source machine) = OfSource
kind_of (node.Tray machine) = OfTray
kind_of (node.Bridge host) = OfBridge

-- The node is the host of a bridge, which has the property `Is`.
abbrev pub IsHostOfBridge : {B : Type 0} → (Is : B → Type 0) → Node B → Type 0
IsHostOfBridge Is (node.Unit unit) = ⊥
IsHostOfBridge Is (node.Shared units) = ⊥
IsHostOfBridge Is (node.Memory machine) = ⊥
IsHostOfBridge Is (node.Source machine) = ⊥
IsHostOfBridge Is (node.Tray machine) = ⊥
IsHostOfBridge Is (node.Bridge host) = Is host.bridge

-- The node is the host that a machine of a plan needs. A bridge's machine needs the host of the bridge with its name. `Has` says which bridges have
-- which names.
abbrev pub IsOwnHost : {B : Type 0} → (Has : List ℕ → B → Type 0) → Body → Node B → Type 0
IsOwnHost Has (Cut part) node = kind_of node ≡ OfUnits
IsOwnHost Has (Memory part) node = kind_of node ≡ OfMemory
IsOwnHost Has (Source place) node = kind_of node ≡ OfSource
IsOwnHost Has Tray node = kind_of node ≡ OfTray
IsOwnHost Has (Bridge body) node = IsHostOfBridge (Has body.name) node

-- each of these groups of machines has the host that it needs, if its bridge is in a table
abbrev pub AreOwnHosts : {B : Type 0} → Table B → List planned.Machine → List (List ℕ) → ℕ → List (Node B) → Type 0
AreOwnHosts {B} table machines members count nodes = (h : ℕ) (any : Node B) → h < count → IsOwnHost (λ name bridge. bridge_named table name ≡ Some bridge) (first_body machines members h) (slice_index_or nodes h any)

-- Each machine of the plan is at the host that it needs: a bridge's machine at the host of the bridge that is handed in with its name.
abbrev pub HaveOwnHosts : {B : Type 0} → Plan → List (List ℕ × B) → List (Node B) → List Station → Type 0
HaveOwnHosts {B} plan bridges nodes stations = (m : ℕ) (other : Station) (any : Node B) → m < length plan.machines
    → IsOwnHost (λ name bridge. Contains bridges (name, bridge)) (machine_in plan m).body (slice_index_or nodes (slice_index_or stations m other).host any)

-- ---- units that share a host

-- Chosen of these out-signals, by their places among them.
pub record ArePicked (all chosen places : List ℕ) : Type 0 where
  pub known : All (λ place. place < length all) places
  pub is : map (value_at all) places ≡ chosen

-- the places of a unit's out-signals among these
abbrev pub ArePickedFor : List ℕ → Body → List ℕ → Type 0
ArePickedFor all (Cut part) places = ArePicked all part.piece.outs places
ArePickedFor all (Memory part) places = ⊥
ArePickedFor all (Source place) places = ⊥
ArePickedFor all Tray places = ⊥
ArePickedFor all (Bridge bridge) places = ⊥

-- this machine is a unit that runs the part, from where it begins
abbrev pub IsUnitBody : (Body → Start) → Body → Machine → Type 0
IsUnitBody starts (Cut part) machine = IsUnitOf (starts (Cut part)) part machine
IsUnitBody starts (Memory part) machine = ⊥
IsUnitBody starts (Source place) machine = ⊥
IsUnitBody starts Tray machine = ⊥
IsUnitBody starts (Bridge bridge) machine = ⊥

-- for each of these machines the ratios of its own clocks
abbrev pub ratios_for : (Body → Start) → List planned.Machine → List ℕ → List (List Ratio)
ratios_for starts machines group = map (λ m. (starts (body_at machines m)).ratios) group

-- for each of these machines the state that it begins with
abbrev pub states_for : (Body → Start) → List planned.Machine → List ℕ → List State
states_for starts machines group = map (λ m. (starts (body_at machines m)).state) group

-- Units of a plan with pieces like this one.
pub record AreUnits (piece : FlatCircuit) (machines : List planned.Machine) (group : List ℕ) : Type 0 where
  pub some : 0 < length group
  pub few : length group < 2 ^ 32
  pub known : All (λ m. m < length machines) group
  pub alike : (t : ℕ) → t < length group → IsLike piece (body_at machines (value_at group t))

-- for each of these machines its out-signals, as places among all
pub record ArePlaced (all : List ℕ) (machines : List planned.Machine) (group : List ℕ) (count : ℕ) (outs : List (List ℕ)) : Type 0 where
  pub total : length outs ≡ count
  pub each : (t : ℕ) → t < count → ArePickedFor all (body_at machines (value_at group t)) (slice_index_or outs t [])

-- These machines are units that run these machines of a plan, each from where it begins.
pub record RunUnits (starts : Body → Start) (machines : List planned.Machine) (group : List ℕ) (units : List Machine) : Type 0 where
  pub count : length units ≡ length group
  pub each : (t : ℕ) → t < length group → IsUnitBody starts (body_at machines (value_at group t)) (machine_at units t)

-- ---- stations

-- The station of a machine of a plan, at a thread of a host.
pub record IsStation (own : planned.Machine) (host thread : ℕ) (machine : Machine) (station : Station) : Type 0 where
  pub host_is : station.host ≡ host
  pub thread_is : station.thread ≡ thread
  pub ins : station.ins ≡ own.ins
  pub outs : station.outs ≡ own.outs
  pub ports : station.ports ≡ map entry_of machine.ports

-- the stations of the first `count` machines of a plan, at these threads of these hosts
pub record AreStations {B : Type 0} (machines : List planned.Machine) (hosts threads : List ℕ) (nodes : List (Node B)) (count : ℕ) (stations : List Station) : Type 0 where
  pub total : length stations ≡ count
  pub each : (m : ℕ) (any : Node B) (other : Station) → m < count
      → IsStation (slice_index_or machines m nameless) (value_at hosts m) (value_at threads m) (machine_at (machines_of (slice_index_or nodes (value_at hosts m) any)) (value_at threads m)) (slice_index_or stations m other)

-- The station of a machine of a plan. The machine that is stationed there is built from it.
pub record IsPlaced (starts : Body → Start) (columns : List (List ℕ)) (own : planned.Machine) (lists : List (List Machine)) (station : Station) : Type 0 where
  pub built : IsBuiltWith starts columns (length own.outs) own.body (stationed lists station)
  pub ins : station.ins ≡ own.ins
  pub outs : station.outs ≡ own.outs
  pub ports : station.ports ≡ map entry_of (stationed lists station).ports

-- The hosts of a plan's machines, and the station of each machine there.
pub record IsPlacement {B : Type 0} (plan : Plan) (starts : Body → Start) (columns : List (List ℕ)) (nodes : List (Node B)) (stations : List Station) : Type 0 where
  -- Each machine of the plan has a station.
  pub total : length stations ≡ length plan.machines
  -- The machine at a station is built from the plan's machine, and has its channels.
  pub each : (m : ℕ) (any : Station) → m < length plan.machines → IsPlaced starts columns (machine_in plan m) (map machines_of nodes) (slice_index_or stations m any)
  -- Each station is at a thread of a host that there is, no two are at the same thread, and no thread is without a station.
  pub threads : AreStationed (map machines_of nodes) stations
  -- No host is without a machine.
  pub used : All (λ node. 0 < length (machines_of node)) nodes
  -- Two machines have one host exactly if they have one in the plan.
  pub together : (m k : ℕ) (any other : Station) → m < length plan.machines → k < length plan.machines → ((machine_in plan m).host ≡ (machine_in plan k).host) ↔ ((slice_index_or stations m any).host ≡ (slice_index_or stations k other).host)
  -- The hosts are numbered in the order of their first machines.
  pub ascend : (any : Station) → FirstsAscend (λ m. (slice_index_or stations m any).host) (length stations)
