-- More on Made: what no promise of the program reaches.
-- Source: MEMOCODE 2009 (a network of machines that are latency-insensitive); ICCAD 2019 (instances and memories of a
-- target as models of their own).
use Rattle.std.specs.Prelude.{◌≡◌, ◌≢◌, ℕ, ◌<◌, ◌≤◌, ◌^◌, List, [], Bool, length, map, slice_index_or, AllPairs}
use Rattle.gg_bits.specs.Shape.{shape}
use Rattle.gg_flat.specs.Line.{value_at, shape_at}
use Rattle.gg_flat.specs.Circuit.{FlatCircuit, signal_shapes}
use Rattle.gg_flat.specs.WellFormed.{IsWellFormed}
use Rattle.gg_flat_tree.specs.Tree.{path_at}
use Rattle.gg_order.specs.Design.{Ordered}
use Rattle.gg_part.specs.declared.part.Clocking.{Clocking}
use Rattle.gg_part.specs.declared.part.Part.{Part}
use Rattle.gg_part.specs.inside.Clocking.{IsTimed}
use Rattle.gg_flat.specs.InOrder.{IsInOrder}
use Rattle.gg_partfile.specs.declared.request.Request.{Request}
use Rattle.gg_cut_plan.specs.declared.plan.Body.{Body}
use Rattle.gg_cut_plan.specs.declared.plan.Body.TheVariants.{Cut, Memory, Source, Tray, Bridge}
use Rattle.gg_cut_plan.specs.declared.plan.Machine.{Machine}
use Rattle.gg_cut_plan.specs.declared.plan.Channel.{Channel}
use Rattle.gg_cut_plan.specs.declared.listed.Listed.{Listed}
use Rattle.gg_cut_plan.specs.declared.wires.Wire.{Wire}
use Rattle.gg_cut_plan.specs.Bridges.{Models}
use Rattle.gg_cut_plan.specs.Direct.{Hub}
use Rattle.gg_cut_plan.specs.Alike.{AreAlike}
use Rattle.gg_cut_plan.specs.Hosts.{leader}
use Rattle.gg_cut_plan.specs.Machines.{first_unit, first_memory}
use Rattle.gg_cut_plan.specs.Plan.{wire_at, channels_to, channels_from, signals_of, givens_of, IsBody, IsMachine, AreNeedsOf, NeedsIn, IsChannel}
use Rattle.gg_cut_plan.specs.Ports.{machine_end, plan_bridges}

-- the memories of a part are ascending
abbrev pub HasAscending : Body → Type 0
HasAscending (Cut part) = AllPairs (λ a b. a < b) part.memories
HasAscending (Memory part) = AllPairs (λ a b. a < b) part.memories
HasAscending (Source place) = Unit {0}
HasAscending Tray = Unit {0}
HasAscending (Bridge bridge) = Unit {0}

-- the registers and ports of a part follow what `clocking` has for the units
abbrev pub IsTimedBody : Clocking → Body → Type 0
IsTimedBody clocking (Cut part) = IsTimed part.piece part.held part.memories clocking.registers clocking.ports
IsTimedBody clocking (Memory part) = Unit {0}
IsTimedBody clocking (Source place) = Unit {0}
IsTimedBody clocking Tray = Unit {0}
IsTimedBody clocking (Bridge bridge) = Unit {0}

-- if machine m is a unit, its registers and ports follow what `clocking` has for the units
abbrev pub IsTimedUnit : Listed → Clocking → ℕ → Body → Type 0
IsTimedUnit listed clocking m body = first_unit ≤ m → m < first_memory listed → IsTimedBody clocking body

-- What machine m does, if these are the machines before it. If the first machine of its host is one of them, the two parts are alike.
pub record IsMadeBody (design : Ordered) (request : Request) (models : Models) (listed : Listed) (hub : Hub) (clocking : Clocking) (machines : List Machine) (m : ℕ) (body : Body) : Type 0 where
  pub is : IsBody design request models listed hub m body
  pub ascend : HasAscending body
  pub timed : IsTimedUnit listed clocking m body
  pub alike : (any : Machine) → leader request.units request.share m ≢ m → AreAlike (slice_index_or machines (leader request.units request.share m) any).body body

-- the first `count` machines of a plan
pub record AreMachinesTo (design : Ordered) (request : Request) (models : Models) (listed : Listed) (hub : Hub) (clocking : Clocking) (count : ℕ) (machines : List Machine) : Type 0 where
  pub counted : length machines ≡ count
  pub each : (m : ℕ) (any : Machine) → m < count → IsMachine design request models listed hub m (slice_index_or machines m any)
  pub ascend : (m : ℕ) (any : Machine) → m < count → HasAscending (slice_index_or machines m any).body
  pub timed : (m : ℕ) (any : Machine) → m < count → IsTimedUnit listed clocking m (slice_index_or machines m any).body
  pub alike : (m : ℕ) (any other : Machine) → m < count → leader request.units request.share m ≢ m
      → AreAlike (slice_index_or machines (leader request.units request.share m) any).body (slice_index_or machines m other).body

-- the machines of a plan
pub record AreMachines (design : Ordered) (request : Request) (models : Models) (listed : Listed) (hub : Hub) (machines : List Machine) : Type 0 where
  pub total : length machines ≡ machine_end (plan_bridges design.circuit design.tree request)
  pub few : length machines < 2 ^ 32
  pub each : (m : ℕ) (any : Machine) → m < length machines → IsMachine design request models listed hub m (slice_index_or machines m any)
  pub shared : (m n : ℕ) (any other : Machine) → m < length machines → n < length machines → m ≢ n → (slice_index_or machines m any).host ≡ (slice_index_or machines n other).host
      → AreAlike (slice_index_or machines m any).body (slice_index_or machines n other).body

-- A part with needs that can be computed: a well-formed piece in an order of evaluation. Its ports are a machine's channels.
pub record IsServed (wires : List Wire) (part : Part) (taken given : List ℕ) : Type 0 where
  pub formed : IsWellFormed part.piece
  pub ordered : IsInOrder part.piece
  pub once : AllPairs (λ a b. a ≢ b) part.globals
  pub known : (place : ℕ) → place < length part.piece.outs → value_at part.piece.outs place < length part.globals
  pub ins : map (value_at part.globals) part.piece.ins ≡ signals_of wires taken
  pub outs : map (value_at part.globals) part.piece.outs ≡ givens_of wires given

-- `IsServed` for what a machine does: a part of the circuit is served; a source, a tray and a bridge have no needs to compute.
abbrev pub IsServedBody : List Wire → Body → List ℕ → List ℕ → Type 0
IsServedBody wires (Cut part) taken given = IsServed wires part taken given
IsServedBody wires (Memory part) taken given = IsServed wires part taken given
IsServedBody wires (Source place) taken given = Unit {0}
IsServedBody wires Tray taken given = Unit {0}
IsServedBody wires (Bridge bridge) taken given = Unit {0}

-- machine m has its channels, and its needs can be computed
pub record IsFit (wires : List Wire) (m : ℕ) (machine : Machine) : Type 0 where
  pub ins : machine.ins ≡ channels_to wires m
  pub outs : machine.outs ≡ channels_from wires m
  pub body : IsServedBody wires machine.body machine.ins machine.outs

-- The needs, ascending, of the channel that a part gives by signal s.
pub record ArePartNeeds (part : Part) (channels : List ℕ) (s : ℕ) (told : List ℕ) : Type 0 where
  pub ascending : AllPairs (λ a b. a < b) told
  pub needs : (out : ℕ) → out < length part.globals → value_at part.globals out ≡ s → AreNeedsOf part channels out told

-- In a table, the lists of the first n channels of `given` are set: each has the channels of `taken` at the places of
-- its list. Every other channel keeps its list.
pub record ArePut (taken given : List ℕ) (lists before : List (List ℕ)) (n : ℕ) (table : List (List ℕ)) : Type 0 where
  pub count : length table ≡ length before
  pub put : (i : ℕ) → i < n → slice_index_or table (value_at given i) [] ≡ map (value_at taken) (slice_index_or lists i [])
  pub others : (c : ℕ) → ((i : ℕ) → i < n → value_at given i ≢ c) → slice_index_or table c [] ≡ slice_index_or before c []

-- the needs of a channel that a machine gives
pub record AreGiven (machine : Machine) (w : Wire) (told : List ℕ) : Type 0 where
  pub ascending : AllPairs (λ a b. a < b) told
  pub needs : NeedsIn machine.body machine.ins w.given told

-- a list of needs for each channel
pub record AreTold (wires : List Wire) (machines : List Machine) (table : List (List ℕ)) : Type 0 where
  pub count : length table ≡ length wires
  pub each : (c : ℕ) (any : Machine) → c < length wires → AreGiven (slice_index_or machines (wire_at wires c).producer any) (wire_at wires c) (slice_index_or table c [])

-- a channel, without its needs
pub record IsWired (circuit : FlatCircuit) (capacity : List ℕ → ℕ) (piped : ℕ → Bool) (w : Wire) (channel : Channel) : Type 0 where
  pub signal : channel.signal ≡ w.signal
  pub name : channel.name ≡ path_at circuit.paths w.signal
  pub type : shape channel.ty ≡ shape_at (signal_shapes circuit) w.signal
  pub producer : channel.producer ≡ w.producer
  pub consumer : channel.consumer ≡ w.consumer
  pub bound : channel.capacity ≡ capacity (path_at circuit.paths w.signal)
  pub pipe : channel.pipe ≡ piped w.signal

-- the channels, with the needs of a table
pub record AreWired (circuit : FlatCircuit) (capacity : List ℕ → ℕ) (piped : ℕ → Bool) (wires : List Wire) (table : List (List ℕ)) (channels : List Channel) : Type 0 where
  pub count : length channels ≡ length wires
  pub each : (c : ℕ) (any : Channel) → c < length channels → IsWired circuit capacity piped (wire_at wires c) (slice_index_or channels c any)
  pub needs : (c : ℕ) (any : Channel) → c < length channels → (slice_index_or channels c any).needs ≡ slice_index_or table c []

-- the channels of a plan
pub record AreChannels (design : Ordered) (capacity : List ℕ → ℕ) (piped : ℕ → Bool) (wires : List Wire) (machines : List Machine) (channels : List Channel) : Type 0 where
  pub total : length channels ≡ length wires
  pub each : (c : ℕ) (any : Channel) → c < length channels → IsChannel design capacity piped machines (wire_at wires c) (slice_index_or channels c any)
