-- The network of a plan: its channels, its machines before their first step, and the rows of its machines, from any start. The values that its
-- channels carry are gg_cut_plan's `columns_of`. A pipe carries them a cycle later, after its token. `flow_of` has all that it computes.
-- Source: MEMOCODE 2009 (a synchronous circuit as a network of its parts, with the circuit's own streams); ICCAD
-- 2019 (units and memories of a target as models of their own, with sources for its inputs and sinks for its outputs).
use Rattle.std.specs.List.{range_with_len}
use Rattle.std.specs.Prelude.{◌≡◌, ℕ, suc, ◌+◌, ◌<◌, ◌≤◌, ◌==◌, ◌++◌, List, [], ◌∷◌, Bool, false, if◌then◌else◌, Option, None, Some, length, map, replicate, slice_index_or, unwrap_or}
use Rattle.gg_bits.specs.Limits.{tray_rows, cycle_limit}
use Rattle.gg_flat.specs.Circuit.{FlatCircuit}
use Rattle.gg_flat_tree.specs.Clocked.{clocks_from}
use Rattle.gg_flat.specs.Line.{value_at}
use Rattle.gg_flat.specs.Run.{IsColumns, Start}
use Rattle.gg_flat.specs.State.{State, IsState, opening}
use Rattle.gg_flat.specs.Streams.{Flow}
use Rattle.gg_flat.specs.WellFormed.{IsWellFormed}
use Rattle.gg_order.specs.Design.{Ordered}
use Rattle.gg_partfile.specs.declared.request.Request.{Request}
use Rattle.gg_order.specs.needs.Needs.{AreNeedsOfOuts}
use Rattle.gg_part.specs.Part.{IsPart}
use Rattle.gg_part.specs.PartRun.{part_rows, part_start, part_state}
use Rattle.gg_part.specs.declared.part.Part.{Part}
use Rattle.gg_cut_plan.specs.Alike.{IsAlike}
use Rattle.gg_cut_plan.specs.declared.plan.Body.{Body}
use Rattle.gg_cut_plan.specs.declared.plan.Body.TheVariants.{Cut, Memory, Source, Tray, Bridge}
use Rattle.gg_cut_plan.specs.declared.plan.Machine as planned
use Rattle.gg_cut_plan.specs.declared.plan.Channel.{Channel}
use Rattle.gg_cut_plan.specs.declared.plan.Plan.{Plan}
use Rattle.gg_cut_plan.specs.Clocks.{ratios_of}
use Rattle.gg_cut_plan.specs.Bridges.{Models}
use Rattle.gg_cut_plan.specs.Listed.{first_place}
use Rattle.gg_cut_plan.specs.Plan.{IsPlan}
use Rattle.gg_cut_plan.specs.Solves.{AreRows, columns_of, model_start, streams}
use Rattle.gg_cut_plan.specs.Held.{AreHeldOnce}
use Rattle.gg_cut_reference.specs.Follows.{plan_token}
use Rattle.gg_cut_reference.specs.Made.{plan_reference, plan_seen}
use Rattle.gg_bridge.specs.Turned.{turned}
use Rattle.gg_bridge.specs.Hosted.{started_bridge}
use Rattle.gg_cut_reference.specs.whole.Whole.{CanBridge, plan_begin, plan_circuit}
use Rattle.gg_node.specs.Machine.{Machine, machine_at, no_state, source_machine, tray_machine}
use Rattle.gg_fame5.specs.Machine as dataflow
use Rattle.gg_memunit.specs.MemoryUnit as memory
use Rattle.gg_net.specs.declared.shape.Wire.{Wire}
use Rattle.gg_net.specs.Network.{Frame, frame_of}
use Rattle.gg_net.specs.Net.{opening_net}

-- a machine of a plan without a name and without channels
abbrev pub nameless : planned.Machine
nameless = record { name = []; host = 0; body = Tray; ins = []; outs = [] }

-- machine m of a plan; past the end one without a name and channels
abbrev pub machine_in : Plan → ℕ → planned.Machine
machine_in plan m = slice_index_or plan.machines m nameless

-- ---- channels

-- the place of a channel in a machine's list of channels; 0 if it isn't there
abbrev pub place_in : List ℕ → ℕ → ℕ
place_in channels c = unwrap_or (first_place (λ d. d == c) channels) 0

-- the token that a channel opens with: this one if it has a pipe
abbrev pub first_token : Bool → ℕ → Option ℕ
first_token pipe token = if pipe then Some token else None

-- the channel of the network for a channel of the plan, which has number c; `token` has the token of each signal's pipe
abbrev pub wire_of : (token : ℕ → ℕ) → Plan → ℕ → Channel → Wire
wire_of token plan c channel =
    record {
      producer = channel.producer;
      out = place_in (machine_in plan channel.producer).outs c;
      consumer = channel.consumer;
      place = place_in (machine_in plan channel.consumer).ins c;
      capacity = channel.capacity;
      first = first_token channel.pipe (token channel.signal);
    }

-- the channels of the network, starting at number c
abbrev pub wires_from : (token : ℕ → ℕ) → Plan → ℕ → List Channel → List Wire
wires_from token plan c [] = []
wires_from token plan c (channel ∷ channels) = wire_of token plan c channel ∷ wires_from token plan (suc c) channels

-- the channels of the network of a plan
abbrev pub wires_of_plan : (token : ℕ → ℕ) → Plan → List Wire
wires_of_plan token plan = wires_from token plan 0 plan.channels

-- ---- where machines begin

-- where a machine begins, if the circuit begins with this start: a unit or a listed memory with its part of it,
-- and a bridge with zeros at its cycle
abbrev pub body_start : Start → Body → Start
body_start start (Cut part) = part_start part.held part.memories part.clocks start
body_start start (Memory part) = part_start part.held part.memories part.clocks start
body_start start (Source place) = record { cycle = start.cycle; state = no_state; ratios = [] }
body_start start Tray = record { cycle = start.cycle; state = no_state; ratios = [] }
body_start start (Bridge bridge) = model_start bridge.model start

-- ---- machines before their first step

-- A unit that runs a part of the circuit from this start. Its own piece is like the part's, with the same out-signals in their order, so that units
-- with one piece can share it. Each of its outs needs the ins that it depends on. The part's clocks have the ratios of its start.
pub record IsUnitOf (own : Start) (part : Part) (machine : Machine) : Type 0 where
  pub circuit : FlatCircuit
  pub needs : List (List ℕ)
  pub formed : IsWellFormed circuit
  pub alike : IsAlike circuit part.piece
  pub outs : circuit.outs ≡ part.piece.outs
  pub exact : AreNeedsOfOuts part.piece needs
  pub is : machine ≡ dataflow.started_unit (record { circuit = circuit; needs = needs }) own.ratios own.state own.cycle

-- The machine of a listed memory. The memory's part begins with this start. The machine is a memory unit, and its piece is a part of the listed
-- memory's part. The piece has the in-signals followed by the out-signals, the memory, and all clocks, each under its number and so with its ratio.
-- As the piece of a memory unit it has the in-signals first.
pub record IsMemoryOf (own : Start) (part : Part) (machine : Machine) : Type 0 where
  pub alone : Part
  pub is_part : IsPart part.piece alone.piece alone.globals alone.held alone.memories alone.clocks
  pub clocks : alone.clocks ≡ clocks_from 0 part.piece.clocks
  pub globals : alone.globals ≡ part.piece.ins ++ part.piece.outs
  pub ins : map (value_at alone.globals) alone.piece.ins ≡ part.piece.ins
  pub outs : map (value_at alone.globals) alone.piece.outs ≡ part.piece.outs
  pub memories : alone.memories ≡ 0 ∷ []
  pub is_memory : memory.IsMemoryPiece alone.piece
  pub is : machine ≡ memory.started_unit alone.piece own.ratios (part_state alone.held alone.memories own.state) own.cycle

-- The machine of the network for a machine of the plan that gives this many channels and begins with this start. `columns` are the columns of the
-- top's inputs that no bridge drives, by their places. A source has an out for each channel. A bridge's machine runs its model, with ports in the
-- order of the machine's channels.
abbrev pub IsBuilt : List (List ℕ) → ℕ → Start → Body → Machine → Type 0
IsBuilt columns outs own (Cut part) machine = IsUnitOf own part machine
IsBuilt columns outs own (Memory part) machine = IsMemoryOf own part machine
IsBuilt columns outs own (Source place) machine = machine ≡ source_machine (slice_index_or columns place []) own.cycle (replicate outs false)
IsBuilt columns outs own Tray machine = machine ≡ tray_machine tray_rows cycle_limit own.cycle [] None
IsBuilt columns outs own (Bridge bridge) machine = machine ≡ started_bridge (turned bridge.model bridge.ins bridge.outs) own.cycle own.state

-- the machines of the network of a plan, by number; `starts` says where each machine begins
pub record AreBuilt (plan : Plan) (starts : Body → Start) (columns : List (List ℕ)) (machines : List Machine) : Type 0 where
  pub count : length machines ≡ length plan.machines
  pub each : (m : ℕ) → m < length plan.machines → IsBuilt columns (length (machine_in plan m).outs) (starts (machine_in plan m).body) (machine_in plan m).body (machine_at machines m)

-- ---- the network

-- the frame, which never changes, of the network of a plan with these machines and pipes with these tokens, which has to do its cycles
-- below n
abbrev pub plan_frame : (token : ℕ → ℕ) → Plan → List Machine → ℕ → Frame
plan_frame token plan machines n = frame_of (opening_net machines (wires_of_plan token plan) n)

-- ---- the run of the network

-- The rows of a machine, from the rows of the circuit that the network computes. For a signal of the design, `seen` is the signal that the machine
-- sees. `behind` is the number of the first signal of a bridge's model.
abbrev pub body_rows : (seen : ℕ → ℕ) → (behind : ℕ) → Body → List (List ℕ) → List (List ℕ)
body_rows seen behind (Cut part) rows = part_rows (map seen part.globals) rows
body_rows seen behind (Memory part) rows = part_rows (map seen (map (value_at part.globals) (part.piece.ins ++ part.piece.outs))) rows
body_rows seen behind (Source place) rows = []
body_rows seen behind Tray rows = []
body_rows seen behind (Bridge bridge) rows = part_rows (range_with_len behind (length bridge.model.signals)) rows

-- the number of signals that a machine's model adds to the circuit; 0 if it isn't a bridge
abbrev pub own_signals : Body → ℕ
own_signals (Cut part) = 0
own_signals (Memory part) = 0
own_signals (Source place) = 0
own_signals Tray = 0
own_signals (Bridge bridge) = length bridge.model.signals

-- The rows of these machines. The first has number m, and for each machine `seen` says which signal it sees for a signal. The signals of the models
-- come one model after another.
abbrev pub rows_from : (ℕ → ℕ → ℕ) → (m behind : ℕ) → List planned.Machine → List (List ℕ) → List (List (List ℕ))
rows_from seen m behind [] rows = []
rows_from seen m behind (machine ∷ machines) rows = body_rows (seen m) behind machine.body rows ∷ rows_from seen (suc m) (behind + own_signals machine.body) machines rows

-- the rows of the machines of a plan
abbrev pub rows_of : Ordered → Request → Plan → List (List ℕ) → List (List (List ℕ))
rows_of design request plan rows = rows_from (plan_seen design request) 0 (length (plan_reference design request).signals) plan.machines rows

-- the state that a machine begins with, if the reference circuit begins in this state: its part of it, and zeros for a bridge
abbrev pub body_state : Body → State → State
body_state (Cut part) state = part_state part.held part.memories state
body_state (Memory part) state = part_state [] part.memories state
body_state (Source place) state = no_state
body_state Tray state = no_state
body_state (Bridge bridge) state = opening bridge.model

-- the states that the machines of a plan begin with
abbrev pub states_of : Plan → State → List State
states_of plan state = map (λ machine. body_state machine.body state) plan.machines

-- The flow of a plan's network: what it computes, from its start and the rows of its circuit by cycle.
abbrev pub flow_of : Ordered → Request → Plan → Start → List (List ℕ) → Flow
flow_of design request plan start rows =
    record {
      lists = streams start.cycle (plan_token design request start.state) plan.channels (columns_of plan rows);
      runs = rows_of design request plan rows;
      begin = start.cycle;
      states = states_of plan start.state;
    }

-- A plan that can be run from a start. The design's circuit keeps to its tree, no two of its signals hold one register, and its paths leave the
-- fronts of pipes and bridges free. The request has no fault for the design and for these models, which bridges may have. The plan's channels may
-- hold at least one token each. The start has a state of the reference circuit and the ratios that the request gives its clocks. The rows are the run
-- from there, up to cycle n, of the reference circuit with the models of the bridges in it, on the columns of the inputs that no bridge drives. The
-- models start with zeros.
pub record IsGiven (design : Ordered) (request : Request) (models : Models) (default : ℕ) (plan : Plan) (columns : List (List ℕ)) (n : ℕ) (start : Start) (rows : List (List ℕ)) : Type 0 where
  pub can : CanBridge design request models
  pub held : AreHeldOnce design.circuit
  pub some : 0 < default
  pub planned : IsPlan design request models default plan
  pub most : n ≤ cycle_limit
  pub given : IsColumns (plan_circuit design request models) n columns
  pub typed : IsState (plan_reference design request) start.state
  pub clocked : start.ratios ≡ ratios_of design.tree request
  pub run : AreRows (plan_circuit design request models) (plan_begin design request models start) columns n rows
