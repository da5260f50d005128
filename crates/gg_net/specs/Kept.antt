-- The invariant of a network, given the flow of values for its channels. Each machine is in the state of its run. Each latch, flag and queue agrees
-- with the lists and the counts.
-- Source: MEMOCODE 2009 (the k-th token of each queue is the signal's value in cycle k; a queue holds the tokens that
-- were put and not yet taken, at most its bound; without a ring among dependencies the network can go on); ICCAD 2019
-- for memories that are served port by port.
use Rattle.std.specs.Prelude.{◌≡◌, ℕ, suc, ◌+◌, ◌<◌, ◌≤◌, List, [], ◌∷◌, Some, None, Bool, true, All, Contains, length, map, take, drop, fold, slice_index_or, ⊤}
use Rattle.gg_flat.specs.Line.{value_at}
use Rattle.gg_flat.specs.Clock.{edges_at}
use Rattle.gg_flat.specs.Circuit.{FlatCircuit}
use Rattle.gg_flat.specs.State.{State}
use Rattle.gg_flat.specs.Memory.{bank_at}
use Rattle.gg_flat.specs.Depends.{SettlesOnce, DependsOn}
use Rattle.gg_flat.specs.Run.{Start, since, IsRunFrom, row_at, column, state_at}
use Rattle.gg_flat.specs.Served.{after_access}
use Rattle.gg_flat.specs.WellFormed.{IsWellFormed}
use Rattle.gg_flat.specs.Streams.{Flow, state_in}
use Rattle.gg_node.specs.Machine.{Behaviour, RunsPiece, GivesColumn, KeepsLast, Port, Machine, no_state, machine_at, latch_at, flag_at, needs_at, missing}
use Rattle.gg_node.specs.Step.{AllFired, HasFields, fields_of}
use Rattle.gg_net.specs.Network.{wire_at, IsAtIn, IsAtOut, Network, queue_at, takes, entered_by, entered, Kind, kind_of, kind_at, Frame, frame_of}

-- ---- lists and rows

-- the list of values of the channel with a number; an empty one past the end
abbrev pub list_at : List (List ℕ) → ℕ → List ℕ
list_at lists c = slice_index_or lists c []

-- the rows of the machine with a number; none past the end
abbrev pub rows_at : List (List (List ℕ)) → ℕ → List (List ℕ)
rows_at runs m = slice_index_or runs m []

-- the values of the in-signals in a row
abbrev pub ins_of : FlatCircuit → List ℕ → List ℕ
ins_of piece row = map (value_at row) piece.ins

-- the columns that a piece's in-signals have in these rows, in port order
abbrev pub in_columns : FlatCircuit → List (List ℕ) → List (List ℕ)
in_columns piece rows = map (column rows) piece.ins

-- the start of machine m, which has this kind
abbrev pub start_at : Flow → Kind → ℕ → Start
start_at flow kind m = record { cycle = flow.begin; state = state_in flow.states m; ratios = kind.ratios }

-- the state of a piece before cycle t of a run from a start; the rows have row t at place t
abbrev pub run_state : FlatCircuit → Start → List (List ℕ) → ℕ → State
run_state piece start rows t = state_at piece start (drop start.cycle rows) (since start.cycle t)

-- the state of a memory after the access of a port, in a tick with these edges, with these values as its fields
abbrev pub served_one : List Bool → List ℕ → State → Port → State
served_one edges inputs state port = record { registers = state.registers; banks = after_access edges inputs (bank_at state.banks 0) port.access ∷ [] }

-- the state of a memory after the accesses of these ports
abbrev pub served_by : List Bool → List ℕ → State → List Port → State
served_by edges inputs state ports = fold (served_one edges inputs) state ports

-- ---- the lists solve the network

-- If ports are served, the accesses of all of them together make the next state of the piece.
abbrev pub ServesRows : FlatCircuit → Start → List (List ℕ) → ℕ → List Port → Type 0
ServesRows piece start rows end [] = ⊤
ServesRows piece start rows end (port ∷ ports) = (t : ℕ) → start.cycle ≤ t → t < end → served_by (edges_at start.ratios t) (ins_of piece (row_at rows t)) (run_state piece start rows t) (port ∷ ports) ≡ run_state piece start rows (suc t)

-- The rows of a machine that runs a piece are a run of it, on the columns of its own in-signals. The value of an out depends only on the ins that it
-- needs, and the next state only on all ins.
pub record RunsRows (piece : FlatCircuit) (kind : Kind) (start : Start) (rows : List (List ℕ)) (end : ℕ) : Type 0 where
  pub formed : IsWellFormed piece
  pub once : SettlesOnce piece
  -- the ins that an out needs determine its value, whatever the others are
  pub suffice : (o : ℕ) → o < length piece.outs → DependsOn piece (value_at piece.outs o) (needs_at kind.needs o)
  pub ins : kind.ins ≡ length piece.ins
  pub outs : kind.outs ≡ length piece.outs
  pub is : IsRunFrom piece start (in_columns piece rows) (since start.cycle end) (drop start.cycle rows)
  pub serves : ServesRows piece start rows end kind.ports

-- the run of a machine through all its cycles
abbrev pub Runs : Behaviour → Kind → Start → List (List ℕ) → ℕ → Type 0
Runs (RunsPiece piece) kind start rows end = RunsRows piece kind start rows end
Runs (GivesColumn column) kind start rows end = (end ≤ length column) × (kind.ports ≡ [])
Runs (KeepsLast kept) kind start rows end = (kind.ins ≡ 1) × (kind.ports ≡ []) × (0 < end → 0 < kept)

-- this is the value of an out in cycle t
abbrev pub Answers : Behaviour → List (List ℕ) → ℕ → ℕ → ℕ → Type 0
Answers (RunsPiece piece) rows o t value = value_at (row_at rows t) (value_at piece.outs o) ≡ value
Answers (GivesColumn column) rows o t value = value_at column t ≡ value
Answers (KeepsLast kept) rows o t value = ⊥

-- this is the value that an in takes in cycle t; a tray takes any
abbrev pub Asks : Behaviour → List (List ℕ) → ℕ → ℕ → ℕ → Type 0
Asks (RunsPiece piece) rows i t value = value_at (row_at rows t) (value_at piece.ins i) ≡ value
Asks (GivesColumn column) rows i t value = ⊥
Asks (KeepsLast kept) rows i t value = ⊤

-- A flow solves a network. Each machine can do all cycles, and its rows are a run. Each channel's list has a value for each cycle since the
-- beginning: the consumer's in takes it in that cycle. The producer's out gives it in that cycle or, if the channel opens with a token, in the cycle
-- before. That token is the value of the first cycle.
pub record Solves (flow : Flow) (frame : Frame) : Type 0 where
  pub begins : flow.begin ≤ frame.end
  pub able : (m : ℕ) → m < length frame.kinds → frame.end ≤ (kind_at frame.kinds m).limit
  pub does : (m : ℕ) → m < length frame.kinds → Runs (kind_at frame.kinds m).behaviour (kind_at frame.kinds m) (start_at flow (kind_at frame.kinds m) m) (rows_at flow.runs m) frame.end
  pub long : (c : ℕ) → c < length frame.wires → length (list_at flow.lists c) ≡ entered_by (wire_at frame.wires c).first frame.end
  pub opens : (c token : ℕ) → c < length frame.wires → (wire_at frame.wires c).first ≡ Some token → token ≡ value_at (list_at flow.lists c) flow.begin
  pub given : (c : ℕ) → c < length frame.wires → let p : ℕ = (wire_at frame.wires c).producer in (t : ℕ) → flow.begin ≤ t → t < frame.end → Answers (kind_at frame.kinds p).behaviour (rows_at flow.runs p) (wire_at frame.wires c).out t (value_at (list_at flow.lists c) (entered_by (wire_at frame.wires c).first t))
  pub taken : (c : ℕ) → c < length frame.wires → let q : ℕ = (wire_at frame.wires c).consumer in (t : ℕ) → flow.begin ≤ t → t < frame.end → Asks (kind_at frame.kinds q).behaviour (rows_at flow.runs q) (wire_at frame.wires c).place t (value_at (list_at flow.lists c) t)

-- ---- the wiring

-- The ins and the outs of each machine are in the order of their channels.
pub record IsInOrder (frame : Frame) : Type 0 where
  pub ins : (c d : ℕ) → c < d → d < length frame.wires → (wire_at frame.wires c).consumer ≡ (wire_at frame.wires d).consumer → (wire_at frame.wires c).place < (wire_at frame.wires d).place
  pub outs : (c d : ℕ) → c < d → d < length frame.wires → (wire_at frame.wires c).producer ≡ (wire_at frame.wires d).producer → (wire_at frame.wires c).out < (wire_at frame.wires d).out

-- Each channel leads from an out that exists to an in that exists, and may hold a token. Each in and each out has
-- exactly one channel, and they are in the order of the channels. Needs and fields of ports are ins that exist. Ports
-- that are served are among the machine's ports.
pub record IsWired (frame : Frame) : Type 0 where
  pub some : (c : ℕ) → c < length frame.wires → 0 < (wire_at frame.wires c).capacity
  pub producer : (c : ℕ) → c < length frame.wires → (wire_at frame.wires c).producer < length frame.kinds
  -- the out is one of its producer's, and below, the in is one of its consumer's
  pub out : (c : ℕ) → c < length frame.wires → (wire_at frame.wires c).out < (kind_at frame.kinds (wire_at frame.wires c).producer).outs
  pub consumer : (c : ℕ) → c < length frame.wires → (wire_at frame.wires c).consumer < length frame.kinds
  pub place : (c : ℕ) → c < length frame.wires → (wire_at frame.wires c).place < (kind_at frame.kinds (wire_at frame.wires c).consumer).ins
  -- each in has a channel, and so has each out
  pub into : (m i : ℕ) → m < length frame.kinds → i < (kind_at frame.kinds m).ins → (c : ℕ) × IsAtIn frame.wires m i c
  pub from : (m o : ℕ) → m < length frame.kinds → o < (kind_at frame.kinds m).outs → (c : ℕ) × IsAtOut frame.wires m o c
  -- so two channels don't lead to one in, nor come from one out
  pub order : IsInOrder frame
  pub needs : (m o i : ℕ) → m < length frame.kinds → Contains (needs_at (kind_at frame.kinds m).needs o) i → i < (kind_at frame.kinds m).ins
  pub fields : (m : ℕ) → m < length frame.kinds → All (λ port. All (λ i. i < (kind_at frame.kinds m).ins) (fields_of port.access)) (kind_at frame.kinds m).ports
  pub numbers : (m : ℕ) → m < length frame.kinds → All (λ port. port.number < (kind_at frame.kinds m).port_count) (kind_at frame.kinds m).ports

-- Channel c needs channel d in the same cycle: d is at an in that c's out needs.
pub record NeedsChannel (frame : Frame) (c d : ℕ) : Type 0 where
  pub known : c < length frame.wires
  pub place : ℕ
  pub needed : Contains (needs_at (kind_at frame.kinds (wire_at frame.wires c).producer).needs (wire_at frame.wires c).out) place
  pub at : IsAtIn frame.wires (wire_at frame.wires c).producer place d

-- There is no ring among the needs: each channel has a rank, and needs only channels of lower ranks.
pub record HasNoRing (frame : Frame) : Type 0 where
  pub ranks : List ℕ
  pub lower : (c d : ℕ) → NeedsChannel frame c d → value_at ranks d < value_at ranks c

-- The network is wired, has no ring, and is solved by the flow. No step changes this.
pub record IsSound (flow : Flow) (frame : Frame) : Type 0 where
  pub wired : IsWired frame
  pub no_ring : HasNoRing frame
  pub solves : Solves flow frame

-- ---- a queue

-- A queue is the part of a channel's list from the number of tokens taken to the number of tokens that have entered. It
-- is no longer than the capacity.
pub record BetweenAt (list : List ℕ) (capacity taken entered : ℕ) (queue : List ℕ) : Type 0 where
  pub held : taken + length queue ≡ entered
  pub room : length queue ≤ capacity
  pub tokens : (j : ℕ) → j < length queue → value_at queue j ≡ value_at list (taken + j)

-- ---- a machine

-- The state of a machine in a cycle, after the accesses of its first `served` ports, is the state of its rows. A
-- machine without a piece has none.
abbrev pub IsStateOf : Behaviour → Start → List Port → List (List ℕ) → ℕ → ℕ → State → Type 0
IsStateOf (RunsPiece piece) start ports rows cycle served state = state ≡ served_by (edges_at start.ratios cycle) (ins_of piece (row_at rows cycle)) (run_state piece start rows cycle) (take served ports)
IsStateOf (GivesColumn column) start ports rows cycle served state = state ≡ no_state
IsStateOf (KeepsLast kept) start ports rows cycle served state = state ≡ no_state

-- The values that a tray has kept are the last of a list before this cycle: at most `rows`, none of a cycle before
-- `begin`, and all from there on if there are fewer than `rows`.
pub record HasKept (list : List ℕ) (begin rows cycle : ℕ) (kept : List ℕ) : Type 0 where
  pub base : ℕ
  pub between : BetweenAt list rows base cycle kept
  pub begun : begin ≤ base
  pub whole : length kept < rows → base ≡ begin

-- a tray has kept the last values of a channel that it takes
abbrev pub Keeps : Behaviour → ℕ → List ℕ → ℕ → List ℕ → Type 0
Keeps (RunsPiece piece) begin list cycle kept = ⊤
Keeps (GivesColumn column) begin list cycle kept = ⊤
Keeps (KeepsLast rows) begin list cycle kept = HasKept list begin rows cycle kept

-- a machine that isn't a tray has kept nothing
abbrev pub KeepsNone : Behaviour → List ℕ → Type 0
KeepsNone (RunsPiece piece) kept = kept ≡ []
KeepsNone (GivesColumn column) kept = kept ≡ []
KeepsNone (KeepsLast rows) kept = ⊤

-- This can be the machine at place m. It has the kind of that place. Its cycle isn't before the beginning, nor past the end. Its state is the state
-- of its rows. A latch that isn't empty contains its channel's value of this cycle. An out has given its token only if all that it needs was latched.
-- Ports were served only after all outs had given their tokens, with the ports' fields latched. A tray has kept the last values of its channel,
-- another machine none.
pub record MachineAt (flow : Flow) (frame : Frame) (m : ℕ) (machine : Machine) : Type 0 where
  pub kind : kind_of machine ≡ kind_at frame.kinds m
  pub begun : flow.begin ≤ machine.cycle
  pub within : machine.cycle ≤ frame.end
  pub stands : IsStateOf machine.behaviour (start_at flow (kind_at frame.kinds m) m) machine.ports (rows_at flow.runs m) machine.cycle machine.served machine.state
  pub latched : (c value : ℕ) → c < length frame.wires → (wire_at frame.wires c).consumer ≡ m → latch_at machine.latches (wire_at frame.wires c).place ≡ Some value → (machine.cycle < frame.end) × (value ≡ value_at (list_at flow.lists c) machine.cycle)
  pub fired : (o : ℕ) → flag_at machine.flags o ≡ true → (machine.cycle < frame.end) × (missing machine o ≡ None)
  pub served : machine.served ≤ length machine.ports
  pub serving : 0 < machine.served → AllFired machine
  pub fields : All (HasFields machine.latches) (take machine.served machine.ports)
  pub kept : (c : ℕ) → c < length frame.wires → (wire_at frame.wires c).consumer ≡ m → Keeps machine.behaviour flow.begin (list_at flow.lists c) machine.cycle machine.kept
  pub rest : KeepsNone machine.behaviour machine.kept

-- ---- a network

-- The invariant of a network.
pub record Kept (flow : Flow) (net : Network) : Type 0 where
  pub queues : length net.queues ≡ length net.wires
  pub sound : IsSound flow (frame_of net)
  -- each machine agrees with its rows of the flow in its cycle
  pub machines : (m : ℕ) → m < length net.machines → MachineAt flow (frame_of net) m (machine_at net.machines m)
  -- a queue is the part of its channel's list that has entered and wasn't taken, and is no longer than the capacity
  pub channels : (c : ℕ) → c < length net.wires → BetweenAt (list_at flow.lists c) (wire_at net.wires c).capacity (takes net c) (entered net c) (queue_at net.queues c)
