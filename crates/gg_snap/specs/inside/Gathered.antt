-- The state of a circuit, gathered from the machines of a network and from the queues of its pipes.
-- Source: MEMOCODE 2009 (the registers and memories of a part have their values in the whole; a pipe's register is the token in its channel).
use Rattle.std.specs.Prelude.{◌≡◌, ℕ, ◌-◌, ◌<◌, ◌≤◌, List, [], All, Bool, Contains, drop, filter, length, map, slice_index_or, true, ⊤, ◌&&◌, ◌==◌}
use Rattle.std.specs.List.{list_any, range_with_len}
use Rattle.gg_flat.specs.Circuit.{FlatCircuit}
use Rattle.gg_flat.specs.Line.{value_at}
use Rattle.gg_flat.specs.Memory.{bank_at}
use Rattle.gg_flat.specs.State.{State, opening}
use Rattle.gg_cut_plan.specs.declared.plan.Body.{Body}
use Rattle.gg_cut_plan.specs.declared.plan.Body.TheVariants.{Cut, Memory, Source, Tray, Bridge}
use Rattle.gg_cut_plan.specs.declared.plan.Channel.{Channel}
use Rattle.gg_cut_plan.specs.declared.plan.Plan.{Plan}
use Rattle.gg_node.specs.Machine.{Machine, RunsPiece, machine_at}
use Rattle.gg_net.specs.Network.{Network, queue_at}
use Rattle.gg_build.specs.plan.Built.{machine_in}
use Rattle.gg_snap.specs.inside.Parts.{HasSizeOf, IsPartState}

-- a machine runs a piece
pub record IsRunning (machine : Machine) : Type 0 where
  pub piece : FlatCircuit
  pub is : machine.behaviour ≡ RunsPiece piece

-- The registers of the circuit that a machine with this body holds. A bridge has none of them: its model has its own.
abbrev pub held_by : Body → List ℕ
held_by (Cut part) = part.held
held_by (Memory part) = []
held_by (Source place) = []
held_by Tray = []
held_by (Bridge bridge) = []

-- the memories that a machine has, by their numbers in the circuit; only a part has some
abbrev pub kept_by : Body → List ℕ
kept_by (Cut part) = part.memories
kept_by (Memory part) = part.memories
kept_by (Source place) = []
kept_by Tray = []
kept_by (Bridge bridge) = []

-- A machine is in its part of a state. The numbers of its registers are below `registers`, and the numbers of its memories below `banks`.
pub record HoldsPart (whole : State) (registers banks : ℕ) (held memories : List ℕ) (machine : Machine) : Type 0 where
  pub running : IsRunning machine
  pub part : IsPartState whole held memories machine.state
  pub known_registers : All (λ r. r < registers) held
  pub known_memories : All (λ m. m < banks) memories

-- A machine with this body is in its part of a state. A source and a tray have none. A state is one of a circuit without bridges, so no
-- machine is a bridge.
abbrev pub HoldsBody : State → (registers banks : ℕ) → Body → Machine → Type 0
HoldsBody whole registers banks (Cut part) machine = HoldsPart whole registers banks part.held part.memories machine
HoldsBody whole registers banks (Memory part) machine = HoldsPart whole registers banks [] part.memories machine
HoldsBody whole registers banks (Source place) machine = ⊤
HoldsBody whole registers banks Tray machine = ⊤
HoldsBody whole registers banks (Bridge bridge) machine = ⊥

-- Each machine of the plan's network is in its part of a state of the circuit.
pub record AreIn (circuit : FlatCircuit) (plan : Plan) (net : Network) (whole : State) : Type 0 where
  pub sizes : (m : ℕ) → HasSizeOf (bank_at whole.banks m) (bank_at (opening circuit).banks m)
  pub each : (m : ℕ) → m < length plan.machines → HoldsBody whole (length circuit.registers) (length circuit.memories) (machine_in plan m).body (machine_at net.machines m)

-- ---- pipes

-- the last token that entered a queue; 0 if it is empty
abbrev pub newest : List ℕ → ℕ
newest queue = value_at queue (length queue - 1)

-- the last token of each channel
abbrev pub newest_tokens : List (List ℕ) → (count : ℕ) → List ℕ
newest_tokens queues count = map (λ c. newest (queue_at queues c)) (range_with_len 0 count)

-- whether a channel with a pipe has this signal
abbrev pub is_piped_by : List Channel → ℕ → Bool
is_piped_by channels s = list_any (λ channel. channel.pipe && (channel.signal == s)) channels

-- how many numbers below n pass a test
abbrev pub number_below : (ℕ → Bool) → ℕ → ℕ
number_below test n = length (filter test (range_with_len 0 n))

-- The number of the pipe of a signal: how many signals before it, by their numbers, have a pipe.
abbrev pub pipe_number : List Channel → ℕ → ℕ
pipe_number channels s = number_below (is_piped_by channels) s

-- how many signals have a pipe, in a circuit with this many signals
abbrev pub pipe_count : List Channel → (signals : ℕ) → ℕ
pipe_count channels signals = pipe_number channels signals

-- For each signal that has a pipe, by their numbers, the token of its channel.
pub record ArePipes (channels : List Channel) (signals : ℕ) (tokens pipes : List ℕ) : Type 0 where
  pub count : length pipes ≡ pipe_count channels signals
  pub each : (c : ℕ) (any : Channel) → c < length channels → (slice_index_or channels c any).pipe ≡ true → value_at pipes (pipe_number channels (slice_index_or channels c any).signal) ≡ value_at tokens c

-- No two channels with a pipe have one signal.
abbrev pub AreApart : List Channel → Type 0
AreApart channels =
    (c d : ℕ) (any : Channel) → c < length channels → d < length channels → (slice_index_or channels c any).pipe ≡ true → (slice_index_or channels d any).pipe ≡ true → (slice_index_or channels c any).signal ≡ (slice_index_or channels d any).signal → c ≡ d

-- Each channel's signal has its number, and there is room for each pipe.
pub record HaveNumbers (channels : List Channel) (numbers : List ℕ) (room : ℕ) : Type 0 where
  pub known : All (λ channel. channel.signal < length numbers) channels
  pub is : (s : ℕ) → s < length numbers → value_at numbers s ≡ pipe_number channels s
  pub fits : (s : ℕ) → is_piped_by channels s ≡ true → pipe_number channels s < room

-- ---- the whole state

-- some machine of the plan holds register r
pub record IsHeldBy (plan : Plan) (r : ℕ) : Type 0 where
  pub at_machine : ℕ
  pub known : at_machine < length plan.machines
  pub holds : Contains (held_by (machine_in plan at_machine).body) r

-- some machine of the plan has memory k
pub record IsKeptBy (plan : Plan) (k : ℕ) : Type 0 where
  pub at_machine : ℕ
  pub known : at_machine < length plan.machines
  pub keeps : Contains (kept_by (machine_in plan at_machine).body) k

-- The machines and the queues of the network have all of a state: each register and each memory of the circuit, and the pipes after them.
pub record IsAll (circuit : FlatCircuit) (plan : Plan) (net : Network) (whole : State) : Type 0 where
  pub register_count : length circuit.registers ≤ length whole.registers
  pub bank_count : length whole.banks ≡ length circuit.memories
  pub registers : (r : ℕ) → r < length circuit.registers → IsHeldBy plan r
  pub memories : (k : ℕ) → k < length circuit.memories → IsKeptBy plan k
  pub pipes : ArePipes plan.channels (length circuit.signals) (newest_tokens net.queues (length plan.channels)) (drop (length circuit.registers) whole.registers)

-- A state has the parts of another that the first machines of the plan have.
pub record AreDone (plan : Plan) (whole : State) (count : ℕ) (state : State) : Type 0 where
  pub registers : (k r : ℕ) → k < count → Contains (held_by (machine_in plan k).body) r → value_at state.registers r ≡ value_at whole.registers r
  pub memories : (k m : ℕ) → k < count → Contains (kept_by (machine_in plan k).body) m → bank_at state.banks m ≡ bank_at whole.banks m

-- a state has exactly the circuit's own registers, and its memories with their sizes
pub record IsSized (circuit : FlatCircuit) (state : State) : Type 0 where
  pub registers : length state.registers ≡ length circuit.registers
  pub banks : length state.banks ≡ length circuit.memories
  pub sizes : (m : ℕ) → HasSizeOf (bank_at state.banks m) (bank_at (opening circuit).banks m)
