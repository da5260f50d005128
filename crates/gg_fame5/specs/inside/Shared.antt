-- Several threads of one program on one host.
-- Source: FAME-5 (one model of several equal units, with the state of each); MEMOCODE 2009 for a node's latches and
-- flags.
use Rattle.std.specs.Prelude.{◌≡◌, ℕ, ◌<◌, ◌^◌, List, [], All, length, None, Some, map, replicate, nat_eq, slice_index_or, if◌then◌else◌}
use Rattle.std.specs.List.{range_with_len}
use Rattle.gg_flat.specs.Clock.{Ratio}
use Rattle.gg_flat.specs.Circuit.{FlatCircuit}
use Rattle.gg_flat.specs.State.{State, opening}
use Rattle.gg_flat.specs.Streams.{state_in}
use Rattle.gg_node.specs.Machine.{Machine, no_state}
use Rattle.gg_program.specs.Programmed.{Programmed}
use Rattle.gg_program.specs.Slots.{Slotted}
use Rattle.gg_program.specs.Unset.{unset, IsConeDone}
use Rattle.gg_program.specs.inside.Unset.{assignments}
use Rattle.gg_fame5.specs.Machine.{started_unit}
use Rattle.gg_fame5.specs.inside.Fork.{forked}
use Rattle.gg_fame5.specs.inside.Lane.{Laned, lane_machine, started_lane, out_signal, IsLane, Hold}

-- a program, a lane for each thread, the thread that has the turn, and the slots
pub record Sharing : Type 0 where
  pub program : Programmed
  pub lanes : List Laned
  pub turn : ℕ
  pub slots : Slotted

-- a lane without ins and outs
abbrev pub no_lane : Laned
no_lane = record { outs = None; ratios = []; cycle = 0; state = no_state; latches = []; flags = [] }

-- the lane of a thread; past the end an empty one
abbrev pub lane_at : List Laned → ℕ → Laned
lane_at lanes t = slice_index_or lanes t no_lane

-- the machines of the lanes, one for each thread
abbrev pub machines_of : Sharing → List Machine
machines_of shared = map (lane_machine shared.program) shared.lanes

-- There are threads, fewer than 2^32. The lane of each belongs to the circuit. The slots hold the lane of the thread
-- that has the turn.
pub record IsSharing (circuit : FlatCircuit) (lanes : List Laned) (turn : ℕ) (slots : Slotted) : Type 0 where
  pub some : turn < length lanes
  pub few : length lanes < 2 ^ 32
  pub each : All (IsLane circuit) lanes
  pub held : Hold circuit slots (lane_at lanes turn)

-- ---- how threads begin

-- lanes that begin in these states, with this cycle: each has its own list of outs and its own list of ratios
abbrev pub started_lanes : FlatCircuit → List (List ℕ) → List (List Ratio) → List State → ℕ → List Laned
started_lanes circuit outs ratios states cycle = map (λ t. started_lane circuit (Some (slice_index_or outs t [])) (slice_index_or ratios t []) (state_in states t) cycle) (range_with_len 0 (length outs))

-- machines that begin in these states, with this cycle: each has its own list of outs and its own list of ratios
abbrev pub started_machines : Programmed → List (List ℕ) → List (List Ratio) → List State → ℕ → List Machine
started_machines program outs ratios states cycle = map (λ t. started_unit (forked program (Some (slice_index_or outs t []))) (slice_index_or ratios t []) (state_in states t) cycle) (range_with_len 0 (length outs))

-- machines before their first cycle
abbrev pub opening_machines : Programmed → List (List ℕ) → List (List Ratio) → List Machine
opening_machines program outs ratios = started_machines program outs ratios (replicate (length outs) (opening program.circuit)) 0

-- ---- what has still to be evaluated

-- the number of signals that have to be evaluated for a thread: all assignments, unless it has the turn
abbrev pub unset_of : Sharing → ℕ → ℕ
unset_of shared t = if nat_eq shared.turn t then unset shared.program.circuit shared.slots else assignments shared.program.circuit

-- a thread has the turn, and all that an out of it reaches is done
pub record IsConeDoneOf (shared : Sharing) (t o : ℕ) : Type 0 where
  pub turn : shared.turn ≡ t
  pub cone : IsConeDone shared.program.circuit (out_signal shared.program.circuit (lane_at shared.lanes t) o) shared.slots
