-- Machines: parts of a circuit that run separately and pass one another a token for each cycle.
-- Source: MEMOCODE 2009 (a bounded dataflow network: primitive nodes with a latch for each input and a flag for each
-- output that was given in this cycle); ICCAD 2019 (units of a target in separate models; memories that a host serves
-- port by port).
use Rattle.std.specs.Prelude.{ℕ, ◌-◌, List, [], ◌∷◌, Option, Some, None, Bool, false, ◌&&◌, if◌then◌else◌, length, map, nat_le, nat_lt, replicate, slice_index_or, slice_get}
use Rattle.gg_flat.specs.Clock.{Ratio, edges_at}
use Rattle.gg_flat.specs.Circuit.{FlatCircuit}
use Rattle.gg_flat.specs.State.{State}
use Rattle.gg_flat.specs.Served.{Access}

-- What a machine does. It runs a flat circuit, gives the values of a column one by one at each of its outs, or keeps
-- the last values that it gets, at most this many.
pub data Behaviour : Type 0 where
  RunsPiece : FlatCircuit → Behaviour
  GivesColumn : List ℕ → Behaviour
  KeepsLast : ℕ → Behaviour

-- A port of a memory that is served port by port: its number and its access. Readers are numbered first, then writers.
-- The access gives its fields by their places among the ins.
pub record Port : Type 0 where
  pub number : ℕ
  pub access : Access

-- A machine. It has ins and outs, given by their places. These fields never change: `limit` is the number of cycles
-- that it can do. `ratios` has a ratio for each clock of its piece. `needs` has for each out the ins that its token
-- depends on. `port_count` is the number of ports of its memory, and `ports` are the ports that are served in a cycle,
-- in their order; if the piece isn't a memory that is served there are 0 and none. (A reader that gives its word in the
-- same cycle is a port that no step serves.) The other fields change: `cycle` is the cycle that it is in, `state` the
-- state of its piece, and `served` the number of ports that were served in this cycle. `latches` has for each in the
-- token of this cycle or nothing, `flags` says for each out whether it has given its token, and `kept` are the values
-- that it has kept.
pub record Machine : Type 0 where
  pub behaviour : Behaviour
  pub limit : ℕ
  pub ratios : List Ratio
  pub needs : List (List ℕ)
  pub port_count : ℕ
  pub ports : List Port
  pub cycle : ℕ
  pub state : State
  pub served : ℕ
  pub latches : List (Option ℕ)
  pub flags : List Bool
  pub kept : List ℕ

-- the state of a machine that has no piece
abbrev pub no_state : State
no_state = record { registers = []; banks = [] }

-- a machine that can do nothing
abbrev pub no_machine : Machine
no_machine = record { behaviour = KeepsLast 0; limit = 0; ratios = []; needs = []; port_count = 0; ports = []; cycle = 0; state = no_state; served = 0; latches = []; flags = []; kept = [] }

-- the machine at a place; past the end one that does nothing
abbrev pub machine_at : List Machine → ℕ → Machine
machine_at machines t = slice_index_or machines t no_machine

-- the edges of the tick that a machine is in
abbrev pub edges_of : Machine → List Bool
edges_of machine = edges_at machine.ratios machine.cycle

-- the latch of an in; past the end it is empty
abbrev pub latch_at : List (Option ℕ) → ℕ → Option ℕ
latch_at latches i = slice_index_or latches i None

-- the flag of an out; past the end it is clear
abbrev pub flag_at : List Bool → ℕ → Bool
flag_at flags o = slice_index_or flags o false

-- the ins that an out needs; past the end there are none
abbrev pub needs_at : List (List ℕ) → ℕ → List ℕ
needs_at needs o = slice_index_or needs o []

-- the token in a latch; 0 if the latch is empty
abbrev pub latched_value : Option ℕ → ℕ
latched_value None = 0
latched_value (Some value) = value

-- the tokens in the latches, in order; 0 for an empty latch
abbrev pub latched_values : List (Option ℕ) → List ℕ
latched_values latches = map latched_value latches

-- an in if its latch is empty, otherwise `rest`
abbrev pub empty_or : Option ℕ → ℕ → Option ℕ → Option ℕ
empty_or None i rest = Some i
empty_or (Some value) i rest = rest

-- the first of these ins with an empty latch
abbrev pub first_empty : List (Option ℕ) → List ℕ → Option ℕ
first_empty latches [] = None
first_empty latches (i ∷ ins) = empty_or (latch_at latches i) i (first_empty latches ins)

-- the first in that an out needs and that has no token yet, if there is one
abbrev pub missing : Machine → ℕ → Option ℕ
missing machine o = first_empty machine.latches (needs_at machine.needs o)

-- ---- the two machines without a piece

-- a machine that gives a column; it is in this cycle, and its outs have these flags
abbrev pub source_machine : List ℕ → ℕ → List Bool → Machine
source_machine column cycle flags = record { behaviour = GivesColumn column; limit = length column; ratios = []; needs = replicate (length flags) []; port_count = 0; ports = []; cycle = cycle; state = no_state; served = 0; latches = []; flags = flags; kept = [] }

-- a machine that keeps the last values, at most `rows`, and can do `limit` cycles; it is in this cycle, has kept these
-- values, and its only in has this latch
abbrev pub tray_machine : ℕ → ℕ → ℕ → List ℕ → Option ℕ → Machine
tray_machine rows limit cycle kept latch = record { behaviour = KeepsLast rows; limit = limit; ratios = []; needs = []; port_count = 0; ports = []; cycle = cycle; state = no_state; served = 0; latches = latch ∷ []; flags = []; kept = kept }

-- the first cycle with a kept value; the kept values are of the cycles just before the current one
abbrev pub first_kept : Machine → ℕ
first_kept machine = machine.cycle - length machine.kept

-- the value of a cycle, if the machine keeps it
abbrev pub kept_value : Machine → ℕ → Option ℕ
kept_value machine cycle = if nat_le (first_kept machine) cycle && nat_lt cycle machine.cycle then slice_get machine.kept (cycle - first_kept machine) else None
