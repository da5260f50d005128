-- A lane: what one thread of a host has of its own. The threads share the program and the slots.
-- Source: FAME-5 (one model of several equal units, with the state of each); MEMOCODE 2009 (a node with a latch for
-- each input and a flag for each output).
use Rattle.std.specs.Prelude.{◌≡◌, ◌↔◌, ℕ, suc, ◌+◌, ◌<◌, List, [], ◌∷◌, Option, Some, None, Bool, true, false, IsSome, length, replicate, slice_set}
use Rattle.gg_bits.specs.Shape.{Fits}
use Rattle.gg_flat.specs.Clock.{Ratio}
use Rattle.gg_flat.specs.Line.{shape_at, value_at}
use Rattle.gg_flat.specs.Circuit.{FlatCircuit}
use Rattle.gg_flat.specs.State.{State, IsState}
use Rattle.gg_flat.specs.Settled.{in_shapes}
use Rattle.gg_node.specs.Machine.{Machine, latch_at}
use Rattle.gg_program.specs.Programmed.{Programmed}
use Rattle.gg_program.specs.Slots.{Slotted, HasInput, inputs_in}
use Rattle.gg_program.specs.Right.{InCycle}
use Rattle.gg_fame5.specs.Machine.{unit_machine}
use Rattle.gg_fame5.specs.inside.Fork.{out_of, out_count, AreOuts, forked}

-- A lane: which outs of the program it has, a ratio for each clock, the cycle that it is in, its state, its latches and its flags.
pub record Laned : Type 0 where
  -- the places of the program's outs that the lane gives; all of them where there is no list
  pub outs : Option (List ℕ)
  pub ratios : List Ratio
  pub cycle : ℕ
  pub state : State
  pub latches : List (Option ℕ)
  pub flags : List Bool

-- the machine of a lane: it runs the program, with the lane's cycle, state, latches and flags
abbrev pub lane_machine : Programmed → Laned → Machine
lane_machine program lane = unit_machine (forked program lane.outs) lane.ratios lane.cycle lane.state lane.latches lane.flags

-- the signal that an out of a lane gives
abbrev pub out_signal : FlatCircuit → Laned → ℕ → ℕ
out_signal circuit lane o = value_at circuit.outs (out_of lane.outs o)

-- ---- the steps of a lane

-- a lane that begins in this state, with this cycle
abbrev pub started_lane : FlatCircuit → Option (List ℕ) → List Ratio → State → ℕ → Laned
started_lane circuit outs ratios state cycle =
    record {
      outs = outs;
      ratios = ratios;
      cycle = cycle;
      state = state;
      latches = replicate (length circuit.ins) None;
      flags = replicate (out_count (length circuit.outs) outs) false;
    }

-- the lane with a token in the latch of an in
abbrev pub latched_lane : Laned → ℕ → ℕ → Laned
latched_lane lane i value = record lane { latches = slice_set lane.latches i (Some value) }

-- the lane with the flag of an out set
abbrev pub fired_lane : Laned → ℕ → Laned
fired_lane lane o = record lane { flags = slice_set lane.flags o true }

-- the lane in its next cycle, with this state, all latches empty and all flags clear
abbrev pub finished_lane : Laned → State → Laned
finished_lane lane next =
    record lane {
      cycle = suc lane.cycle;
      state = next;
      latches = replicate (length lane.latches) None;
      flags = replicate (length lane.flags) false;
    }

-- 1 if a latch is empty
abbrev pub one_if_empty : Option ℕ → ℕ
one_if_empty None = 1
one_if_empty (Some value) = 0

-- the number of latches that are empty
abbrev pub empty_count : List (Option ℕ) → ℕ
empty_count [] = 0
empty_count (latch ∷ latches) = empty_count latches + one_if_empty latch

-- ---- what a lane keeps to

-- A lane belongs to a circuit: it has outs of the circuit, a state, a latch for each in-signal and a flag for each out.
-- Each token has its in's type.
pub record IsLane (circuit : FlatCircuit) (lane : Laned) : Type 0 where
  pub known : AreOuts circuit lane.outs
  pub typed : IsState circuit lane.state
  pub ins : length lane.latches ≡ length circuit.ins
  pub outs : length lane.flags ≡ out_count (length circuit.outs) lane.outs
  pub fit : (i value : ℕ) → latch_at lane.latches i ≡ Some value → Fits (shape_at (in_shapes circuit) i) value

-- for each latch that holds a token, the inputs have this token
abbrev pub HaveTokens : List (Option ℕ) → List ℕ → Type 0
HaveTokens latches inputs = (i value : ℕ) → latch_at latches i ≡ Some value → value_at inputs i ≡ value

-- exactly the inputs with a token in their latch were put
abbrev pub ArePut : FlatCircuit → Slotted → List (Option ℕ) → Type 0
ArePut circuit slots latches = (i : ℕ) → i < length circuit.ins → HasInput circuit slots i ↔ IsSome (latch_at latches i)

-- Slots hold a lane: they are in a cycle that begins in its state, and the inputs that were put are the tokens in its
-- latches.
pub record Hold (circuit : FlatCircuit) (slots : Slotted) (lane : Laned) : Type 0 where
  pub cycle : InCycle circuit lane.state slots
  pub put : ArePut circuit slots lane.latches
  pub tokens : HaveTokens lane.latches (inputs_in circuit slots.values)
