-- Values that are right for the signals that are done, and a complete cycle.
-- Source: FIRRTL Specification (the settled cycle of gg_flat's `Settled`), signal by signal.
use Rattle.std.specs.Prelude.{◌≡◌, ℕ, ◌<◌, List, Bool, length}
use Rattle.gg_flat.specs.Line.{shape_at, value_at}
use Rattle.gg_flat.specs.Circuit.{FlatCircuit, signal_shapes, driver_at}
use Rattle.gg_flat.specs.Reads.{Reads}
use Rattle.gg_flat.specs.State.{State, next_state}
use Rattle.gg_flat.specs.Settled.{Settled, driver_value}
use Rattle.gg_program.specs.Slots.{Slotted, IsDone, AreSlots, inputs_in}

-- Each signal that is done has its driver's value, for the inputs in the places of the in-signals. All that it reads
-- is done.
pub record AreRight (circuit : FlatCircuit) (state : State) (values : List ℕ) (Done : ℕ → Type 0) : Type 0 where
  pub closed : (a b : ℕ) → Done a → Reads circuit a b → Done b
  pub driven : (s : ℕ) → s < length circuit.signals → Done s → value_at values s ≡ driver_value state (inputs_in circuit values) values (shape_at (signal_shapes circuit) s) (driver_at circuit s)

-- slots in a cycle that begins in this state
pub record InCycle (circuit : FlatCircuit) (state : State) (slots : Slotted) : Type 0 where
  pub held : AreSlots circuit slots
  pub right : AreRight circuit state slots.values (IsDone slots)

-- The cycle from one state to another with these edges and inputs: there are settled values, and the other state is
-- the next one by them.
pub record IsCycle (edges : List Bool) (circuit : FlatCircuit) (before : State) (inputs : List ℕ) (after : State) : Type 0 where
  pub signals : List ℕ
  pub settled : Settled circuit before inputs signals
  pub next : after ≡ next_state edges circuit before signals
