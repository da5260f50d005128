-- More on Right: what no promise of the program reaches.
-- Source: FIRRTL Specification (the settled cycle of gg_flat's `Settled`), signal by signal.
use Rattle.std.specs.Prelude.{◌≢◌, ℕ, ◌<◌, length}
use Rattle.gg_flat.specs.declared.piece.Driver.TheVariants.{Input}
use Rattle.gg_flat.specs.Circuit.{FlatCircuit, driver_at}

-- a signal of the circuit that isn't an in-signal
pub record IsInner (circuit : FlatCircuit) (s : ℕ) : Type 0 where
  pub known : s < length circuit.signals
  pub inner : (place : ℕ) → driver_at circuit s ≢ Input place
