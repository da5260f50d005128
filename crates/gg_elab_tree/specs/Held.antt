-- Which signals hold the registers of a flat circuit.
-- Source: FIRRTL Specification, "Registers": a register is one declaration, and its name refers to its state.
use Rattle.std.specs.Prelude.{◌≡◌, ℕ, ◌<◌, length}
use Rattle.gg_flat.specs.declared.piece.Driver.TheVariants.{Held}
use Rattle.gg_flat.specs.Circuit.{FlatCircuit, driver_at}

-- Exactly one signal has the state of register r.
pub record HasOneHolder (circuit : FlatCircuit) (r : ℕ) : Type 0 where
  pub signal : ℕ
  pub within : signal < length circuit.signals
  pub holds : driver_at circuit signal ≡ Held r
  pub only : (s : ℕ) → s < length circuit.signals → driver_at circuit s ≡ Held r → s ≡ signal

-- `HasOneHolder` for each register
abbrev pub AreHeldOnce : FlatCircuit → Type 0
AreHeldOnce circuit = (r : ℕ) → r < length circuit.registers → HasOneHolder circuit r
