-- Registers that are held once.
-- Source: FIRRTL Specification, "Registers": a register is a circuit component of its own, so its value is that of one signal.
use Rattle.std.specs.Prelude.{◌≡◌, ℕ, ◌<◌, length}
use Rattle.gg_flat.specs.declared.piece.Driver.TheVariants.{Held}
use Rattle.gg_flat.specs.Circuit.{FlatCircuit, driver_at}

-- No two signals hold one register.
abbrev pub AreHeldOnce : FlatCircuit → Type 0
AreHeldOnce circuit = (s t r : ℕ) → s < length circuit.signals → t < length circuit.signals → driver_at circuit s ≡ Held r → driver_at circuit t ≡ Held r → s ≡ t
