-- What may be connected in a well-formed flat circuit.
-- Source: FIRRTL Specification, "Connects", "Registers".
use Rattle.std.specs.Prelude.{ℕ, ◌<◌, List, Option, MatchOption, length, All, ⊤}
use Rattle.gg_bits.specs.Shape.{Shape}
use Rattle.gg_flat.specs.declared.piece.Driver.{Driver}
use Rattle.gg_flat.specs.declared.piece.Driver.TheVariants.{Input, Held, MemoryWord, ReadRegister, Computed}
use Rattle.gg_flat.specs.declared.piece.Register.{Register}
use Rattle.gg_flat.specs.Circuit.{FlatCircuit, signal_shapes, driver_at}
use Rattle.gg_flat.specs.Line.{shape_at, HasType, IsSource}
use Rattle.gg_flat.specs.WellFormed.{IsRegister}

-- a line that drives a signal of this shape may be connected to it, among signals of these shapes
abbrev pub FitsDriver : List Shape → Shape → Driver → Type 0
FitsDriver shapes sink (Input place) = Unit {0}
FitsDriver shapes sink (Held register) = Unit {0}
FitsDriver shapes sink (MemoryWord memory reader addr en) = Unit {0}
FitsDriver shapes sink (ReadRegister memory reader) = Unit {0}
FitsDriver shapes sink (Computed line) = IsSource (HasType shapes) sink line

-- `FitsDriver`, and the register, if there is one, takes its lines
abbrev pub IsFitting : List Shape → Shape → Driver → Option Register → Type 0
IsFitting shapes sink driver register = FitsDriver shapes sink driver × MatchOption register ⊤ (IsRegister (HasType shapes))

-- Each line of a flat circuit may be connected to the signal that it drives, and each register takes its lines.
pub record AreFitting (flat : FlatCircuit) : Type 0 where
  pub drivers : (s : ℕ) → s < length flat.signals → FitsDriver (signal_shapes flat) (shape_at (signal_shapes flat) s) (driver_at flat s)
  pub registers : All (IsRegister (HasType (signal_shapes flat))) flat.registers
