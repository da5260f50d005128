-- More on Settled: what no promise of the program reaches.
-- Source: FIRRTL Specification, "Connects", "Nodes", "Wires", "Registers", "Memories"; the meaning of a cycle without a
-- combinational loop. It is a relation on whole assignments, with no order of evaluation.
use Rattle.std.specs.Prelude.{ℕ, ◌<◌, List, length}
use Rattle.gg_bits.specs.Shape.{Shape, Fits}
use Rattle.gg_flat.specs.declared.piece.Driver.{Driver}
use Rattle.gg_flat.specs.declared.piece.Driver.TheVariants.{Input, Held, MemoryWord, ReadRegister, Computed}
use Rattle.gg_flat.specs.Line.{value_at, IsSource}
use Rattle.gg_flat.specs.inside.Line.{HasValue}
use Rattle.gg_flat.specs.Memory.{bank_at}
use Rattle.gg_flat.specs.State.{State}

-- A driver can be evaluated: its input, register, memory or line exists, and has a type that the signal takes.
abbrev pub HasSource : State → List ℕ → List ℕ → Shape → Driver → Type 0
HasSource state inputs signals sink (Input place) = (place < length inputs) × Fits sink (value_at inputs place)
HasSource state inputs signals sink (Held register) = (register < length state.registers) × Fits sink (value_at state.registers register)
HasSource state inputs signals sink (MemoryWord memory reader addr en) = (memory < length state.banks) × (addr < length signals) × (en < length signals) × ((a : ℕ) → Fits sink (value_at (bank_at state.banks memory).words a))
HasSource state inputs signals sink (ReadRegister memory reader) = (memory < length state.banks) × (reader < length (bank_at state.banks memory).reads) × Fits sink (value_at (bank_at state.banks memory).reads reader)
HasSource state inputs signals sink (Computed line) = IsSource (HasValue signals) sink line
