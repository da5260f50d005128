-- How many signals have still to be evaluated in a cycle.
-- Source: MEMOCODE 2009 (a node gives each output as soon as it can); that no assignment is evaluated twice in a cycle is
-- this program's own.
use Rattle.std.specs.Prelude.{ℕ, List, length, Bool, true, false}
use Rattle.gg_bits.specs.Lists.{count_below}
use Rattle.gg_flat.specs.declared.piece.Driver.{Driver}
use Rattle.gg_flat.specs.declared.piece.Driver.TheVariants.{Input, Held, MemoryWord, ReadRegister, Computed}
use Rattle.gg_flat.specs.Circuit.{FlatCircuit, driver_at}
use Rattle.gg_flat.specs.Reads.{Reaches}
use Rattle.gg_order.specs.Marks.{is_marked}
use Rattle.gg_program.specs.Slots.{Slotted, IsDone}

-- a driver that isn't an input
abbrev pub is_assignment : Driver → Bool
is_assignment (Input place) = false
is_assignment (Held register) = true
is_assignment (MemoryWord memory reader addr en) = true
is_assignment (ReadRegister memory reader) = true
is_assignment (Computed line) = true

-- a signal isn't marked, and isn't an in-signal
abbrev pub waits : Bool → Driver → Bool
waits true driver = false
waits false driver = is_assignment driver

-- the number of signals that aren't in-signals and aren't marked
abbrev pub unset_among : FlatCircuit → List Bool → ℕ
unset_among circuit marks = count_below (λ s. waits (is_marked marks s) (driver_at circuit s)) (length circuit.signals)

-- the number of signals that aren't in-signals and aren't done
abbrev pub unset : FlatCircuit → Slotted → ℕ
unset circuit slots = unset_among circuit slots.done

-- all that a signal reaches is done
abbrev pub IsConeDone : FlatCircuit → ℕ → Slotted → Type 0
IsConeDone circuit out slots = (s : ℕ) → Reaches circuit out s → IsDone slots s
