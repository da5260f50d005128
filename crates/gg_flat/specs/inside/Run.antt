-- More on Run: what no promise of the program reaches.
-- Source: FIRRTL Specification, "Registers" (a state at a time); ICCAD 2019 for target cycles as rows. A cycle is a base tick, where some
-- of the circuit's clocks have an edge.
use Rattle.std.specs.Prelude.{ℕ, List}
use Rattle.gg_flat.specs.Circuit.{FlatCircuit}
use Rattle.gg_flat.specs.Run.{Start, later, state_at}

-- the start of the rest of a run, after t cycles
abbrev pub after_rows : FlatCircuit → Start → List (List ℕ) → ℕ → Start
after_rows circuit start rows t = record { cycle = later start.cycle t; state = state_at circuit start rows t; ratios = start.ratios }
