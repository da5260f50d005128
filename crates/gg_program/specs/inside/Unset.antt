-- More on Unset: what no promise of the program reaches.
-- Source: MEMOCODE 2009 (a node gives each output as soon as it can); that no assignment is evaluated twice in a cycle is
-- this program's own.
use Rattle.std.specs.Prelude.{ℕ, length}
use Rattle.gg_bits.specs.Lists.{count_below}
use Rattle.gg_flat.specs.Circuit.{FlatCircuit, driver_at}
use Rattle.gg_program.specs.Unset.{is_assignment}

-- the number of signals that aren't in-signals
abbrev pub assignments : FlatCircuit → ℕ
assignments circuit = count_below (λ s. is_assignment (driver_at circuit s)) (length circuit.signals)
