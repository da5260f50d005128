-- Signals listed in an order of evaluation.
-- Source: Knuth, The Art of Computer Programming, volume 1, section 2.2.3, "Topological sorting".
use Rattle.std.specs.Prelude.{ℕ, ◌<◌}
use Rattle.gg_flat.specs.Circuit.{FlatCircuit}
use Rattle.gg_flat.specs.Reads.{Reads}

-- The signals of a circuit are in an order of evaluation: each reads only earlier signals.
abbrev pub IsInOrder : FlatCircuit → Type 0
IsInOrder circuit = (a b : ℕ) → Reads circuit a b → b < a
