-- An order of evaluation: every signal once, after all that it reads. No definition of a cycle or a run depends on it.
-- Source: Knuth, The Art of Computer Programming, volume 1, section 2.2.3, "Topological sorting".
use Rattle.std.specs.Prelude.{◌≢◌, ℕ, ◌<◌, List, length, take, Contains, AllPairs}
use Rattle.gg_flat.specs.Line.{value_at}
use Rattle.gg_flat.specs.Circuit.{FlatCircuit}
use Rattle.gg_flat.specs.Reads.{Reads}

-- An order of a circuit's signals, by their numbers.
pub record IsOrder (circuit : FlatCircuit) (order : List ℕ) : Type 0 where
  pub signals : (i : ℕ) → i < length order → value_at order i < length circuit.signals
  pub once : AllPairs (λ a b. a ≢ b) order
  pub every : (s : ℕ) → s < length circuit.signals → Contains order s
  -- all that a signal reads is before it
  pub after : (i s : ℕ) → i < length order → Reads circuit (value_at order i) s → Contains (take i order) s
