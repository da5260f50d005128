-- What a contract sees of a program: a circuit, and what each of its out-signals needs.
-- Source: MEMOCODE 2009 (an output is ready when the inputs that it depends on are there).
use Rattle.std.specs.Prelude.{ℕ, List}
use Rattle.gg_flat.specs.Circuit.{FlatCircuit}

-- a circuit with a list of needs for each out-signal, in port order
pub record Programmed : Type 0 where
  pub circuit : FlatCircuit
  pub needs : List (List ℕ)
