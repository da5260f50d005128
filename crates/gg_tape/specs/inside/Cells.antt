-- What a contract sees of cells.
use Rattle.std.specs.Prelude.{ℕ, List}

-- The values of signals, and how many places of scratch space there are.
pub record Celled : Type 0 where
  pub values : List ℕ
  pub room : ℕ
