-- What a network cut out of a circuit computes.
-- Source: MEMOCODE 2009 (the values of each channel, cycle by cycle); ICCAD 2019 for target cycles as rows.
use Rattle.std.specs.Prelude.{ℕ, List, [], slice_index_or}
use Rattle.gg_flat.specs.State.{State}

-- What a network computes: the values that each channel carries, by cycle, after the token that it opens with; the rows of each machine's
-- run, by cycle; the first cycle; and the first state of each machine.
pub record Flow : Type 0 where
  pub lists : List (List ℕ)
  pub runs : List (List (List ℕ))
  pub begin : ℕ
  pub states : List State

-- the first state of machine m; past the end it holds nothing
abbrev pub state_in : List State → ℕ → State
state_in states m = slice_index_or states m (record { registers = []; banks = [] })
