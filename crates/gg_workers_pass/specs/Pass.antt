-- A pass over one machine: a try of each of its events.
-- Source: MEMOCODE 2009 (a node takes its tokens, gives its tokens and then finishes its cycle, as its latches and flags
-- allow). The choice and the order of the events that a pass tries are this program's own.
use Rattle.std.specs.Prelude.{ℕ, ◌≤◌, max}

-- ---- the counts of one machine

-- A count doesn't fall, and isn't above both the bound and its old value.
pub record RisesTo (bound old new : ℕ) : Type 0 where
  pub up : old ≤ new
  pub within : new ≤ max bound old
