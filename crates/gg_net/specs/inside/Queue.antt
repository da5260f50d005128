-- The queue of a channel: its tokens, and how many of them it has room for.
-- Source: MEMOCODE 2009 (queues of a bounded length between the nodes of a network).
use Rattle.std.specs.Prelude.{◌≡◌, ℕ, ◌-◌, ◌<◌, List, [], Option, MatchOption, length}
use Rattle.std.specs.VecDeque.{deque_capacity}
use Rattle.std.specs.declared.collections.VecDeque.{VecDeque}
use Rattle.gg_flat.specs.Line.{value_at}

-- The tokens of a queue, the front first, and how many of them it has room for.
pub record Held : Type 0 where
  pub tokens : List ℕ
  pub room : ℕ

-- the tokens and the room of a deque of the standard library
abbrev pub held_of : {Z : Type 0} → VecDeque ℕ Z → Held
held_of tokens = record { tokens = tokens.items; room = deque_capacity tokens }

-- This is the token at the back of a queue, if it has any.
abbrev pub IsNewest : (queue : List ℕ) → Option ℕ → Type 0
IsNewest queue newest = MatchOption newest
    -- The queue is empty.
    (queue ≡ [])
    -- Or it has a token, and this is its last one.
    (λ token. (0 < length queue) × (token ≡ value_at queue (length queue - 1)))
