-- The rule of a queue: it has the stream's values that were put and not taken, and its passes know their counts.
-- Source: MEMOCODE 2009 (a queue holds the tokens that were put and not yet taken, in order, at most its bound).
use Rattle.std.specs.Prelude.{◌≡◌, ℕ, ◌+◌, ◌≤◌, true, false, List, [], ◌++◌, length}
use mathlib.Core.Option.{some}
use lib.ListN.{get_elem?}
use Rattle.gg_ruled.specs.declared.rule.View.{View}

-- ---- the kinds of view

-- the view of a seat that puts
abbrev pub putter : List ℕ → ℕ → ℕ → View
putter stream room put = record { puts = true; takes = false; stream = stream; capacity = room; put = put; taken = 0; known = 0 }

-- the view of a seat that takes and knows of `known` puts
abbrev pub taker : List ℕ → ℕ → ℕ → ℕ → View
taker stream room taken known = record { puts = false; takes = true; stream = stream; capacity = room; put = 0; taken = taken; known = known }

-- the view of the one seat of a queue that no two threads share
abbrev pub whole : List ℕ → ℕ → ℕ → ℕ → View
whole stream room put taken = record { puts = true; takes = true; stream = stream; capacity = room; put = put; taken = taken; known = 0 }

-- the view of a seat that was joined into another
abbrev pub spent : View
spent = record { puts = false; takes = false; stream = []; capacity = 0; put = 0; taken = 0; known = 0 }

-- ---- steps

-- one more value was put
abbrev pub has_put : View → View
has_put v = record v { put = v.put + 1 }

-- one more value was taken
abbrev pub has_taken : View → View
has_taken v = record v { taken = v.taken + 1 }

-- ---- the rule

-- What the seat that puts knows, after `tail` puts.
pub record FitsPut (stream : List ℕ) (room tail : ℕ) (v : View) : Type 0 where
  pub stream_is : v.stream ≡ stream
  pub capacity_is : v.capacity ≡ room
  pub count : v.put ≡ tail

-- What the seat that takes knows, after `head` takes and `tail` puts.
pub record FitsTake (stream : List ℕ) (room head tail : ℕ) (v : View) : Type 0 where
  pub stream_is : v.stream ≡ stream
  pub capacity_is : v.capacity ≡ room
  pub count : v.taken ≡ head
  pub known : v.known ≤ tail

-- Seat `id`: if it may put it is seat p, and if it may take it is seat t.
abbrev pub Fits : List ℕ → ℕ → ℕ → ℕ → ℕ → ℕ → ℕ → View → Type 0
Fits stream room head tail p t id v = (v.puts ≡ true → (id ≡ p) × FitsPut stream room tail v) × (v.takes ≡ true → (id ≡ t) × FitsTake stream room head tail v)

-- The invariant of a queue, by its items and the views of its passes. The items are the values of the stream that were put and not taken, in order,
-- and no more than it has room for. Each view agrees with them.
pub record Keeps (items : List ℕ) (views : List View) : Type 0 where
  -- the seat that puts, and the seat that takes
  pub putter : ℕ
  pub taker : ℕ
  pub stream : List ℕ
  pub room : ℕ
  -- the values that were taken, and the values that weren't put yet
  pub done : List ℕ
  pub rest : List ℕ
  pub stream_is : stream ≡ done ++ (items ++ rest)
  pub few : length items ≤ room
  pub fits : (id : ℕ) (v : View) → get_elem? views id ≡ some v → Fits stream room (length done) (length done + length items) putter taker id v
