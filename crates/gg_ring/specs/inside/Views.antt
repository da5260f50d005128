-- The knowledge of a ring's seats, and how each kind of step changes it. Each step counts as one move.
-- Source: the usual ring between one producer and one consumer (Lamport 1983, "Specifying Concurrent Program Modules"):
-- one counts what was put, the other what was taken. What a seat notes of its own steps is this program's.
use Rattle.std.specs.Prelude.{ℕ, ◌+◌, true, false, List, []}
use Rattle.gg_ring.specs.declared.rule.View.{View}

-- ---- the four kinds of view

-- the view of a seat that puts
abbrev pub putter : List ℕ → ℕ → ℕ → ℕ → View
putter stream places put moves =
    record { puts = true; takes = false; stream = stream; capacity = places; put = put; known_takes = 0; stored = 0; taken = 0; known_puts = 0; loaded = 0; low = 0; high = 0; looks = 0; moves = moves }

-- the view of a seat that takes
abbrev pub taker : List ℕ → ℕ → ℕ → ℕ → View
taker stream places taken seen =
    record { puts = false; takes = true; stream = stream; capacity = places; put = 0; known_takes = 0; stored = 0; taken = taken; known_puts = seen; loaded = 0; low = 0; high = 0; looks = 0; moves = 0 }

-- the view of the one seat of a ring that no two threads share
abbrev pub whole : List ℕ → ℕ → ℕ → ℕ → ℕ → View
whole stream places put taken moves =
    record { puts = true; takes = true; stream = stream; capacity = places; put = put; known_takes = 0; stored = 0; taken = taken; known_puts = 0; loaded = 0; low = 0; high = 0; looks = 0; moves = moves }

-- the view of a seat that was joined into another
abbrev pub spent : View
spent = record { puts = false; takes = false; stream = []; capacity = 0; put = 0; known_takes = 0; stored = 0; taken = 0; known_puts = 0; loaded = 0; low = 0; high = 0; looks = 0; moves = 0 }

-- ---- steps of a seat that puts

-- it looked, and saw that n values were taken
abbrev pub saw_head : View → ℕ → View
saw_head v n = record v { known_takes = n; looks = v.looks + 1; moves = v.moves + 1 }

-- it has stored one half of the next value, or both
abbrev pub stored_to : View → ℕ → View
stored_to v halves = record v { stored = halves; moves = v.moves + 1 }

-- it has counted the next value as put, and has stored nothing of the one after it
abbrev pub has_put : View → View
has_put v = record v { put = v.put + 1; stored = 0; moves = v.moves + 1 }

-- ---- steps of a seat that takes

-- it looked, and saw that n values were put
abbrev pub saw_tail : View → ℕ → View
saw_tail v n = record v { known_puts = n; looks = v.looks + 1; moves = v.moves + 1 }

-- it has loaded the lower half of the next value, which is n
abbrev pub loaded_low : View → ℕ → View
loaded_low v n = record v { loaded = 1; low = n; moves = v.moves + 1 }

-- it has loaded the upper half too, which is n
abbrev pub loaded_high : View → ℕ → View
loaded_high v n = record v { loaded = 2; high = n; moves = v.moves + 1 }

-- it has counted the next value as taken, and has loaded nothing of the one after it
abbrev pub has_taken : View → View
has_taken v = record v { taken = v.taken + 1; loaded = 0; moves = v.moves + 1 }
