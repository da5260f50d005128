-- Streams and seats worked by hand.
use Rattle.std.proofs.Common.{◌≡◌, ℕ, [], ◌∷◌, inl, refl, arith, ⊎_elim}
use Rattle.gg_flat.specs.Streams.{Flow}
use Rattle.gg_link.specs.Seats.{stream_of, SeatState, seat_state, Counted, FoundFull, FoundEmpty, between, WithinCapacity}

-- ---- streams

abbrev flow : Flow
flow = record { lists = (4 ∷ 5 ∷ 6 ∷ []) ∷ (8 ∷ 9 ∷ []) ∷ []; runs = []; begin = 0; states = [] }

whole-stream : stream_of flow 0 0 ≡ 4 ∷ 5 ∷ 6 ∷ []
whole-stream = refl

later-stream : stream_of flow 1 1 ≡ 9 ∷ []
later-stream = refl

-- a channel that isn't there carries nothing, and nothing stands behind a list
no-stream : stream_of flow 2 0 ≡ []
no-stream = refl

ended-stream : stream_of flow 0 3 ≡ []
ended-stream = refl

-- ---- seats

-- the seat that puts, in a link of two places
abbrev putting : ℕ → ℕ → ℕ → SeatState
putting count seen looks = seat_state (4 ∷ 5 ∷ 6 ∷ []) 2 count seen looks

counted : Counted (putting 1 0 3) (putting 2 0 3)
counted = record { went_on = record { stream = refl; capacity = refl; seen = omega arith; looks = omega arith }; count = refl }

-- a value that isn't counted
not-counted : Counted (putting 1 0 3) (putting 1 0 3) → ⊥
not-counted c = let count = c.count in omega arith

-- what was seen is forgotten
not-forgotten : Counted (putting 2 1 3) (putting 3 0 3) → ⊥
not-forgotten c = let seen = c.went_on.seen in omega arith

full : FoundFull (putting 2 0 3) (putting 2 0 4) 0
full =
    record { went_on = record { stream = refl; capacity = refl; seen = omega arith; looks = omega arith }; count = refl; looked = inl (omega arith); seen = refl; full = refl }

-- with one taken there is room
not-full : FoundFull (putting 2 0 3) (putting 2 1 4) 1 → ⊥
not-full f = let full = f.full in omega arith

-- full, and nobody looked
not-looked : FoundFull (putting 2 0 3) (putting 2 0 3) 0 → ⊥
not-looked f = ⊎_elim (λ rose. omega arith) (λ end. omega arith) f.looked

empty : FoundEmpty (putting 1 0 3) (putting 1 1 4)
empty = record { went_on = record { stream = refl; capacity = refl; seen = omega arith; looks = omega arith }; count = refl; looked = inl (omega arith); empty = refl }

-- one more was put than taken
not-empty : FoundEmpty (putting 1 0 3) (putting 1 2 4) → ⊥
not-empty f = let none = f.empty in omega arith

-- empty, and nobody looked
not-seen : FoundEmpty (putting 1 1 3) (putting 1 1 3) → ⊥
not-seen f = ⊎_elim (λ rose. omega arith) (λ end. omega arith) f.looked

-- ---- what is left

-- three were put and one was taken
left-two : between (putting 3 1 4) (putting 1 3 2) ≡ 5 ∷ 6 ∷ []
left-two = refl

left-none : between (putting 2 1 4) (putting 2 2 2) ≡ []
left-none = refl

fits : WithinCapacity (putting 3 1 4) (putting 1 3 2)
fits = record { order = omega arith; room = omega arith }

-- three in a link of two places
not-three : WithinCapacity (putting 3 1 4) (putting 0 3 2) → ⊥
not-three w = let room = w.room in omega arith

-- more taken than put
not-more : WithinCapacity (putting 1 0 4) (putting 2 1 2) → ⊥
not-more w = let order = w.order in omega arith
