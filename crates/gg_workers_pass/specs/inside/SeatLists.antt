-- A row of seats, taken out of the list of all seats and put back. The list has the seat of each channel, or none if it
-- was taken.
-- Source: this program's own.
use Rattle.std.specs.Prelude.{◌≡◌, ◌≢◌, ℕ, ◌<◌, ◌≤◌, List, Option, Some, None, IsSome, All, length, slice_index_or}
use Rattle.gg_flat.specs.Line.{value_at}

-- the seat of a channel, if it is there
abbrev pub seat_at : {S : Type 0} → List (Option S) → ℕ → Option S
seat_at seats c = slice_index_or seats c None

-- no channel is there twice
abbrev pub AreOnce : List ℕ → Type 0
AreOnce channels = (j k : ℕ) → j < length channels → k < length channels → value_at channels j ≡ value_at channels k → j ≡ k

-- the seats of these channels are there
abbrev pub RowIsThere : {S : Type 0} → List ℕ → List (Option S) → Type 0
RowIsThere channels seats = (k : ℕ) → k < length channels → IsSome (seat_at seats (value_at channels k))

-- all seats are there
abbrev pub AllThere : {S : Type 0} → List (Option S) → Type 0
AllThere seats = All (λ seat. IsSome seat) seats

-- The seats of the first n channels were taken into the row, and no others.
pub record RowTakenOut {S : Type 0} (channels : List ℕ) (n : ℕ) (old new : List (Option S)) (taken_out : List S) : Type 0 where
  pub long : length taken_out ≡ n
  pub count : length new ≡ length old
  pub row : (k : ℕ) (s : S) → k < n → seat_at old (value_at channels k) ≡ Some (slice_index_or taken_out k s)
  pub taken : (k : ℕ) → k < n → seat_at new (value_at channels k) ≡ None
  pub others : (c : ℕ) → ((k : ℕ) → k < n → value_at channels k ≢ c) → seat_at new c ≡ seat_at old c

-- The first n seats of the row were put back to their channels, and no others.
pub record RowPutBack {S : Type 0} (channels : List ℕ) (n : ℕ) (row : List S) (old new : List (Option S)) : Type 0 where
  pub count : length new ≡ length old
  pub given : (k : ℕ) (s : S) → k < n → seat_at new (value_at channels k) ≡ Some (slice_index_or row k s)
  pub others : (c : ℕ) → ((k : ℕ) → k < n → value_at channels k ≢ c) → seat_at new c ≡ seat_at old c

-- ---- all rows

-- The seats of the machines before m were taken out. `end_of` is the machine at one end of a channel. All others are left, each as
-- it was in the list of all.
pub record AreLeft {S : Type 0} (end_of : ℕ → ℕ) (m : ℕ) (all : List S) (seats : List (Option S)) : Type 0 where
  pub long : length seats ≡ length all
  pub left : (c : ℕ) (s : S) → m ≤ end_of c → c < length all → seat_at seats c ≡ Some (slice_index_or all c s)

-- The seat of a channel is there, and has a property.
pub record IsBack {S : Type 0} (P : ℕ → S → Type 0) (c : ℕ) (seats : List (Option S)) : Type 0 where
  pub seat : S
  pub there : seat_at seats c ≡ Some seat
  pub holds : P c seat

-- The seats of the machines before m were put back, each with a property.
pub record AreBack {S : Type 0} (end_of : ℕ → ℕ) (P : ℕ → S → Type 0) (m count : ℕ) (seats : List (Option S)) : Type 0 where
  pub long : length seats ≡ count
  pub back : (c : ℕ) → c < count → end_of c < m → IsBack P c seats
