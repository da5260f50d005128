-- The places of a table, one for each value, and the places after a cursor.
-- Source: this program's own.
use Rattle.std.specs.Prelude.{◌≡◌, ◌≢◌, ℕ, zero, suc, ◌+◌, ◌-◌, ◌<◌, ◌≤◌, ◌^◌, List, [], ◌∷◌, ◌++◌, drop, Option, Some, None, length, take, slice_index_or, ⊤}
use Rattle.gg_flat.specs.State.{State, IsState}
use Rattle.gg_snap.specs.declared.text.row.Row.{Row}
use Rattle.gg_snap.specs.declared.text.reading.Cursor.{Cursor}
use Rattle.gg_snap.specs.text.Lines.{head_of, line_of, value_lines}
use Rattle.gg_snap.specs.text.Standing.{pieces}
use Rattle.gg_flat.specs.Circuit.{FlatCircuit}
use Rattle.gg_snap.specs.inside.Draft.{with_value}

-- a value by its row and address
pub record Place : Type 0 where
  pub row : Row
  pub address : ℕ

-- n addresses of a row, starting at a
abbrev pub places_from : Row → (a n : ℕ) → List Place
places_from row a zero = []
places_from row a (suc n) = record { row = row; address = a } ∷ places_from row (a + 1) n

-- the places of these rows, each row's by address
abbrev pub places : List Row → List Place
places [] = []
places (row ∷ rows) = places_from row 0 row.count ++ places rows

-- the places of these rows, the first row's starting at an address
abbrev pub left : List Row → (a : ℕ) → List Place
left [] a = []
left (row ∷ rows) a = places_from row a (row.count - a) ++ places rows

-- the places that are left after a cursor
abbrev pub behind : List Row → Cursor → List Place
behind rows cursor = left (drop cursor.row rows) cursor.address

-- a line isn't the line of this place, for any value except 0
abbrev pub IsNoLine : List ℕ → Place → Type 0
IsNoLine line place = (value : ℕ) → 0 < value → value < 2 ^ place.row.width → line ≢ line_of place.row place.address value

-- a line isn't the line of any of these places, for any value except 0
abbrev pub IsLineOfNone : List ℕ → List Place → Type 0
IsLineOfNone line [] = ⊤
IsLineOfNone line (place ∷ rest) = IsNoLine line place × IsLineOfNone line rest

-- A line was taken: it is the line of a value of a place. All places before it are skipped, because it can't be theirs.
pub record IsTaken (before after : List Place) (line : List ℕ) (old new : State) : Type 0 where
  pub skipped : List Place
  pub place : Place
  pub value : ℕ
  pub is : before ≡ skipped ++ place ∷ after
  -- a value 0 has no line
  pub some : 0 < value
  pub fits : value < 2 ^ place.row.width
  pub reads : line ≡ line_of place.row place.address value
  pub state : new ≡ with_value old place.row.at place.address value

-- The places between two cursors were skipped, because the line isn't theirs for any value.
pub record Skips (line : List ℕ) (before after : List Place) : Type 0 where
  pub skipped : List Place
  pub is : before ≡ skipped ++ after
  pub none : IsLineOfNone line skipped

-- The search ended at the row of the new cursor. The line begins with the row's head, followed by `rest`, and all places before it were skipped.
pub record IsFoundAt (rows : List Row) (line : List ℕ) (old new : Cursor) (rest : List ℕ) : Type 0 where
  pub within : new.row < length rows
  pub skips : Skips line (behind rows old) (behind rows new)
  pub head : (any : Row) → line ≡ head_of (slice_index_or rows new.row any) ++ rest

-- how a search for the row of a line ends
abbrev pub Finds : (rows : List Row) (line : List ℕ) (old new : Cursor) → Option (List ℕ) → Type 0
Finds rows line old new None = (new.row ≤ length rows) × IsLineOfNone line (behind rows old)
Finds rows line old new (Some rest) = IsFoundAt rows line old new rest

-- No state of the circuit has the first k lines of a text and one more.
abbrev pub NoneGoesOn : FlatCircuit → List Row → (text : List ℕ) → (k : ℕ) → Type 0
NoneGoesOn circuit rows text k = (other : State) → IsState circuit other → suc k ≤ length (value_lines other rows) → ¬ (take (suc k) (pieces text) ≡ take (suc k) (value_lines other rows))

-- How the reading of a text ends: all lines were taken, and they are the state's lines; or only the first k are, and no state has one more.
abbrev pub Ends : FlatCircuit → List Row → (text : List ℕ) → State → Option ℕ → Type 0
Ends circuit rows text state None = pieces text ≡ value_lines state rows
Ends circuit rows text state (Some k) = (k < length (pieces text)) × (take k (pieces text) ≡ value_lines state rows) × NoneGoesOn circuit rows text k
