-- The rule of a ring: its words and the knowledge of its seats, at every moment.
-- Source: MEMOCODE 2009 (a queue holds the tokens that were put and not yet taken, in order, at most its bound); the
-- usual ring between one producer and one consumer (Lamport 1983, "Specifying Concurrent Program Modules").
use Rattle.std.specs.Prelude.{◌≡◌, ℕ, ◌+◌, ◌*◌, ◌/◌, ◌%◌, ◌<◌, ◌≤◌, Bool, true, false, List, length, slice_index}
use mathlib.Core.Option.{some}
use lib.ListN.{get_elem?}
use Rattle.atomic_table.specs.Table.{State}
use Rattle.gg_ring.specs.declared.rule.View.{View}
use Rattle.gg_ring.specs.inside.Views.{spent}

-- ---- words

-- the word of the lower half of value k, counted from 0, in a ring of `places` places; word 0 is the head, word 1 the
-- tail
abbrev pub low_word : ℕ → ℕ → ℕ
low_word places k = 2 + 2 * (k % places)

-- the word of the upper half, which is after the word of the lower half
abbrev pub high_word : ℕ → ℕ → ℕ
high_word places k = 3 + 2 * (k % places)

-- the lower 64 bits of a value of 128 bits
abbrev pub low : ℕ → ℕ
low value = value % 18446744073709551616

-- the upper 64 bits
abbrev pub high : ℕ → ℕ
high value = value / 18446744073709551616

-- the lower half of the stream's value k is in its word
abbrev pub StandsLow : List ℕ → ℕ → List ℕ → ℕ → Type 0
StandsLow words places stream k = slice_index words (low_word places k) ≡ low (slice_index stream k)

-- the upper half of value k is in its word
abbrev pub StandsHigh : List ℕ → ℕ → List ℕ → ℕ → Type 0
StandsHigh words places stream k = slice_index words (high_word places k) ≡ high (slice_index stream k)

-- The head is how many were taken, the tail how many were put. The places from head to tail hold the stream's values.
pub record Laid (words : List ℕ) (places : ℕ) (stream : List ℕ) (head tail : ℕ) : Type 0 where
  pub some_place : 0 < places
  pub words_are : length words ≡ 2 + 2 * places
  pub head_is : slice_index words 0 ≡ head
  pub tail_is : slice_index words 1 ≡ tail
  pub order : head ≤ tail
  -- no more values are in the ring than it has places
  pub room : tail ≤ head + places
  -- no more values were put than the stream has
  pub inside : tail ≤ length stream
  pub lows : (k : ℕ) → head ≤ k → k < tail → StandsLow words places stream k
  pub highs : (k : ℕ) → head ≤ k → k < tail → StandsHigh words places stream k

-- ---- seats

-- What the seat that puts knows: its stream, its counts, and how many halves of the next value it has stored.
pub record FitsPut (words : List ℕ) (places : ℕ) (stream : List ℕ) (head tail : ℕ) (v : View) : Type 0 where
  pub stream_is : v.stream ≡ stream
  pub capacity_is : v.capacity ≡ places
  pub count : v.put ≡ tail
  -- it knows of no more takes than there were
  pub seen : v.known_takes ≤ head
  -- the half that is stored first is the lower one
  pub first : 0 < v.stored → StandsLow words places stream tail
  pub second : 1 < v.stored → StandsHigh words places stream tail

-- What the seat that takes knows: its stream, its counts, and the halves of the next value that it has loaded.
pub record FitsTake (places : ℕ) (stream : List ℕ) (head tail : ℕ) (v : View) : Type 0 where
  pub stream_is : v.stream ≡ stream
  pub capacity_is : v.capacity ≡ places
  pub count : v.taken ≡ head
  -- it knows of no more puts than there were
  pub seen : v.known_puts ≤ tail
  pub first : 0 < v.loaded → v.low ≡ low (slice_index stream head)
  pub second : 1 < v.loaded → v.high ≡ high (slice_index stream head)

-- Seat `id`: if it may put it is seat p, if it may take it is seat t, and if neither its view is spent.
abbrev pub Fits : List ℕ → ℕ → List ℕ → ℕ → ℕ → ℕ → ℕ → ℕ → View → Type 0
Fits words places stream head tail p t id v =
    (v.puts ≡ true → (id ≡ p) × FitsPut words places stream head tail v)
    × (v.takes ≡ true → (id ≡ t) × FitsTake places stream head tail v)
    × (v.puts ≡ false → v.takes ≡ false → v ≡ spent)

-- the view of this seat is there, and may do so
abbrev pub There : (View → Bool) → List View → ℕ → Type 0
There may views id = (v : View) × (get_elem? views id ≡ some v) × (may v ≡ true)

-- Just one seat puts and just one takes; while no two threads share the ring, one seat does both.
pub record Holds (places : ℕ) (s : State (Unit {0}) View) : Type 0 where
  -- the seat that puts, and the seat that takes
  pub putter : ℕ
  pub taker : ℕ
  pub stream : List ℕ
  -- how many values were taken, and how many were put
  pub head : ℕ
  pub tail : ℕ
  pub laid : Laid s.words places stream head tail
  pub one_puts : There (λ v. v.puts) s.views putter
  pub one_takes : There (λ v. v.takes) s.views taker
  pub fits : (id : ℕ) (v : View) → get_elem? s.views id ≡ some v → Fits s.words places stream head tail putter taker id v
