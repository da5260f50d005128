-- Marks, and sets of marks, while the signals that out-signals reach are searched for, from the last signal to the
-- first.
-- Source: FIRRTL Specification, "Combinational Loops" (dependency without a register); the pass is this program's
-- own.
use Rattle.std.specs.Prelude.{◌≡◌, ◌↔◌, ◌⊎◌, ℕ, ◌<◌, ◌≤◌, List, length, Bool, true, false, Contains, AllPairs}
use Rattle.gg_flat.specs.Line.{value_at}
use Rattle.gg_flat.specs.Circuit.{FlatCircuit}
use Rattle.gg_flat.specs.Reads.{Reads, Reaches}
use Rattle.gg_order.specs.Marks.{is_marked}
use Rattle.gg_order.specs.inside.NeedsMarks.{marks_of}

-- ---- the marks of one signal

-- exactly the signals that a signal reaches are marked
abbrev pub MarksReached : FlatCircuit → ℕ → List Bool → Type 0
MarksReached circuit out marks = (s : ℕ) → (is_marked marks s ≡ true) ↔ Reaches circuit out s

-- each signal that a marked signal reads is marked
abbrev pub IsClosed : FlatCircuit → List Bool → Type 0
IsClosed circuit marks = (a b : ℕ) → is_marked marks a ≡ true → Reads circuit a b → is_marked marks b ≡ true

-- The places starting at k are done: what a marked signal there reads is marked.
pub record IsWalk (circuit : FlatCircuit) (order : List ℕ) (out k : ℕ) (marks : List Bool) : Type 0 where
  pub count : length marks ≡ length circuit.signals
  pub only : (s : ℕ) → is_marked marks s ≡ true → Reaches circuit out s
  pub itself : is_marked marks out ≡ true
  pub closed : (j s : ℕ) → k ≤ j → j < length order → is_marked marks (value_at order j) ≡ true → Reads circuit (value_at order j) s → is_marked marks s ≡ true

-- Each signal that a signal reads is marked, if the signal itself was marked. No other mark changes.
pub record ReadsMarked (circuit : FlatCircuit) (signal : ℕ) (before after : List Bool) : Type 0 where
  pub kept : (s : ℕ) → is_marked before s ≡ true → is_marked after s ≡ true
  pub read : (s : ℕ) → is_marked before signal ≡ true → Reads circuit signal s → is_marked after s ≡ true
  pub only : (s : ℕ) → is_marked after s ≡ true → is_marked before s ≡ true ⊎ ((is_marked before signal ≡ true) × Reads circuit signal s)

-- the places below k of the marked in-signals
pub record AreMarkedIns (circuit : FlatCircuit) (marks : List Bool) (k : ℕ) (needs : List ℕ) : Type 0 where
  pub ascending : AllPairs (λ a b. a < b) needs
  pub exact : (place : ℕ) → Contains needs place ↔ ((place < k) × (is_marked marks (value_at circuit.ins place) ≡ true))

-- the places of marked in-signals among these places, ascending
pub record AreMarkedAmong (circuit : FlatCircuit) (marks : List Bool) (places needs : List ℕ) : Type 0 where
  pub ascending : AllPairs (λ a b. a < b) needs
  pub exact : (place : ℕ) → Contains needs place ↔ (Contains places place × (is_marked marks (value_at circuit.ins place) ≡ true))

-- ---- the marks of a group

-- each of the first k out-signals of a group marks only itself, and the others mark nothing; `count` is the number of
-- signals
pub record AreOwn (group : List ℕ) (count k : ℕ) (marks : List ℕ) : Type 0 where
  pub total : length marks ≡ count
  pub own : (place s : ℕ) → place < k → (is_marked (marks_of place marks) s ≡ true) ↔ (value_at group place ≡ s)
  pub none : (place s : ℕ) → k ≤ place → is_marked (marks_of place marks) s ≡ false

-- each out-signal of a group marks exactly the signals that it reaches
pub record AreReached (circuit : FlatCircuit) (group marks : List ℕ) : Type 0 where
  pub count : length marks ≡ length circuit.signals
  pub each : (place : ℕ) → place < length group → MarksReached circuit (value_at group place) (marks_of place marks)

-- a signal passes its marks on: each out-signal that marks it marks what it reads
pub record HandsOn (circuit : FlatCircuit) (signal : ℕ) (before after : List ℕ) : Type 0 where
  pub count : length after ≡ length before
  pub each : (place : ℕ) → ReadsMarked circuit signal (marks_of place before) (marks_of place after)
