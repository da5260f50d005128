-- Lines that can be in a snapshot of a circuit.
-- Source: this program's own.
use Rattle.std.specs.Prelude.{◌≡◌, ℕ, suc, ◌<◌, ◌≤◌, List, [], ◌∷◌, ◌==◌, if◌then◌else◌, length, take, ⊤}
use Rattle.gg_bits.specs.Limits.{cycle_limit}
use Rattle.gg_flat.specs.Circuit.{FlatCircuit}
use Rattle.gg_flat.specs.State.{State, IsState}
use Rattle.gg_flat_tree.specs.Tree.{InstanceTree}
use Rattle.gg_snap.specs.text.Lines.{snap_lines, snap_text}
use Rattle.gg_snap.specs.text.Table.{rows_of}
use Rattle.gg_snap.specs.declared.text.fault.SnapFault.{SnapFault}
use Rattle.gg_snap.specs.declared.text.fault.SnapFault.TheVariants.{S1, NoMemory}

-- the pieces of a text that begins with this byte, which ends no line
abbrev pub with_byte : ℕ → List (List ℕ) → List (List ℕ)
with_byte b [] = (b ∷ []) ∷ []
with_byte b (piece ∷ rest) = (b ∷ piece) ∷ rest

-- the lines of a text, each with the line feed at its end; a last one may have none
abbrev pub pieces : List ℕ → List (List ℕ)
pieces [] = []
pieces (b ∷ text) = if b == 10 then (b ∷ []) ∷ pieces text else with_byte b (pieces text)

-- The first k lines of a text are the first k of the text of some cycle and some state of the circuit, reached or not.
pub record CanStand (circuit : FlatCircuit) (tree : InstanceTree) (bytes : List ℕ) (k : ℕ) : Type 0 where
  pub cycle : ℕ
  pub state : State
  pub within : cycle ≤ cycle_limit
  pub typed : IsState circuit state
  pub there : k ≤ length (pieces bytes)
  pub enough : k ≤ length (snap_lines (rows_of circuit tree) cycle state)
  pub same : take k (pieces bytes) ≡ take k (snap_lines (rows_of circuit tree) cycle state)

-- Line `line` is the first that can't be in a snapshot. Or there are fewer than two lines, all of them can be there, and `line` is the next.
pub data IsFirstFault (circuit : FlatCircuit) (tree : InstanceTree) (bytes : List ℕ) (line : ℕ) : Type 0 where
  Stops : (k : ℕ) (is : line ≡ suc k) (there : k < length (pieces bytes)) (before : CanStand circuit tree bytes k) (stops : ¬ CanStand circuit tree bytes (suc k)) → IsFirstFault circuit tree bytes line
  Lacks : (is : line ≡ suc (length (pieces bytes))) (few : length (pieces bytes) < 2) (before : CanStand circuit tree bytes (length (pieces bytes))) → IsFirstFault circuit tree bytes line

-- The bytes are the text of a snapshot of a circuit.
pub record IsSnap (circuit : FlatCircuit) (tree : InstanceTree) (bytes : List ℕ) (cycle : ℕ) (state : State) : Type 0 where
  pub within : cycle ≤ cycle_limit
  pub typed : IsState circuit state
  pub is : bytes ≡ snap_text (rows_of circuit tree) cycle state

-- a fact about the line of the fault, if it has one
abbrev pub IfFault : (ℕ → Type 0) → SnapFault → Type 0
IfFault P (S1 line) = P line
IfFault P NoMemory = ⊤
