-- Tables with lines that can be read again.
-- Source: this program's own.
use Rattle.std.specs.Prelude.{◌≡◌, ◌≢◌, ◌⊎◌, ℕ, ◌<◌, ◌≤◌, ◌^◌, List, [], ◌∷◌, length, map, All, AllPairs, Contains, ⊤}
use Rattle.gg_bits.specs.Shape.{shape}
use Rattle.gg_flat.specs.declared.piece.Driver.TheVariants.{Held}
use Rattle.gg_flat.specs.Circuit.{FlatCircuit, register_shapes, driver_at, readers_at, latency_at}
use Rattle.gg_flat.specs.Line.{shape_at, value_at}
use Rattle.gg_flat.specs.Memory.{read_count}
use Rattle.gg_flat_tree.specs.Tree.{InstanceTree, memory_at}
use Rattle.gg_snap.specs.declared.text.row.At.{At}
use Rattle.gg_snap.specs.declared.text.row.At.TheVariants.{Register, Read, Words}
use Rattle.gg_snap.specs.declared.text.row.Row.{Row}

-- a text doesn't have this byte
abbrev pub HasNo : ℕ → List ℕ → Type 0
HasNo b text = ¬ Contains text b

-- a path without a blank and without a line feed
abbrev pub IsPlain : List ℕ → Type 0
IsPlain path = HasNo 32 path × HasNo 10 path

-- No register is held by two signals. Each memory of the tree is one of the circuit's, and none is there twice. No path has a blank or a line feed.
pub record CanSave (circuit : FlatCircuit) (tree : InstanceTree) : Type 0 where
  pub held : (s t r : ℕ) → s < length circuit.signals → t < length circuit.signals → driver_at circuit s ≡ Held r → driver_at circuit t ≡ Held r → s ≡ t
  pub memories : (place : ℕ) → place < length tree.memories → (memory_at tree place).memory < length circuit.memories
  pub once : AllPairs (λ a b. a.memory ≢ b.memory) tree.memories
  pub plain : All IsPlain circuit.paths
  pub plain_memories : All IsPlain tree.memory_paths

-- ---- rows

-- the values of a row are there: `count` of them, each of `width` bits
abbrev pub IsAt : FlatCircuit → (width count : ℕ) → At → Type 0
IsAt circuit width count (Register r) = (r < length circuit.registers) × (count ≡ 1) × (width ≡ (shape_at (register_shapes circuit) r).width)
IsAt circuit width count (Read m r) = (m < length circuit.memories) × (r < read_count (latency_at circuit m) (readers_at circuit m)) × (count ≡ 1) × (width ≡ (shape_at (map (λ memory. shape memory.word) circuit.memories) m).width)
IsAt circuit width count (Words m) = (m < length circuit.memories) × (count ≡ value_at (map (λ memory. memory.depth) circuit.memories) m) × (width ≡ (shape_at (map (λ memory. shape memory.word) circuit.memories) m).width)

-- A row that can be written on lines and read again, value by value: its width is 1 to 128 bits, it has fewer than 2^32 values, its path has no blank
-- and no line feed, and its values are the circuit's.
pub record IsKnown (circuit : FlatCircuit) (row : Row) : Type 0 where
  pub some : 0 < row.width
  pub narrow : row.width ≤ 128
  pub few : row.count < 2 ^ 32
  pub plain : IsPlain row.path
  pub at : IsAt circuit row.width row.count row.at

-- two rows have no value in common
abbrev pub IsElsewhere : At → At → Type 0
IsElsewhere (Register r) (Register q) = r ≢ q
IsElsewhere (Register r) (Read n q) = ⊤
IsElsewhere (Register r) (Words n) = ⊤
IsElsewhere (Read m r) (Register q) = ⊤
IsElsewhere (Read m r) (Read n q) = ¬ ((m ≡ n) × (r ≡ q))
IsElsewhere (Read m r) (Words n) = ⊤
IsElsewhere (Words m) (Register q) = ⊤
IsElsewhere (Words m) (Read n q) = ⊤
IsElsewhere (Words m) (Words n) = m ≢ n

-- Two rows differ: in kind or in path, and in their values' places.
pub record Differ (one other : Row) : Type 0 where
  pub named : (one.kind ≢ other.kind) ⊎ (one.path ≢ other.path)
  pub apart : IsElsewhere one.at other.at

-- a row differs from each of these
abbrev pub DiffersFrom : Row → List Row → Type 0
DiffersFrom row [] = ⊤
DiffersFrom row (other ∷ rows) = Differ row other × DiffersFrom row rows

-- each of these rows differs from all after it
abbrev pub AllDiffer : List Row → Type 0
AllDiffer [] = ⊤
AllDiffer (row ∷ rows) = DiffersFrom row rows × AllDiffer rows

-- The rows of a table: each is known, and all differ.
pub record AreKnown (circuit : FlatCircuit) (rows : List Row) : Type 0 where
  pub each : All (IsKnown circuit) rows
  pub differ : AllDiffer rows
