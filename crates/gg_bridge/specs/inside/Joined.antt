-- More on Joined: what no promise of the program reaches.
-- Source: ICCAD 2019 (bridges: models in the host's own code that stand at a target's ports); FIRRTL Specification, "Connects".
use Rattle.std.specs.Prelude.{◌≡◌, ◌≢◌, ℕ, ◌<◌, List, ◌++◌, Bool, nat_lt, ◌&&◌, Option, None, is_none, slice_index_or, length, map, Contains, AllPairs}
use Rattle.gg_bits.specs.declared.types.Ty.{Ty}
use Rattle.gg_flat.specs.declared.piece.Driver.{Driver}
use Rattle.gg_flat.specs.Line.{value_at, shape_at}
use Rattle.gg_flat.specs.Circuit.{FlatCircuit, signal_shapes}
use Rattle.gg_flat.specs.Order.{IsOrder}
use Rattle.gg_flat_tree.specs.Tree.{path_at}
use Rattle.gg_flat.specs.Renaming.{Renaming}
use Rattle.gg_bridge.specs.Joined.{behind_by, globals_behind, held_behind, linked_at, memories_behind, place_among}

-- ---- lists of numbers

-- the entry of a number in a table of places; none past its end
abbrev pub place_at : List (Option ℕ) → ℕ → Option ℕ
place_at places s = slice_index_or places s None

-- whether the table has an entry for a number, and that has no place yet
abbrev pub is_free : List (Option ℕ) → ℕ → Bool
is_free places s = nat_lt s (length places) && is_none (place_at places s)

-- a table with the place of each of the first `count` numbers in a list
pub record HasPlaces (list : List ℕ) (count : ℕ) (places : List (Option ℕ)) : Type 0 where
  pub many : length places ≡ count
  pub each : (s : ℕ) → s < count → place_at places s ≡ place_among list s

-- ---- the numbers of the model's parts, after the circuit's

-- the numbers of all parts of a model, after a circuit's
abbrev pub numbers_behind : (one model : FlatCircuit) → Renaming
numbers_behind one model = behind_by (globals_behind one model) (held_behind one model) (memories_behind one model)

-- ---- drivers

-- the driver of signal s of the circuit, by its place among the signals that the bridge drives
abbrev pub linked_driver : (outs left : List ℕ) → ℕ → Ty → Driver → Option ℕ → Driver
linked_driver outs left s ty driver place = linked_at outs (place_among left s) ty driver place

-- ---- the circuit

-- the model with the paths that its signals have in the circuit
abbrev pub placed : List ℕ → FlatCircuit → FlatCircuit
placed front model = record model { paths = map (λ path. front ++ path) model.paths }

-- The bridge's ports are signals of the circuit and fit the model: there are equally many, with the model's types. What it drives are inputs, each
-- once. No path of the circuit is one of the model's.
pub record CanJoin (one : FlatCircuit) (front : List ℕ) (model : FlatCircuit) (sees drives : List ℕ) : Type 0 where
  pub seen_count : length sees ≡ length model.ins
  pub seen : (i : ℕ) → i < length sees → value_at sees i < length one.signals
  pub seen_type : (i : ℕ) → i < length sees → shape_at (signal_shapes one) (value_at sees i) ≡ shape_at (signal_shapes model) (value_at model.ins i)
  pub driven_count : length drives ≡ length model.outs
  pub driven : (i : ℕ) → i < length drives → Contains one.ins (value_at drives i)
  pub driven_type : (i : ℕ) → i < length drives → shape_at (signal_shapes one) (value_at drives i) ≡ shape_at (signal_shapes model) (value_at model.outs i)
  pub once : AllPairs (λ a b. a ≢ b) drives
  -- no path of the circuit is one that a signal of the model gets
  pub fresh : (s i : ℕ) → s < length one.signals → i < length model.signals → path_at one.paths s ≢ front ++ path_at model.paths i

-- a circuit has an order of evaluation
pub record HasOrder (circuit : FlatCircuit) : Type 0 where
  pub order : List ℕ
  pub is : IsOrder circuit order
