-- Needs of the out-signals, group by group.
-- Source: MEMOCODE 2009 (an output is ready when the inputs that it depends on are there); groups are this program's own.
use Rattle.std.specs.Prelude.{◌≡◌, ℕ, ◌+◌, ◌<◌, ◌≤◌, List, [], length, slice_index_or}
use Rattle.gg_flat.specs.Line.{value_at}
use Rattle.gg_flat.specs.Circuit.{FlatCircuit}
use Rattle.gg_order.specs.needs.Needs.{AreNeeds}

-- at most 128 out-signals, and at least one, starting at a place
pub record IsGroup (outs : List ℕ) (first : ℕ) (group : List ℕ) : Type 0 where
  pub some : 0 < length group
  pub most : length group ≤ 128
  pub within : first + length group ≤ length outs
  pub each : (place : ℕ) → place < length group → value_at group place ≡ value_at outs (first + place)

-- the lists are the needs of the first out-signals
pub record AreNeedsSoFar (circuit : FlatCircuit) (needs : List (List ℕ)) : Type 0 where
  pub within : length needs ≤ length circuit.outs
  pub each : (out : ℕ) → out < length needs → AreNeeds circuit (value_at circuit.outs out) (slice_index_or needs out [])
