-- The inputs that an out-signal needs: its value in a cycle depends only on them.
-- Source: FIRRTL Specification, "Combinational Loops" (dependency without a register), and "Memories" for reads of latency 0; MEMOCODE 2009
-- for an output that needs only the inputs that it depends on.
use Rattle.std.specs.Prelude.{◌≡◌, ℕ, ◌<◌, ◌↔◌, List, [], length, slice_index_or, Contains, AllPairs}
use Rattle.gg_flat.specs.Line.{value_at}
use Rattle.gg_flat.specs.Circuit.{FlatCircuit}
use Rattle.gg_flat.specs.Reads.{Reaches}

-- The needs of a signal: the places of exactly the in-signals that it reaches, ascending.
pub record AreNeeds (circuit : FlatCircuit) (out : ℕ) (needs : List ℕ) : Type 0 where
  pub ascending : AllPairs (λ a b. a < b) needs
  pub exact : (place : ℕ) → Contains needs place ↔ ((place < length circuit.ins) × Reaches circuit out (value_at circuit.ins place))

-- the lists are the needs of the out-signals, in port order
pub record AreNeedsOfOuts (circuit : FlatCircuit) (needs : List (List ℕ)) : Type 0 where
  pub count : length needs ≡ length circuit.outs
  pub each : (out : ℕ) → out < length circuit.outs → AreNeeds circuit (value_at circuit.outs out) (slice_index_or needs out [])
