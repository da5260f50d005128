-- The last instance that has a signal.
-- Source: FIRRTL Specification, "Instances". The order of the tree is this program's own.
use Rattle.std.specs.Prelude.{◌≡◌, ℕ, ◌<◌, ◌≤◌, List, [], Option, None, length, slice_index_or}
use Rattle.gg_flat.specs.declared.piece.Driver.TheVariants.{Held}
use Rattle.gg_flat.specs.Circuit.{FlatCircuit, driver_at}
use Rattle.gg_flat_tree.specs.Clocked.{clock_at}
use Rattle.gg_flat.specs.Line.{value_at}
use Rattle.gg_flat_tree.specs.Tree.{InstanceTree, Holds as IsHeldBy, instance_at}

-- Among the first n instances the one at place p has signal s, and no later one does.
pub record IsLast (tree : InstanceTree) (n s p : ℕ) : Type 0 where
  pub known : p < n
  pub holds : IsHeldBy (instance_at tree p) s
  pub last : (k : ℕ) → k < n → IsHeldBy (instance_at tree k) s → k ≤ p

-- In a table, register r follows what a signal that holds it follows: `inner` has what the Clock inputs of each instance follow, and `places` the
-- innermost instance of each signal.
pub record IsTimedBy (circuit : FlatCircuit) (tree : InstanceTree) (inner : List (List (Option ℕ))) (places : List ℕ) (table : List (Option ℕ)) (r : ℕ) : Type 0 where
  pub signal : ℕ
  pub known : signal < length circuit.signals
  pub held : driver_at circuit signal ≡ Held r
  pub clock : slice_index_or table r None ≡ clock_at (slice_index_or inner (value_at places signal) []) (slice_index_or tree.register_clocks r None)
