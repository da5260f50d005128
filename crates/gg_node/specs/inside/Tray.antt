-- What a tray holds: the last values that it got, in memory that is reserved.
use Rattle.std.specs.Prelude.{ℕ, ◌<◌, ◌≤◌, length}
use Rattle.std.specs.VecDeque.{deque_capacity}
use Rattle.std.specs.declared.collections.VecDeque.{VecDeque}

-- The values that a tray of `rows` rows has kept in this cycle: at most `rows` values, and at most one for each earlier
-- cycle. There is room for `rows`.
pub record IsWindow {Z : Type 0} (kept : VecDeque ℕ Z) (rows cycle : ℕ) : Type 0 where
  pub some : 0 < rows
  pub few : length kept.items ≤ rows
  pub begun : length kept.items ≤ cycle
  pub room : rows ≤ deque_capacity kept
