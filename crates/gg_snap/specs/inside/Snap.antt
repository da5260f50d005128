-- A snapshot, as contracts see it.
-- Source: this program's own.
use Rattle.std.specs.Prelude.{ℕ}
use Rattle.gg_flat.specs.State.{State}
use Rattle.gg_order.specs.Design.{Ordered}

-- a design, a cycle, and the state before it
pub record Snapshot : Type 0 where
  pub design : Ordered
  pub cycle : ℕ
  pub state : State
