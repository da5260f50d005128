-- A part while it is built: its frame, and the signals, registers and memories that it has so far.
-- Source: this program's own. A part has its signals, registers and memories in the order of the lists that it is
-- built from.
use Rattle.std.specs.Prelude.{◌≡◌, ℕ, List, Contains}
use Rattle.gg_flat.specs.declared.piece.Signal.{Signal}
use Rattle.gg_flat.specs.declared.piece.Driver.TheVariants.{Held}
use Rattle.gg_flat.specs.Circuit.{FlatCircuit, driver_at}

-- Signal s holds register r, and doesn't come from outside.
pub record Holds (whole : FlatCircuit) (ins : List ℕ) (s r : ℕ) : Type 0 where
  pub inside : ¬ Contains ins s
  pub holds : driver_at whole s ≡ Held r

-- One of these signals holds register r, and doesn't come from outside.
pub record IsHeldIn (whole : FlatCircuit) (globals ins : List ℕ) (r : ℕ) : Type 0 where
  pub signal : ℕ
  pub chosen : Contains globals signal
  pub holds : Holds whole ins signal r

-- The registers that these signals hold, all of them and no others. A register may be listed twice.
pub record AreHeld (whole : FlatCircuit) (globals ins held : List ℕ) : Type 0 where
  pub every : (s r : ℕ) → Contains globals s → Holds whole ins s r → Contains held r
  pub sound : (r : ℕ) → Contains held r → IsHeldIn whole globals ins r
