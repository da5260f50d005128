-- The windows of a run: where each ends, and a network that goes on in one.
-- Source: this program's own. The counts are MEMOCODE 2009's (how often each node took, gave and finished says what a network has done).
use Rattle.std.specs.Prelude.{◌≡◌, ℕ, suc, ◌+◌, ◌*◌, ◌<◌, ◌≤◌, min}
use Rattle.gg_net.specs.Network.{Network, frame_of}
use Rattle.gg_measure.specs.inside.Nets.{StaysWithin}
use Rattle.gg_bits.specs.Limits.{tray_rows}

-- The end of the window that begins at a cycle, if this many cycles have to be done. A window that isn't the last has as many cycles as a tray keeps
-- values.
abbrev pub window_end : (begun end : ℕ) → ℕ
window_end begun end = min (begun + tray_rows) end

-- The windows of a run follow one another, starting at its first cycle. The window of this cycle ends at `upto`, if the run has to reach cycle `end`.
pub record IsWindowOf (begin end cycle upto : ℕ) : Type 0 where
  pub windows : ℕ
  pub low : begin + tray_rows * windows ≤ cycle
  pub high : cycle < upto
  pub is : upto ≡ min (begin + tray_rows * suc windows) end

-- The frame stays, and no count is above both its old value and its number after `cycle` cycles.
pub record GoesWithin (cycle : ℕ) (old new : Network) : Type 0 where
  pub frame : frame_of new ≡ frame_of old
  pub bounds : StaysWithin cycle old new
