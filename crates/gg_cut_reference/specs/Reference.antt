-- The reference circuit of a design with pipes: the design, and for each piped channel a register that takes the channel's
-- value in each cycle. Where the channel's consumer names the channel, it names the register in its place.
-- Source: MEMOCODE 2009 (a buffer with a token in it at the start delays a stream by a cycle); this program's profile.
use Rattle.std.specs.Prelude.{ℕ}

-- ---- pipes

-- Who names what: `maker` has the machine with a signal's driver, `holder` the machine of a register, `keeper` the machine of a memory. `seen m` has
-- the number that machine m sees a signal by, `kept` the number that the tray of an out-signal sees it by.
pub record Views : Type 0 where
  pub maker : ℕ → ℕ
  pub holder : ℕ → ℕ
  pub keeper : ℕ → ℕ
  pub seen : ℕ → ℕ → ℕ
  pub kept : ℕ → ℕ
