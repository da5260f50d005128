-- More on Part: what no promise of the program reaches.
-- Source: FIRRTL Specification, "Circuit Definitions", "Instances" (a design is cut where its modules meet); MEMOCODE
-- 2009 (a synchronous design as a network of its parts).
use Rattle.std.specs.Prelude.{ℕ, ◌<◌}
use Rattle.gg_flat.specs.declared.memory.Reader.{Reader}
use Rattle.gg_flat.specs.Named.{ReaderNamesOnly}

-- ---- what the part names exists

-- the fields of a reader are below n
abbrev pub ReadsAmong : ℕ → Reader → Type 0
ReadsAmong n reader = ReaderNamesOnly (λ s. s < n) reader
