-- The signals that a driver names, place by place. A line has a place for each node. A read of latency 0 has one for
-- its address and one for its enable.
-- Source: this program's own way to go through them.
use Rattle.std.proofs.Common.{inl, inr}
use Rattle.std.proofs.Math.Nat.{not-suc-le-zero}
use Rattle.std.specs.Prelude.{◌≡◌, ◌⊎◌, ℕ, ◌<◌, take}
use Rattle.gg_flat.specs.declared.piece.Driver.{Driver}
use Rattle.gg_flat.specs.declared.piece.Driver.TheVariants.{Input, Held, MemoryWord, ReadRegister, Computed}
use Rattle.gg_flat.specs.Circuit.{FlatCircuit, driver_at}
use Rattle.gg_flat.specs.Reads.{Names}

-- a driver names this signal at one of its first k places
abbrev pub NamesBelow : Driver → ℕ → ℕ → Type 0
NamesBelow (Input place) k s = ⊥
NamesBelow (Held register) k s = ⊥
NamesBelow (MemoryWord memory reader addr en) k s = ((0 < k) × (addr ≡ s)) ⊎ ((1 < k) × (en ≡ s))
NamesBelow (ReadRegister memory reader) k s = ⊥
NamesBelow (Computed line) k s = Names (take k line) s

-- signal a reads signal b at one of the first k places of its driver
abbrev pub ReadsBelow : FlatCircuit → ℕ → ℕ → ℕ → Type 0
ReadsBelow circuit a k b = NamesBelow (driver_at circuit a) k b

-- no signal is named below the first place
none_named_first : (driver : Driver) (s : ℕ) → NamesBelow driver 0 s → ⊥
none_named_first (Input place) s h = h
none_named_first (Held register) s h = h
none_named_first (MemoryWord memory reader addr en) s (inl h) = not-suc-le-zero h.0
none_named_first (MemoryWord memory reader addr en) s (inr h) = not-suc-le-zero h.0
none_named_first (ReadRegister memory reader) s h = h
none_named_first (Computed line) s h = not-suc-le-zero h.1

-- no signal is read below the first place
pub none_below_first : (circuit : FlatCircuit) (a b : ℕ) → ReadsBelow circuit a 0 b → ⊥
none_below_first circuit a b h = none_named_first (driver_at circuit a) b h
