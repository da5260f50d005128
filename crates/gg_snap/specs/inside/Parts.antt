-- A state that is put together from the states of parts.
-- Source: MEMOCODE 2009 (the registers and memories of a part have their values in the whole).
use Rattle.std.specs.Prelude.{◌≡◌, ℕ, List, [], ◌∷◌, Contains, length, map, slice_set}
use Rattle.gg_flat.specs.Line.{value_at}
use Rattle.gg_flat.specs.Memory.{Bank, bank_at}
use Rattle.gg_flat.specs.State.{State}

-- a list with these items at these places
abbrev pub put : {A : Type 0} → List A → (places : List ℕ) (items : List A) → List A
put old [] items = old
put old (place ∷ places) [] = old
put old (place ∷ places) (item ∷ items) = put (slice_set old place item) places items

-- Two banks have as many words and as many reads.
pub record HasSizeOf (bank other : Bank) : Type 0 where
  pub words : length bank.words ≡ length other.words
  pub reads : length bank.reads ≡ length other.reads

-- The state of a part with these registers and memories of the whole.
pub record IsPartState (whole : State) (held memories : List ℕ) (state : State) : Type 0 where
  pub registers : state.registers ≡ map (value_at whole.registers) held
  pub banks : state.banks ≡ map (bank_at whole.banks) memories

-- A state has the values of a whole at these registers and memories, and wherever it had them before.
pub record HasPart (whole : State) (held memories : List ℕ) (old new : State) : Type 0 where
  pub register_count : length new.registers ≡ length old.registers
  pub bank_count : length new.banks ≡ length old.banks
  pub registers : (r : ℕ) → value_at old.registers r ≡ value_at whole.registers r → value_at new.registers r ≡ value_at whole.registers r
  pub put_registers : (r : ℕ) → Contains held r → value_at new.registers r ≡ value_at whole.registers r
  pub banks : (m : ℕ) → bank_at old.banks m ≡ bank_at whole.banks m → bank_at new.banks m ≡ bank_at whole.banks m
  pub put_memories : (m : ℕ) → Contains memories m → bank_at new.banks m ≡ bank_at whole.banks m
