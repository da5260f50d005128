-- A state with one value in place of another.
-- Source: this program's own.
use Rattle.std.specs.Prelude.{ℕ, ◌<◌, length, slice_set}
use Rattle.gg_flat.specs.Memory.{bank_at}
use Rattle.gg_flat.specs.State.{State}
use Rattle.gg_snap.specs.declared.text.row.At.{At}
use Rattle.gg_snap.specs.declared.text.row.At.TheVariants.{Register, Read, Words}

-- the state with this value there
abbrev pub with_value : State → At → (address value : ℕ) → State
with_value state (Register r) address value = record state { registers = slice_set state.registers r value }
with_value state (Read m r) address value =
    record state { banks = slice_set state.banks m (record { words = (bank_at state.banks m).words; reads = slice_set (bank_at state.banks m).reads r value }) }
with_value state (Words m) address value =
    record state { banks = slice_set state.banks m (record { words = slice_set (bank_at state.banks m).words address value; reads = (bank_at state.banks m).reads }) }

-- there is a value there
abbrev pub HasValue : State → At → (address : ℕ) → Type 0
HasValue state (Register r) address = r < length state.registers
HasValue state (Read m r) address = (m < length state.banks) × (r < length (bank_at state.banks m).reads)
HasValue state (Words m) address = (m < length state.banks) × (address < length (bank_at state.banks m).words)
