-- The state that a borrow of what one memory holds leaves.
use Rattle.std.specs.Prelude.{ℕ, slice_set}
use Rattle.std.specs.Borrow.{Lends, MutBor, Fml}
use Rattle.gg_order.specs.contracts.runs.bank.Bank as bank_type
use Rattle.gg_order.specs.contracts.runs.state.State as state_type
use Rattle.gg_flat.specs.Memory.{Bank}
use Rattle.gg_flat.specs.State.{State}

-- the state with this bank in place of the one at this place
abbrev pub with_bank : State → ℕ → Bank → State
with_bank state place bank = record { registers = state.registers; banks = slice_set state.banks place bank }

-- the lender ends with what the borrow leaves as the bank at this place; the rest is as it was
abbrev pub LendsBank : MutBor State → ℕ → MutBor Bank → Fml
LendsBank lender place lent = Lends state_type.the_row bank_type.the_row lender lent (with_bank lender.now place)
