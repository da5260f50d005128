-- The value of a driver, the next value of a register, and the contents of a memory after a tick or an access depend only on the signals
-- that they name.
-- Source: FIRRTL Specification, "Connects", "Registers", "Memories".
use Rattle.std.specs.Prelude.{◌≡◌, ℕ, List, Bool}
use Rattle.gg_bits.specs.Shape.{Shape}
use Rattle.gg_flat.specs.Line.{value_at}
use Rattle.gg_flat.specs.Reads.{NamesSignal, RegisterNames}
use Rattle.gg_flat.specs.State.{State, next_register}
use Rattle.gg_flat.specs.Settled.{driver_value}
use Rattle.gg_flat.specs.Memory.{Bank, next_bank}
use Rattle.gg_flat.specs.Served.{Access, after_access}
use Rattle.gg_flat.specs.inside.Served.{AccessNames, MemoryNames}
use Rattle.gg_flat.specs.declared.memory.Memory.{Memory}
use Rattle.gg_flat.specs.declared.piece.Driver.{Driver}
use Rattle.gg_flat.specs.declared.piece.Register.{Register}

-- A driver's value depends only on the signals that the driver names.
abbrev pub DriverNeedsItsNames : Type 0
DriverNeedsItsNames =
    (state : State) (inputs v w : List ℕ) (sink : Shape) (driver : Driver)
    -- Two lists of values agree on the signals that the driver names.
    → ((s : ℕ) → NamesSignal driver s → value_at v s ≡ value_at w s)
    -- By both the driver has the same value.
    → driver_value state inputs v sink driver ≡ driver_value state inputs w sink driver

-- The next value of a register depends only on the signals that the register names.
abbrev pub RegisterNeedsItsNames : Type 0
RegisterNeedsItsNames =
    (edges : List Bool) (v w : List ℕ) (register : Register) (own : ℕ)
    -- Two lists of values agree on the signals that the register names.
    → ((s : ℕ) → RegisterNames register s → value_at v s ≡ value_at w s)
    -- By both the register has the same value next.
    → next_register edges v register own ≡ next_register edges w register own

-- The contents of a memory after a tick depend only on the signals that the memory names.
abbrev pub MemoryNeedsItsNames : Type 0
MemoryNeedsItsNames =
    (edges : List Bool) (v w : List ℕ) (memory : Memory) (bank : Bank)
    -- Two lists of values agree on the signals that the memory names.
    → ((s : ℕ) → MemoryNames memory s → value_at v s ≡ value_at w s)
    -- By both the memory has the same contents after the tick.
    → next_bank edges v memory bank ≡ next_bank edges w memory bank

-- The contents of a memory after an access depend only on the signals that the access names.
abbrev pub AccessNeedsItsNames : Type 0
AccessNeedsItsNames =
    (edges : List Bool) (v w : List ℕ) (bank : Bank) (access : Access)
    -- Two lists of values agree on the signals that the access names.
    → ((s : ℕ) → AccessNames access s → value_at v s ≡ value_at w s)
    -- By both the memory has the same contents after the access.
    → after_access edges v bank access ≡ after_access edges w bank access
