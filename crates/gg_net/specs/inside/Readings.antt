-- What one machine waits for, by its own latches and flags. The table (`Refusal`) uses channels instead.
-- Source: MEMOCODE 2009; ICCAD 2019 for memories that are served port by port.
use Rattle.std.specs.Prelude.{◌≡◌, ℕ, ◌<◌, List, [], Option, Some, None, Bool, true, false, IsSome, length, slice_get}
use Rattle.gg_node.specs.Machine.{Port, Machine, machine_at, latch_at, flag_at}
use Rattle.gg_node.specs.Step.{fields_of}
use Rattle.gg_net.specs.Network.{Network}
use Rattle.gg_net.specs.Step.{channels_at}

-- the ins that a port uses; none if there is no port
abbrev pub fields_at : Option Port → List ℕ
fields_at None = []
fields_at (Some port) = fields_of port.access

-- the ins that the port that is due uses
abbrev pub due_fields : Machine → List ℕ
due_fields machine = fields_at (slice_get machine.ports machine.served)

-- the channels at the fields of the port that is due
abbrev pub due_channels : Network → ℕ → List ℕ
due_channels net m = channels_at net.wires m (due_fields (machine_at net.machines m))

-- The first flag that is clear.
pub record IsFirstClear (flags : List Bool) (out : ℕ) : Type 0 where
  pub known : out < length flags
  pub clear : flag_at flags out ≡ false
  pub before : (k : ℕ) → k < out → flag_at flags k ≡ true

-- The first latch that is empty.
pub record IsFirstEmpty (latches : List (Option ℕ)) (place : ℕ) : Type 0 where
  pub known : place < length latches
  pub empty : latch_at latches place ≡ None
  pub before : (k : ℕ) → k < place → IsSome (latch_at latches k)
