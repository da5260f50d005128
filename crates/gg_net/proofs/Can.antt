-- When each event may be done, by the latches and flags of the machine at hand, where the table of steps speaks of
-- channels. `TableLemmas` has, for each event, that all of this holds exactly if the table doesn't refuse it.
use Rattle.std.specs.Prelude.{◌≡◌, ℕ, ◌<◌, Option, Some, None, false, length}
use Rattle.gg_node.specs.Machine.{machine_at, first_empty, missing}
use Rattle.gg_node.specs.inside.Machine.{due}
use Rattle.gg_node.specs.Step.{AllFired}
use Rattle.gg_node.specs.inside.Step.{AllLatched}
use Rattle.gg_net.specs.Network.{Network, wire_at, queue_at, producer_of, IsAtIn, IsAtOut}
use Rattle.gg_net.specs.Step.{latch_of, flag_of}
use Rattle.gg_net.specs.inside.Readings.{due_fields, IsFirstClear, IsFirstEmpty}

-- machine m has cycles left
abbrev pub IsBelow : Network → ℕ → Type 0
IsBelow net m = (machine_at net.machines m).cycle < net.end

-- a channel exists, and its consumer has cycles left
abbrev pub CanTake : Network → ℕ → Type 0
CanTake net c = (c < length net.wires) × IsBelow net (wire_at net.wires c).consumer

-- a channel exists, and its producer has cycles left
abbrev pub CanGive : Network → ℕ → Type 0
CanGive net c = (c < length net.wires) × IsBelow net (wire_at net.wires c).producer

-- a machine exists, and has a port with this number, served or not
abbrev pub HasPort : Network → ℕ → ℕ → Type 0
HasPort net m p = (m < length net.machines) × (p < (machine_at net.machines m).port_count)

-- the first in that a channel needs and that has no token yet, if there is one
abbrev pub missing_of : Network → ℕ → Option ℕ
missing_of net c = missing (producer_of net c) (wire_at net.wires c).out

-- the first in that the port that is due uses and that has no token yet, if there is one
abbrev pub missing_field : Network → ℕ → Option ℕ
missing_field net m = first_empty (machine_at net.machines m).latches (due_fields (machine_at net.machines m))

-- ---- when each may be done

-- The front token of a channel may be latched: the channel exists, its consumer has cycles left, the latch is empty,
-- and the queue holds a token.
pub record CanLatch (net : Network) (c : ℕ) : Type 0 where
  pub can : CanTake net c
  pub empty : latch_of net c ≡ None
  pub held : 0 < length (queue_at net.queues c)

-- A channel's token may be given: the channel exists, its producer has cycles left, the token wasn't given in this
-- cycle, all that it needs is latched, and the queue has room.
pub record CanFire (net : Network) (c : ℕ) : Type 0 where
  pub can : CanGive net c
  pub clear : flag_of net c ≡ false
  pub needed : missing_of net c ≡ None
  pub room : length (queue_at net.queues c) < (wire_at net.wires c).capacity

-- A port may be served: it exists, its machine has cycles left, all outs of the machine have given their tokens, the
-- port is due, and its fields are latched.
pub record CanServe (net : Network) (m p : ℕ) : Type 0 where
  pub there : HasPort net m p
  pub below : IsBelow net m
  pub fired : AllFired (machine_at net.machines m)
  pub due : due (machine_at net.machines m) ≡ Some p
  pub fields : missing_field net m ≡ None

-- A machine may finish its cycle: it exists, it has cycles left, all outs have given their tokens, all ports are
-- served, and all ins have their tokens.
pub record CanFinish (net : Network) (m : ℕ) : Type 0 where
  pub there : m < length net.machines
  pub below : IsBelow net m
  pub fired : AllFired (machine_at net.machines m)
  pub served : due (machine_at net.machines m) ≡ None
  pub latched : AllLatched (machine_at net.machines m)

-- ---- what is waited for

-- Channel d is at the first out of machine m that hasn't given its token.
pub record IsUnfired (net : Network) (m d : ℕ) : Type 0 where
  pub out : ℕ
  pub first : IsFirstClear (machine_at net.machines m).flags out
  pub at : IsAtOut net.wires m out d

-- Channel d is at the first in of machine m that has no token.
pub record IsUnlatched (net : Network) (m d : ℕ) : Type 0 where
  pub place : ℕ
  pub first : IsFirstEmpty (machine_at net.machines m).latches place
  pub at : IsAtIn net.wires m place d
