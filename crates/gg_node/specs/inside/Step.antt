-- More on Step: what no promise of the program reaches.
-- Source: MEMOCODE 2009 (a node takes a token for each input, gives one for each output when what it needs is there,
-- and finishes the cycle when it has done both); ICCAD 2019 for memories that are served port by port.
use Rattle.std.specs.Prelude.{◌≡◌, ℕ, ◌<◌, Some, None, false, IsSome, IfSome, All, length, slice_get, ⊤}
use Rattle.gg_bits.specs.Shape.{Fits}
use Rattle.gg_flat.specs.Line.{shape_at}
use Rattle.gg_flat.specs.Settled.{in_shapes}
use Rattle.gg_node.specs.Machine.{Behaviour, RunsPiece, GivesColumn, KeepsLast, Machine, latch_at, flag_at, missing}
use Rattle.gg_node.specs.inside.Machine.{due}
use Rattle.gg_node.specs.Step.{AllFired, HasFields}

-- ---- when each step may be done

-- a value has the type of an in
abbrev pub FitsIn : Behaviour → ℕ → ℕ → Type 0
FitsIn (RunsPiece piece) i value = Fits (shape_at (in_shapes piece) i) value
FitsIn (GivesColumn column) i value = ⊤
FitsIn (KeepsLast rows) i value = ⊤

-- An in may take this token: its latch is empty, and the token has the in's type.
pub record MayLatch (machine : Machine) (i value : ℕ) : Type 0 where
  pub there : i < length machine.latches
  pub empty : latch_at machine.latches i ≡ None
  pub typed : FitsIn machine.behaviour i value

-- a column has a value for a cycle
abbrev pub HasValueAt : Behaviour → ℕ → Type 0
HasValueAt (RunsPiece piece) cycle = ⊤
HasValueAt (GivesColumn column) cycle = cycle < length column
HasValueAt (KeepsLast rows) cycle = ⊤

-- An out may give its token: it hasn't given it in this cycle, and each in that it needs has its token.
pub record MayFire (machine : Machine) (o : ℕ) : Type 0 where
  pub there : o < length machine.flags
  pub clear : flag_at machine.flags o ≡ false
  pub needed : missing machine o ≡ None
  pub known : HasValueAt machine.behaviour machine.cycle

-- all ins have their tokens
abbrev pub AllLatched : Machine → Type 0
AllLatched machine = All (λ latch. IsSome latch) machine.latches

-- A port may be served: all outs have given their tokens, the port is due, and its fields have tokens.
pub record MayServe (machine : Machine) (p : ℕ) : Type 0 where
  pub fired : AllFired machine
  pub due : due machine ≡ Some p
  pub fields : IfSome (slice_get machine.ports machine.served) (HasFields machine.latches)

-- The cycle may be finished: all outs have given their tokens, all ports are served, all ins have their tokens, and the
-- cycle is below the machine's limit.
pub record MayFinish (machine : Machine) : Type 0 where
  pub fired : AllFired machine
  pub served : machine.served ≡ length machine.ports
  pub latched : AllLatched machine
  pub below : machine.cycle < machine.limit

-- ---- what a machine that is below a cycle waits for

-- A machine is below a cycle, and an in has no token of its own cycle.
pub record Wants (cycle : ℕ) (machine : Machine) (i : ℕ) : Type 0 where
  pub below : machine.cycle < cycle
  pub empty : latch_at machine.latches i ≡ None

-- A machine is below a cycle, and an out that hasn't given its token needs no other.
pub record Gives (cycle : ℕ) (machine : Machine) (o : ℕ) : Type 0 where
  pub below : machine.cycle < cycle
  pub clear : flag_at machine.flags o ≡ false
  pub needed : missing machine o ≡ None
