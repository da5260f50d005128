-- More on Tries: definitions that no promise of the program reaches.
-- Source: MEMOCODE 2009 (when a node takes a token, gives one and finishes a cycle); ICCAD 2019 for memories that are
-- served port by port.
use Rattle.std.specs.Prelude.{◌≡◌, ℕ, ◌+◌, List, Some, None, Bool, true, false, slice_set, slice_get}
use Rattle.gg_flat.specs.State.{State}
use Rattle.gg_link.specs.Seats.{SeatState, SeatWentOn, Counted}
use Rattle.gg_node.specs.Machine.{Machine, machine_at, latch_at, flag_at, missing, first_empty}
use Rattle.gg_node.specs.inside.Machine.{due}
use Rattle.gg_node.specs.Token.{IsNextState}
use Rattle.gg_node.specs.Step.{with_latch, with_flag, with_served, finished, AllFired}
use Rattle.gg_node.specs.inside.Step.{AllLatched}
use Rattle.gg_net.specs.inside.Readings.{due_fields}

-- ---- `Latch`

-- The next value of the stream was taken and latched.
pub record HasLatched (old : List Machine) (thread place : ℕ) (before : SeatState) (new : List Machine) (after : SeatState) : Type 0 where
  pub empty : latch_at (machine_at old thread).latches place ≡ None
  pub value : ℕ
  pub token : slice_get before.stream before.count ≡ Some value
  pub counted : Counted before after
  pub step : new ≡ slice_set old thread (with_latch (machine_at old thread) place value)

-- Nothing was latched. If the latch could take a token, the seat found no value.
pub record HasNotLatched (old : List Machine) (thread place : ℕ) (before : SeatState) (new : List Machine) (after : SeatState) : Type 0 where
  pub same : new ≡ old
  pub went_on : SeatWentOn before after
  pub count : after.count ≡ before.count
  pub cause : latch_at (machine_at old thread).latches place ≡ None → after.seen ≡ after.count

-- the effect of a try of `Latch`, by whether it latched a token
abbrev pub LatchTried : List Machine → ℕ → ℕ → SeatState → List Machine → SeatState → Bool → Type 0
LatchTried old thread place before new after true = HasLatched old thread place before new after
LatchTried old thread place before new after false = HasNotLatched old thread place before new after

-- ---- `Fire`

-- The next value of the stream was put, and the flag set.
pub record HasFired (old : List Machine) (thread place : ℕ) (before : SeatState) (new : List Machine) (after : SeatState) : Type 0 where
  pub clear : flag_at (machine_at old thread).flags place ≡ false
  pub needed : missing (machine_at old thread) place ≡ None
  pub counted : Counted before after
  pub step : new ≡ slice_set old thread (with_flag (machine_at old thread) place)

-- Nothing was put. If the out could give its token, the seat found the link full.
pub record HasNotFired (old : List Machine) (thread place : ℕ) (before : SeatState) (new : List Machine) (after : SeatState) : Type 0 where
  pub same : new ≡ old
  pub went_on : SeatWentOn before after
  pub count : after.count ≡ before.count
  pub cause : flag_at (machine_at old thread).flags place ≡ false → missing (machine_at old thread) place ≡ None → after.seen + after.capacity ≡ after.count

-- the effect of a try of `Fire`, by whether it gave a token
abbrev pub FireTried : List Machine → ℕ → ℕ → SeatState → List Machine → SeatState → Bool → Type 0
FireTried old thread place before new after true = HasFired old thread place before new after
FireTried old thread place before new after false = HasNotFired old thread place before new after

-- ---- `Serve`

-- the port that is due may be served
pub record ServeIsDue (x : Machine) (port : ℕ) : Type 0 where
  pub fired : AllFired x
  pub due : due x ≡ Some port
  pub fields : first_empty x.latches (due_fields x) ≡ None

-- The port that was due was served.
pub record HasServed (old : List Machine) (thread : ℕ) (new : List Machine) : Type 0 where
  pub port : ℕ
  pub due : ServeIsDue (machine_at old thread) port
  pub step : new ≡ slice_set old thread (with_served (machine_at old thread))

-- Nothing was served, since no port could be served.
pub record HasNotServed (old : List Machine) (thread : ℕ) (new : List Machine) : Type 0 where
  pub same : new ≡ old
  pub cause : (port : ℕ) → ServeIsDue (machine_at old thread) port → ⊥

-- the effect of a try of `Serve`, by whether it served a port
abbrev pub ServeTried : List Machine → ℕ → List Machine → Bool → Type 0
ServeTried old thread new true = HasServed old thread new
ServeTried old thread new false = HasNotServed old thread new

-- ---- `Finish`

-- the cycle may be finished
pub record FinishIsDue (x : Machine) : Type 0 where
  pub fired : AllFired x
  pub served : due x ≡ None
  pub latched : AllLatched x

-- The cycle was finished, and the machine took its next state.
pub record HasFinished (old : List Machine) (thread : ℕ) (new : List Machine) : Type 0 where
  pub whole : FinishIsDue (machine_at old thread)
  pub state : State
  pub is : IsNextState (machine_at old thread) state
  pub step : new ≡ slice_set old thread (finished (machine_at old thread) state)

-- Nothing was finished, since the cycle could not be finished.
pub record HasNotFinished (old : List Machine) (thread : ℕ) (new : List Machine) : Type 0 where
  pub same : new ≡ old
  pub cause : FinishIsDue (machine_at old thread) → ⊥

-- the effect of a try of `Finish`, by whether it finished the cycle
abbrev pub FinishTried : List Machine → ℕ → List Machine → Bool → Type 0
FinishTried old thread new true = HasFinished old thread new
FinishTried old thread new false = HasNotFinished old thread new

-- the end of a cycle was tried, by whether it was done; or it wasn't to be tried, and nothing was done
abbrev pub FinishTriedIf : Bool → List Machine → ℕ → List Machine → Bool → Type 0
FinishTriedIf true old thread new done = FinishTried old thread new done
FinishTriedIf false old thread new done = (done ≡ false) × (new ≡ old)
