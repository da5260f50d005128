-- A FIFO with four places: the circuit that it keeps to.
-- Source: "Synthesis of Synchronous Elastic Architectures", DAC 2006 (channels with `valid` and `stop`); FIRRTL Specification, "Registers"
-- (a register with a reset takes its init while the condition is 1).
use Rattle.std.specs.Prelude.{◌≡◌, ℕ, ◌<◌, ◌^◌, ◌==◌, if◌then◌else◌, List, [], ◌∷◌, Some, None, codes}
use Rattle.gg_bits.specs.Shape.{shape, uint}
use Rattle.gg_bits.specs.declared.types.Ty.{Ty}
use Rattle.gg_flat.specs.declared.piece.Driver.TheVariants.{Input, Held}
use Rattle.gg_flat.specs.declared.piece.Register.{Register}
use Rattle.gg_flat.specs.declared.piece.Signal.{Signal}
use Rattle.gg_flat.specs.Circuit.{FlatCircuit}
use Rattle.gg_flat.specs.State.{State}
use Rattle.gg_bridge.specs.Joined.{copy_line}
use Rattle.golden_fifo.specs.declared.model.Place.{Place}

-- ---- the circuit

-- the in-signal at a place
abbrev pub given : Ty → ℕ → Signal
given ty place = record { ty = ty; driver = Input place }

-- a signal with the value of a register
abbrev pub held : Ty → ℕ → Signal
held ty register = record { ty = ty; driver = Held register }

-- a register that keeps the value of `own` as long as `full` is 1, and otherwise takes the value of `behind`
abbrev pub taking : (bit : Ty) → (full : ℕ) → Ty → (own behind : ℕ) → Register
taking bit full ty own behind =
    record {
      ty = ty;
      reset = Some (record { condition = copy_line bit full; init = copy_line ty own });
      next = Some (copy_line ty behind);
      clock = None;
    }

-- Three in-signals, and two signals for each place: whether it is full, and its value.
abbrev pub fifo_signals : Ty → Ty → FlatCircuit
fifo_signals bit ty =
    record {
      paths =
          codes "put" ∷ codes "in" ∷ codes "stop" ∷ codes "valid" ∷ codes "out" ∷ codes "full2" ∷ codes "value2" ∷ codes "full3" ∷ codes "value3"
          ∷ codes "full" ∷ codes "value4" ∷ [];
      signals =
          given bit 0 ∷ given ty 1 ∷ given bit 2 ∷ held bit 0 ∷ held ty 1 ∷ held bit 2 ∷ held ty 3 ∷ held bit 4 ∷ held ty 5 ∷ held bit 6
          ∷ held ty 7 ∷ [];
      registers = [];
      memories = [];
      ins = [];
      outs = [];
      clocks = 0;
    }

-- A full place is full as long as the next one is, the first as long as `stop` is 1. An empty one takes the value of the place before it.
abbrev pub fifo_registers : Ty → Ty → List Register
fifo_registers bit ty =
    taking bit 3 bit 2 5 ∷ taking bit 3 ty 4 6 ∷ taking bit 5 bit 3 7 ∷ taking bit 5 ty 6 8 ∷ taking bit 7 bit 5 9 ∷ taking bit 7 ty 8 10
    ∷ taking bit 9 bit 7 0 ∷ taking bit 9 ty 10 1 ∷ []

-- The FIFO for values of type `ty`, with `bit` as the type of its flags: three in-signals, a flag and a value for each of four places, and
-- three out-signals.
abbrev pub fifo_piece : Ty → Ty → FlatCircuit
fifo_piece bit ty =
    record {
      paths = (fifo_signals bit ty).paths;
      signals = (fifo_signals bit ty).signals;
      registers = fifo_registers bit ty;
      memories = [];
      ins = 0 ∷ 1 ∷ 2 ∷ [];
      outs = 3 ∷ 4 ∷ 9 ∷ [];
      clocks = 0;
    }

-- ---- its state

-- a place without a value
abbrev pub empty_place : Place
empty_place = record { full = 0; value = 0 }

-- the state of these four places, starting with the place that hands on first
abbrev pub fifo_state : (first second third fourth : Place) → State
fifo_state first second third fourth =
    record {
      registers = first.full ∷ first.value ∷ second.full ∷ second.value ∷ third.full ∷ third.value ∷ fourth.full ∷ fourth.value ∷ [];
      banks = [];
    }

-- a place after a cycle: `behind` is the place before it, and `stop` says that it can't hand its value on
abbrev pub next_place : Place → Place → ℕ → Place
next_place place behind stop = if place.full == 1 then record { full = stop; value = place.value } else behind

-- a FIFO as contracts see it: its types and its places
pub record Kept : Type 0 where
  pub bit : Ty
  pub ty : Ty
  pub first : Place
  pub second : Place
  pub third : Place
  pub fourth : Place

-- A place of this width: its flag is one bit, and its value fits.
pub record IsPlace (width : ℕ) (place : Place) : Type 0 where
  pub bit : place.full < 2
  pub fits : place.value < 2 ^ width

-- The circuit is a FIFO of this type. Its flags are one unsigned bit, and each place has its width.
pub record IsFifo (bit ty : Ty) (piece : FlatCircuit) (first second third fourth : Place) : Type 0 where
  pub is : piece ≡ fifo_piece bit ty
  pub flag : shape bit ≡ uint 1
  pub one : IsPlace ty.width first
  pub two : IsPlace ty.width second
  pub three : IsPlace ty.width third
  pub four : IsPlace ty.width fourth
