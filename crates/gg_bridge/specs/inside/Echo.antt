-- An echo: a circuit that says what it saw in the cycle before.
-- Source: FIRRTL Specification, "Registers".
use Rattle.std.specs.Prelude.{◌≡◌, ◌<◌, ◌^◌, ℕ, [], ◌∷◌, Some, None, codes}
use Rattle.gg_bits.specs.declared.types.Ty.{Ty}
use Rattle.gg_flat.specs.declared.piece.Driver.TheVariants.{Input, Held}
use Rattle.gg_flat.specs.Circuit.{FlatCircuit}
use Rattle.gg_flat.specs.State.{State}
use Rattle.gg_bridge.specs.Joined.{copy_line}

-- an in-signal, and an out-signal that is a register, which takes the in-signal in each tick
abbrev pub echo_piece : Ty → FlatCircuit
echo_piece ty =
    record {
      paths = codes "in" ∷ codes "out" ∷ [];
      signals = record { ty = ty; driver = Input 0 } ∷ record { ty = ty; driver = Held 0 } ∷ [];
      registers = record { ty = ty; reset = None; next = Some (copy_line ty 0); clock = None } ∷ [];
      memories = [];
      ins = 0 ∷ [];
      outs = 1 ∷ [];
      clocks = 0;
    }

-- the state of an echo that saw this value last
abbrev pub echo_state : ℕ → State
echo_state last = record { registers = last ∷ []; banks = [] }

-- what a contract sees of an echo: the type of its values, and the last value that it saw
pub record Echoing : Type 0 where
  pub ty : Ty
  pub last : ℕ

-- The piece is an echo of values of this type, and the last value that it saw is one of them.
pub record IsEcho (ty : Ty) (piece : FlatCircuit) (last : ℕ) : Type 0 where
  pub is : piece ≡ echo_piece ty
  pub fits : last < 2 ^ ty.width
