-- Drivers and registers with other numbers, and near misses.
use Rattle.std.proofs.Common.{◌≡◌, [], ◌∷◌, None, Some, refl, lit≤}
use Rattle.gg_bits.specs.declared.ops.Op2.TheVariants.{Add}
use Rattle.gg_bits.specs.declared.types.Kind.TheVariants.{UInt}
use Rattle.gg_bits.specs.declared.types.Ty.{Ty}
use Rattle.gg_flat.specs.declared.line.Node.{Node}
use Rattle.gg_flat.specs.declared.line.Op.{Op}
use Rattle.gg_flat.specs.declared.line.Op.TheVariants.{Ref, Two}
use Rattle.gg_flat.specs.declared.piece.Driver.{Driver}
use Rattle.gg_flat.specs.declared.piece.Driver.TheVariants.{Input, Held, MemoryWord, Computed}
use Rattle.gg_part.specs.Moved.{shifted}
use Rattle.gg_flat.specs.Renaming.{numbers_by, renamed_driver, renamed_register, signals_by}

abbrev one : Ty
one = record { kind = UInt; width = 1; positive = lit≤ tt; bounded = lit≤ tt }

abbrev node : Op → Node
node op = record { ty = one; op = op }

-- an instance from signal 4, register 1 and memory 0 on, and another from signal 14, register 3 and memory 2 on
abbrev moved : Driver → Driver
moved driver = renamed_driver (numbers_by (shifted 4 14) (shifted 1 3) (shifted 0 2)) driver

-- references move, places in the line don't
line : moved (Computed (node (Ref 4) ∷ node (Ref 6) ∷ node (Two Add 0 1) ∷ [])) ≡ Computed (node (Ref 14) ∷ node (Ref 16) ∷ node (Two Add 0 1) ∷ [])
line = refl

held : moved (Held 2) ≡ Held 4
held = refl

-- a reader's place in its memory doesn't move
word : moved (MemoryWord 0 1 7 8) ≡ MemoryWord 2 1 17 18
word = refl

-- an input's place stays
input : moved (Input 5) ≡ Input 5
input = refl

register : renamed_register (signals_by (shifted 4 14)) (record { ty = one; reset = None; next = Some (node (Ref 5) ∷ []); clock = Some 0 }) ≡ record { ty = one; reset = None; next = Some (node (Ref 15) ∷ []); clock = Some 0 }
register = refl

-- the register of the first isn't that of the second
not-same : moved (Held 2) ≡ Held 2 → ⊥
not-same e = cc
