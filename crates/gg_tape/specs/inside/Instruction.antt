-- The value of an instruction, and what it requires of the cells that it names.
use Rattle.std.specs.Prelude.{◌≡◌, ℕ, ◌<◌, List, Ok, length}
use Rattle.gg_bits.specs.Shape.{Shape, of_kind, Fits}
use Rattle.gg_bits.specs.ResultType.{type1, type2, type_const, shape_mux}
use Rattle.gg_bits.specs.Meaning.{value1, value2, value_const, value_mux}
use Rattle.gg_flat.specs.Line.{value_at}
use Rattle.gg_tape.specs.declared.small.Small.{Small}
use Rattle.gg_tape.specs.declared.instruction.Operation.{Operation}
use Rattle.gg_tape.specs.declared.instruction.Operation.TheVariants.{Take, Constant, Apply1, Apply2, ApplyConst, Choose}
use Rattle.gg_tape.specs.declared.instruction.Instruction.{Instruction}

-- the shape of a type in two bytes
abbrev pub small : Small → Shape
small ty = of_kind ty.kind ty.width

-- there is a cell with this number, and its value is of this type
abbrev pub IsOperand : List ℕ → Small → ℕ → Type 0
IsOperand cells ty number = (number < length cells) × Fits (small ty) (value_at cells number)

-- The value of an operation of an instruction, if the literals and the cells have these values.
abbrev pub given : List ℕ → List ℕ → Instruction → Operation → ℕ
given literals cells i Take = value_at cells i.first
given literals cells i Constant = value_at literals i.first
given literals cells i (Apply1 op) = value1 op (small i.first_ty) (value_at cells i.first)
given literals cells i (Apply2 op) = value2 op (small i.first_ty) (value_at cells i.first) (small i.second_ty) (value_at cells i.second)
given literals cells i (ApplyConst op) = value_const op (small i.first_ty) (value_at cells i.first) i.second i.third
given literals cells i Choose = value_mux (value_at cells i.third) (small i.first_ty) (value_at cells i.first) (small i.second_ty) (value_at cells i.second)

-- An operation of an instruction can be done: what it names exists and is of its type, and the result is of the instruction's type.
abbrev pub CanDo : List ℕ → List ℕ → Instruction → Operation → Type 0
CanDo literals cells i Take = IsOperand cells i.ty i.first
CanDo literals cells i Constant = IsOperand literals i.ty i.first
CanDo literals cells i (Apply1 op) = IsOperand cells i.first_ty i.first × (type1 op (small i.first_ty) ≡ Ok (small i.ty))
CanDo literals cells i (Apply2 op) = IsOperand cells i.first_ty i.first × IsOperand cells i.second_ty i.second × (type2 op (small i.first_ty) (small i.second_ty) ≡ Ok (small i.ty))
CanDo literals cells i (ApplyConst op) = IsOperand cells i.first_ty i.first × (type_const op (small i.first_ty) i.second i.third ≡ Ok (small i.ty))
CanDo literals cells i Choose =
    IsOperand cells i.first_ty i.first
    × IsOperand cells i.second_ty i.second
    × (i.third < length cells)
    × (value_at cells i.third < 2)
    × (i.first_ty.kind ≡ i.second_ty.kind)
    × (shape_mux (small i.first_ty) (small i.second_ty) ≡ small i.ty)
