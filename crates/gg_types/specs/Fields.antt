-- The values of a memory's fields. This program's profile: if a field occurs twice, the first counts.
-- Source: FIRRTL Specification, "Memories" (data type, depth).
use Rattle.std.specs.Prelude.{ℕ, List, [], ◌∷◌, Option, Some, None}
use Rattle.gg_bits.specs.Lists.{or_else}
use Rattle.gg_ast.specs.declared.module.GroundType.{GroundType}
use Rattle.gg_ast.specs.declared.statement.Field.{Field}
use Rattle.gg_ast.specs.declared.statement.MemoryField.{MemoryField}
use Rattle.gg_ast.specs.declared.statement.MemoryField.TheVariants as field

-- the value of the first field that has one
abbrev pub first_said : {A : Type 0} → (MemoryField → Option A) → List Field → Option A
first_said said [] = None
first_said said (f ∷ fs) = or_else (said f.kind) (first_said said fs)

-- the type of the words, `data-type`
abbrev pub type_said : MemoryField → Option GroundType
type_said (field.DataType ty) = Some ty
type_said (field.Depth n) = None
type_said (field.ReadLatency n) = None
type_said (field.WriteLatency n) = None
type_said (field.Readers names) = None
type_said (field.Writers names) = None
type_said (field.ReadUnderWrite said) = None

-- how many words there are, `depth`
abbrev pub depth_said : MemoryField → Option ℕ
depth_said (field.DataType ty) = None
depth_said (field.Depth n) = Some n
depth_said (field.ReadLatency n) = None
depth_said (field.WriteLatency n) = None
depth_said (field.Readers names) = None
depth_said (field.Writers names) = None
depth_said (field.ReadUnderWrite said) = None
