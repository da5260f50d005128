-- The types of signals, and the memory that fields make.
-- Source: FIRRTL Specification, "Memories" (data type, depth, latencies, ports, read-under-write). This program's
-- profile: if a field occurs twice, the first counts; if read-under-write is missing, it is `undefined`.
pub use Rattle.gg_types.specs.Fields.{first_said, type_said, depth_said}
use Rattle.std.specs.Prelude.{ℕ, zero, suc, List, [], Option, Some, None, ◌&&◌, nat_le, nat_lt, flat_map, if◌then◌else◌, option_and_then, unwrap_or}
use Rattle.gg_bits.specs.Shape.{Shape, uint, sint, shape}
use Rattle.gg_ast.specs.declared.module.GroundType.{GroundType}
use Rattle.gg_ast.specs.declared.module.GroundType.TheVariants.{UInt, SInt, Clock}
use Rattle.gg_ast.specs.declared.statement.Field.{Field}
use Rattle.gg_ast.specs.declared.statement.MemoryField.{MemoryField}
use Rattle.gg_ast.specs.declared.statement.MemoryField.TheVariants as field
use Rattle.gg_ast.specs.declared.statement.ReadUnderWrite as written
use Rattle.gg_ast.specs.declared.statement.ReadUnderWrite.TheVariants as word
use Rattle.gg_flat.specs.declared.memory.UnderWrite.{UnderWrite}
use Rattle.gg_flat.specs.declared.memory.UnderWrite.TheVariants.{Old, New, Undefined}
use Rattle.gg_flat.specs.declared.memory.Latency.{Latency}
use Rattle.gg_flat.specs.declared.memory.Latency.TheVariants.{Zero, One}

-- ---- types

-- the shape if its width w is 1 to 128
abbrev pub sized : ℕ → Shape → Option Shape
sized w s = if nat_le 1 w && nat_le w 128 then Some s else None

-- the shape of a type as it is written; a Clock has none
abbrev pub type_shape : GroundType → Option Shape
type_shape (UInt w) = sized w (uint w)
type_shape (SInt w) = sized w (sint w)
type_shape Clock = None

-- ---- fields

-- the read latency of a field; only `read-latency` has one
abbrev pub latency_said : MemoryField → Option ℕ
latency_said (field.DataType ty) = None
latency_said (field.Depth n) = None
latency_said (field.ReadLatency n) = Some n
latency_said (field.WriteLatency n) = None
latency_said (field.Readers names) = None
latency_said (field.Writers names) = None
latency_said (field.ReadUnderWrite said) = None

-- whether a late reader finds the old or the new word where one is written in the same tick, by the word of the text
abbrev pub under_write : written.ReadUnderWrite → UnderWrite
under_write word.Old = Old
under_write word.New = New
under_write word.Undefined = Undefined

-- the value of `read-under-write`; no other field has it
abbrev pub under_said : MemoryField → Option UnderWrite
under_said (field.DataType ty) = None
under_said (field.Depth n) = None
under_said (field.ReadLatency n) = None
under_said (field.WriteLatency n) = None
under_said (field.Readers names) = None
under_said (field.Writers names) = None
under_said (field.ReadUnderWrite said) = Some (under_write said)

-- the readers that a field names; only `reader` names some
abbrev pub readers_said : MemoryField → List (List ℕ)
readers_said (field.DataType ty) = []
readers_said (field.Depth n) = []
readers_said (field.ReadLatency n) = []
readers_said (field.WriteLatency n) = []
readers_said (field.Readers names) = names
readers_said (field.Writers names) = []
readers_said (field.ReadUnderWrite said) = []

-- the writers that a field names; only `writer` names some
abbrev pub writers_said : MemoryField → List (List ℕ)
writers_said (field.DataType ty) = []
writers_said (field.Depth n) = []
writers_said (field.ReadLatency n) = []
writers_said (field.WriteLatency n) = []
writers_said (field.Readers names) = []
writers_said (field.Writers names) = names
writers_said (field.ReadUnderWrite said) = []

-- ---- a memory

-- the shape of a memory's words, the number of words, the latency, and the names of its readers and writers, each in
-- the order of the file
pub record Bank : Type 0 where
  pub word : Shape
  pub depth : ℕ
  pub latency : Latency
  pub readers : List (List ℕ)
  pub writers : List (List ℕ)

-- a read latency of 0 or 1; with 1 it also says whether a reader finds old or new words; none above 1
abbrev pub latency_of : UnderWrite → ℕ → Option Latency
latency_of under zero = Some Zero
latency_of under (suc zero) = Some (One under)
latency_of under (suc (suc n)) = None

-- a memory of these parts, if it has a type and a latency and at least one word
abbrev pub bank_with : Option Shape → ℕ → Option Latency → List (List ℕ) → List (List ℕ) → Option Bank
bank_with None depth latency readers writers = None
bank_with (Some word) depth None readers writers = None
bank_with (Some word) depth (Some latency) readers writers =
    if nat_lt 0 depth
    then Some (record { word = word; depth = depth; latency = latency; readers = readers; writers = writers })
    else None

-- The memory that the fields make. There is none without a type, at least one word and a read latency of 0 or 1.
abbrev pub bank_of : List Field → Option Bank
bank_of fields =
    bank_with
    (option_and_then type_shape (first_said type_said fields))
    (unwrap_or (first_said depth_said fields) 0)
    (option_and_then (latency_of (unwrap_or (first_said under_said fields) Undefined)) (first_said latency_said fields))
    (flat_map (λ (f : Field). readers_said f.kind) fields)
    (flat_map (λ (f : Field). writers_said f.kind) fields)
