-- The ports of a memory and their fields (FIRRTL Specification, "Memories"). A reader has the fields addr, en, clk and
-- data, a writer these and mask. (Readwriters are not in the part of lowered FIRRTL that is read here.)
use Rattle.std.specs.Prelude.{ℕ, Bool, true, false, List, [], ◌∷◌, ◌++◌, map, flat_map, codes}
use Rattle.gg_ast.specs.declared.statement.Field.{Field}
use Rattle.gg_ast.specs.declared.statement.MemoryField as fields
use Rattle.gg_ast.specs.declared.statement.MemoryField.TheVariants.{DataType, Depth, ReadLatency, WriteLatency, Readers, Writers, ReadUnderWrite}
use Rattle.gg_shape_names.specs.declared.role.PortKind.{PortKind}
use Rattle.gg_shape_names.specs.declared.role.PortKind.TheVariants.{Reader, Writer}
use Rattle.gg_shape_names.specs.declared.role.PortField.{PortField}
use Rattle.gg_shape_names.specs.declared.role.PortField.TheVariants.{Addr, En, Clk, Data, Mask}

-- the names of readers in a field; only `reader` has some
abbrev pub readers_in : fields.MemoryField → List (List ℕ)
readers_in (Readers names) = names
readers_in (Writers names) = []
readers_in (DataType ty) = []
readers_in (Depth n) = []
readers_in (ReadLatency n) = []
readers_in (WriteLatency n) = []
readers_in (ReadUnderWrite word) = []

-- the names of writers in a field; only `writer` has some
abbrev pub writers_in : fields.MemoryField → List (List ℕ)
writers_in (Readers names) = []
writers_in (Writers names) = names
writers_in (DataType ty) = []
writers_in (Depth n) = []
writers_in (ReadLatency n) = []
writers_in (WriteLatency n) = []
writers_in (ReadUnderWrite word) = []

-- a name of a port with the kind of the port
abbrev pub as_port : PortKind → List ℕ → List ℕ × PortKind
as_port kind name = (name, kind)

-- the readers in the order of the file, then the writers
abbrev pub memory_ports : List Field → List (List ℕ × PortKind)
memory_ports fs =
    map (as_port Reader) (flat_map (λ (f : Field). readers_in f.kind) fs)
    ++ map (as_port Writer) (flat_map (λ (f : Field). writers_in f.kind) fs)

-- the fields of a reader, and of a writer, in this order
abbrev pub port_fields : PortKind → List PortField
port_fields Reader = Addr ∷ (En ∷ (Clk ∷ (Data ∷ [])))
port_fields Writer = Addr ∷ (En ∷ (Clk ∷ (Data ∷ (Mask ∷ []))))

-- how a field of a port is written
abbrev pub field_name : PortField → List ℕ
field_name Addr = codes "addr"
field_name En = codes "en"
field_name Clk = codes "clk"
field_name Data = codes "data"
field_name Mask = codes "mask"

-- the data of a reader is what the memory returns; any other field is given to the memory
abbrev pub is_answer : PortKind → PortField → Bool
is_answer Reader Data = true
is_answer Reader Addr = false
is_answer Reader En = false
is_answer Reader Clk = false
is_answer Reader Mask = false
is_answer Writer field = false
