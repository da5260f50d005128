-- The faults of memories' fields, F8, in the order of the text.
-- Source: FIRRTL Specification, "Memories": a memory has a data type, a depth above 0, latencies and a read-under-write
-- flag. Here the read latency is 0 or 1 and the write latency 1, and a missing read-under-write is undefined.
use Rattle.std.specs.Prelude.{ℕ, Bool, true, false, not, List, [], ◌∷◌, ◌++◌, flat_map, nat_lt, nat_le, nat_eq}
use Rattle.gg_ast.specs.declared.statement.Field.{Field}
use Rattle.gg_ast.specs.declared.statement.MemoryField as fields
use Rattle.gg_ast.specs.declared.statement.MemoryField.TheVariants as field
use Rattle.gg_ast.specs.declared.statement.Stmt.{Stmt}
use Rattle.gg_ast.specs.declared.statement.StmtKind as statements
use Rattle.gg_ast.specs.declared.statement.StmtKind.TheVariants as kinds
use Rattle.gg_ast.specs.Tree.{ModuleTree, CircuitTree}
use Rattle.gg_shape.specs.declared.fault.Fault.{Fault}
use Rattle.gg_shape.specs.declared.fault.Fault.TheVariants.{MemoryField}
use Rattle.gg_shape.specs.declared.fault.MemoryKey.{MemoryKey}
use Rattle.gg_shape.specs.declared.fault.MemoryKey.TheVariants.{DataType, Depth, ReadLatency, WriteLatency, ReadUnderWrite}
use Rattle.gg_shape.specs.Faults.{fault_if}

-- the number of a field, if it has this key; 0 for a type and a word, which have no number
abbrev pub given_by : MemoryKey → fields.MemoryField → List ℕ
given_by DataType (field.DataType ty) = 0 ∷ []
given_by Depth (field.Depth n) = n ∷ []
given_by ReadLatency (field.ReadLatency n) = n ∷ []
given_by WriteLatency (field.WriteLatency n) = n ∷ []
given_by ReadUnderWrite (field.ReadUnderWrite word) = 0 ∷ []
given_by key other = []

-- all the numbers that the fields of a memory have for a key
abbrev pub given : MemoryKey → List Field → List ℕ
given key fs = flat_map (λ (f : Field). given_by key f.kind) fs

-- just one number, which passes the test
abbrev pub is_one : (ℕ → Bool) → List ℕ → Bool
is_one test [] = false
is_one test (n ∷ []) = test n
is_one test (n ∷ m ∷ ns) = false

-- no number or one, whatever it is
abbrev pub is_one_at_most : List ℕ → Bool
is_one_at_most [] = true
is_one_at_most (n ∷ []) = true
is_one_at_most (n ∷ m ∷ ns) = false

-- the key comes as often as it should, with a valid number
abbrev pub is_right : MemoryKey → List ℕ → Bool
is_right DataType ns = is_one (λ n. true) ns
is_right Depth ns = is_one (λ n. nat_lt 0 n) ns
is_right ReadLatency ns = is_one (λ n. nat_le n 1) ns
is_right WriteLatency ns = is_one (λ n. nat_eq n 1) ns
is_right ReadUnderWrite ns = is_one_at_most ns

-- F8 at the memory's line, if this field of it doesn't come as often as it should, or has a number that isn't valid
abbrev pub wrong_field : ℕ → List Field → MemoryKey → List Fault
wrong_field line fs key = fault_if (not (is_right key (given key fs))) (MemoryField line key)

-- the fields in this order: data-type and depth (in `wrong_fields`), read-latency, write-latency, read-under-write
abbrev pub wrong_times : ℕ → List Field → List Fault
wrong_times line fs = wrong_field line fs ReadLatency ++ (wrong_field line fs WriteLatency ++ wrong_field line fs ReadUnderWrite)

-- all wrong fields of one memory
abbrev pub wrong_fields : ℕ → List Field → List Fault
wrong_fields line fs = wrong_field line fs DataType ++ (wrong_field line fs Depth ++ wrong_times line fs)

-- the wrong fields of a statement; only a memory has some
abbrev pub wrong_in_kind : ℕ → statements.StmtKind → List Fault
wrong_in_kind line (kinds.Memory name fs) = wrong_fields line fs
wrong_in_kind line (kinds.Wire name ty) = []
wrong_in_kind line (kinds.Node name value) = []
wrong_in_kind line (kinds.Register name ty clock reset) = []
wrong_in_kind line (kinds.Instance name of_module) = []
wrong_in_kind line (kinds.Connect sink source) = []
wrong_in_kind line (kinds.Invalid sink) = []
wrong_in_kind line kinds.Skip = []
wrong_in_kind line (kinds.Stop clock condition code label) = []
wrong_in_kind line (kinds.Report word arguments label) = []

-- `wrong_in_kind` for a statement with its line
abbrev pub wrong_by : Stmt → List Fault
wrong_by s = wrong_in_kind s.line s.kind

-- the wrong fields of all memories of a module, in the order of the text
abbrev pub wrong_in_module : ModuleTree → List Fault
wrong_in_module m = flat_map wrong_by m.statements

-- the wrong fields of all memories of a circuit, in the order of the text
abbrev pub memory_faults : CircuitTree → List Fault
memory_faults circuit = flat_map wrong_in_module circuit.modules
