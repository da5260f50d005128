-- Small memories, with the faults of their fields.
use Rattle.std.proofs.Common.{◌≡◌, [], ◌∷◌, ◌++◌, refl}
use Rattle.gg_ast.specs.declared.module.GroundType.TheVariants.{UInt}
use Rattle.gg_ast.specs.declared.statement.MemoryField.TheVariants.{DataType, Depth, ReadLatency, WriteLatency, ReadUnderWrite}
use Rattle.gg_ast.specs.declared.statement.ReadUnderWrite.TheVariants.{Old, New}
use Rattle.gg_shape.specs.declared.fault.Fault.TheVariants.{MemoryField}
use Rattle.gg_shape.specs.declared.fault.MemoryKey.TheVariants as key
use Rattle.gg_shape.specs.Memories.{memory_faults}
use Rattle.gg_shape.proofs.WorkedCircuits.{field, sizes, ports_w_r, store_of}

-- a read-under-write may be missing, or be there once
right : memory_faults (store_of (sizes ++ ports_w_r)) ≡ []
right = refl

right_word : memory_faults (store_of (sizes ++ field 16 (ReadUnderWrite Old) ∷ [])) ≡ []
right_word = refl

word_twice : memory_faults (store_of (sizes ++ (field 16 (ReadUnderWrite Old) ∷ (field 17 (ReadUnderWrite New) ∷ [])))) ≡ MemoryField 11 key.ReadUnderWrite ∷ []
word_twice = refl

no_type : memory_faults (store_of (field 13 (Depth 4) ∷ (field 14 (ReadLatency 0) ∷ (field 15 (WriteLatency 1) ∷ [])))) ≡ MemoryField 11 key.DataType ∷ []
no_type = refl

type_twice : memory_faults (store_of (sizes ++ field 16 (DataType (UInt 8)) ∷ [])) ≡ MemoryField 11 key.DataType ∷ []
type_twice = refl

depth_zero : memory_faults (store_of (field 12 (DataType (UInt 8)) ∷ (field 13 (Depth 0) ∷ (field 14 (ReadLatency 0) ∷ (field 15 (WriteLatency 1) ∷ []))))) ≡ MemoryField 11 key.Depth ∷ []
depth_zero = refl

-- a second depth, with the same number
depth_twice : memory_faults (store_of (sizes ++ field 16 (Depth 4) ∷ [])) ≡ MemoryField 11 key.Depth ∷ []
depth_twice = refl

slow_read : memory_faults (store_of (field 12 (DataType (UInt 8)) ∷ (field 13 (Depth 4) ∷ (field 14 (ReadLatency 2) ∷ (field 15 (WriteLatency 1) ∷ []))))) ≡ MemoryField 11 key.ReadLatency ∷ []
slow_read = refl

-- a read latency of 1 is allowed
late_read : memory_faults (store_of (field 12 (DataType (UInt 8)) ∷ (field 13 (Depth 4) ∷ (field 14 (ReadLatency 1) ∷ (field 15 (WriteLatency 1) ∷ []))))) ≡ []
late_read = refl

quick_write : memory_faults (store_of (field 12 (DataType (UInt 8)) ∷ (field 13 (Depth 4) ∷ (field 14 (ReadLatency 0) ∷ (field 15 (WriteLatency 0) ∷ []))))) ≡ MemoryField 11 key.WriteLatency ∷ []
quick_write = refl

-- Faults come in the order of the table of fields, not in the order of the lines: a memory without fields, and one whose write
-- latency is above a wrong depth.
empty : memory_faults (store_of []) ≡ MemoryField 11 key.DataType ∷ MemoryField 11 key.Depth ∷ MemoryField 11 key.ReadLatency ∷ MemoryField 11 key.WriteLatency ∷ []
empty = refl

in_order : memory_faults (store_of (field 12 (WriteLatency 2) ∷ (field 13 (DataType (UInt 8)) ∷ (field 14 (Depth 0) ∷ (field 15 (ReadLatency 0) ∷ []))))) ≡ MemoryField 11 key.Depth ∷ MemoryField 11 key.WriteLatency ∷ []
in_order = refl

-- ---- near misses

not_missing : memory_faults (store_of (sizes ++ ports_w_r)) ≡ MemoryField 11 key.ReadUnderWrite ∷ [] → ⊥
not_missing h = cc
