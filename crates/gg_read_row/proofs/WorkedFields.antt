-- Memories worked by hand from the grammar (FIRRTL Specification, "Memories"): which row the tokens of a memory's line
-- and of each field spell, and near misses.
use Rattle.std.proofs.Common.{ℕ, List, [], ◌∷◌, codes, refl}
use Rattle.gg_lex.specs.declared.token.Tok.{Tok}
use Rattle.gg_lex.specs.declared.token.Tok.TheVariants.{Word, Number, Symbol}
use Rattle.gg_lex.specs.declared.token.Symbol.TheVariants.{Connect, Arrow, Colon, Comma, Dot, Less, Greater, Equals}
use Rattle.gg_ast.specs.declared.expression.Reference.TheVariants as reference
use Rattle.gg_ast.specs.declared.module.GroundType.TheVariants as plain_type
use Rattle.gg_ast.specs.declared.statement.MemoryField.TheVariants as field
use Rattle.gg_ast.specs.declared.statement.ReadUnderWrite.TheVariants.{Old, New, Undefined}
use Rattle.gg_ast.specs.Row.{Row, MemoryRow, FieldRow, ConnectRow}
use Rattle.gg_ast.specs.Term.{NamedTerm}
use Rattle.gg_read_row.proofs.WorkedRows.{IsRow, read, none}

-- a field's line: its word, `=>`, and these tokens
abbrev line : List ℕ → List Tok → List Tok
line word ts = Word word ∷ (Symbol Arrow ∷ ts)

abbrev names : List Tok
names = Word (codes "r") ∷ (Word (codes "s1") ∷ (Word (codes "t") ∷ []))

-- mem m :
memory : IsRow (MemoryRow (codes "m")) (Word (codes "mem") ∷ (Word (codes "m") ∷ (Symbol Colon ∷ [])))
memory = read refl

-- data-type => UInt<8>
data_type : IsRow (FieldRow (field.DataType (plain_type.UInt 8))) (line (codes "data-type") (Word (codes "UInt") ∷ (Symbol Less ∷ (Number (codes "8") ∷ (Symbol Greater ∷ [])))))
data_type = read refl

-- data-type => SInt<4>
data_type_signed : IsRow (FieldRow (field.DataType (plain_type.SInt 4))) (line (codes "data-type") (Word (codes "SInt") ∷ (Symbol Less ∷ (Number (codes "4") ∷ (Symbol Greater ∷ [])))))
data_type_signed = read refl

-- data-type => Clock
data_type_clock : IsRow (FieldRow (field.DataType plain_type.Clock)) (line (codes "data-type") (Word (codes "Clock") ∷ []))
data_type_clock = read refl

-- depth => 16
depth : IsRow (FieldRow (field.Depth 16)) (line (codes "depth") (Number (codes "16") ∷ []))
depth = read refl

-- read-latency => 1
read_latency : IsRow (FieldRow (field.ReadLatency 1)) (line (codes "read-latency") (Number (codes "1") ∷ []))
read_latency = read refl

-- write-latency => 2
write_latency : IsRow (FieldRow (field.WriteLatency 2)) (line (codes "write-latency") (Number (codes "2") ∷ []))
write_latency = read refl

-- reader => r s1 t
readers : IsRow (FieldRow (field.Readers (codes "r" ∷ (codes "s1" ∷ (codes "t" ∷ []))))) (line (codes "reader") names)
readers = read refl

-- writer => w
writer : IsRow (FieldRow (field.Writers (codes "w" ∷ []))) (line (codes "writer") (Word (codes "w") ∷ []))
writer = read refl

-- writer => w v
writers : IsRow (FieldRow (field.Writers (codes "w" ∷ (codes "v" ∷ [])))) (line (codes "writer") (Word (codes "w") ∷ (Word (codes "v") ∷ [])))
writers = read refl

-- read-under-write => old, new, undefined
under_write_old : IsRow (FieldRow (field.ReadUnderWrite Old)) (line (codes "read-under-write") (Word (codes "old") ∷ []))
under_write_old = read refl

under_write_new : IsRow (FieldRow (field.ReadUnderWrite New)) (line (codes "read-under-write") (Word (codes "new") ∷ []))
under_write_new = read refl

under_write_undefined : IsRow (FieldRow (field.ReadUnderWrite Undefined)) (line (codes "read-under-write") (Word (codes "undefined") ∷ []))
under_write_undefined = read refl

-- The words of memories are names where a name may be.
-- depth <= mem
word_is_driven : IsRow (ConnectRow (reference.Local (codes "depth")) (NamedTerm (reference.Local (codes "mem")))) (Word (codes "depth") ∷ (Symbol Connect ∷ (Word (codes "mem") ∷ [])))
word_is_driven = read refl

-- mem.reader.data <= writer
memory_is_driven : IsRow (ConnectRow (reference.FieldOf (codes "mem") (codes "reader") (codes "data")) (NamedTerm (reference.Local (codes "writer")))) (Word (codes "mem") ∷ (Symbol Dot ∷ (Word (codes "reader") ∷ (Symbol Dot ∷ (Word (codes "data") ∷ (Symbol Connect ∷ (Word (codes "writer") ∷ [])))))))
memory_is_driven = read refl

-- reader => reader
word_is_a_reader : IsRow (FieldRow (field.Readers (codes "reader" ∷ []))) (line (codes "reader") (Word (codes "reader") ∷ []))
word_is_a_reader = read refl

-- Near misses.
-- mem m
no_colon : (row : Row) → IsRow row (Word (codes "mem") ∷ (Word (codes "m") ∷ [])) → ⊥
no_colon row h = none refl h

-- mem m-a :
memory_with_a_dash : (row : Row) → IsRow row (Word (codes "mem") ∷ (Word (codes "m-a") ∷ (Symbol Colon ∷ []))) → ⊥
memory_with_a_dash row h = none refl h

-- data-type => UInt<8> 3
more_than_a_type : (row : Row) → IsRow row (line (codes "data-type") (Word (codes "UInt") ∷ (Symbol Less ∷ (Number (codes "8") ∷ (Symbol Greater ∷ (Number (codes "3") ∷ [])))))) → ⊥
more_than_a_type row h = none refl h

-- data-type =>
no_type : (row : Row) → IsRow row (line (codes "data-type") []) → ⊥
no_type row h = none refl h

-- depth =>
no_depth : (row : Row) → IsRow row (line (codes "depth") []) → ⊥
no_depth row h = none refl h

-- depth => -1
depth_with_a_sign : (row : Row) → IsRow row (line (codes "depth") (Number (codes "-1") ∷ [])) → ⊥
depth_with_a_sign row h = none refl h

-- depth => 4294967296
depth_past_the_greatest : (row : Row) → IsRow row (line (codes "depth") (Number (codes "4294967296") ∷ [])) → ⊥
depth_past_the_greatest row h = none refl h

-- depth = 16
depth_equals : (row : Row) → IsRow row (Word (codes "depth") ∷ (Symbol Equals ∷ (Number (codes "16") ∷ []))) → ⊥
depth_equals row h = none refl h

-- read-latency => 1 1
two_latencies : (row : Row) → IsRow row (line (codes "read-latency") (Number (codes "1") ∷ (Number (codes "1") ∷ []))) → ⊥
two_latencies row h = none refl h

-- read-latency => -1
latency_with_a_sign : (row : Row) → IsRow row (line (codes "read-latency") (Number (codes "-1") ∷ [])) → ⊥
latency_with_a_sign row h = none refl h

-- write-latency => w
latency_is_no_name : (row : Row) → IsRow row (line (codes "write-latency") (Word (codes "w") ∷ [])) → ⊥
latency_is_no_name row h = none refl h

-- reader =>
no_reader : (row : Row) → IsRow row (line (codes "reader") []) → ⊥
no_reader row h = none refl h

-- reader => r, s
readers_with_a_comma : (row : Row) → IsRow row (line (codes "reader") (Word (codes "r") ∷ (Symbol Comma ∷ (Word (codes "s") ∷ [])))) → ⊥
readers_with_a_comma row h = none refl h

-- writer => w w-a
writer_with_a_dash : (row : Row) → IsRow row (line (codes "writer") (Word (codes "w") ∷ (Word (codes "w-a") ∷ []))) → ⊥
writer_with_a_dash row h = none refl h

-- writer =>
no_writer : (row : Row) → IsRow row (line (codes "writer") []) → ⊥
no_writer row h = none refl h

-- readwriter => r
both_at_once : (row : Row) → IsRow row (line (codes "readwriter") (Word (codes "r") ∷ [])) → ⊥
both_at_once row h = none refl h

-- read-under-write =>
no_under_write : (row : Row) → IsRow row (line (codes "read-under-write") []) → ⊥
no_under_write row h = none refl h

-- read-under-write => later
under_write_misspelt : (row : Row) → IsRow row (line (codes "read-under-write") (Word (codes "later") ∷ [])) → ⊥
under_write_misspelt row h = none refl h

-- read-under-write => old new
under_write_twice : (row : Row) → IsRow row (line (codes "read-under-write") (Word (codes "old") ∷ (Word (codes "new") ∷ []))) → ⊥
under_write_twice row h = none refl h
