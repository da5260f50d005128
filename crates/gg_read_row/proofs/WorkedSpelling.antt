-- Rows of the second spelling, worked by hand: `connect`, `invalidate`, `regreset`, `public` and numbers with their radix.
use Rattle.std.proofs.Common.{◌≡◌, ℕ, Bool, true, false, List, [], ◌∷◌, Some, codes, refl, sym, ap, ◌∙◌}
use Rattle.std.specs.Str.{bytes_eq}
use Rattle.std.proofs.lemmas.Bool.{both_ways}
use Rattle.gg_bits.specs.declared.types.Kind.TheVariants.{UInt, SInt}
use Rattle.gg_bits.specs.declared.ops.Op2.TheVariants as two
use Rattle.gg_lex.specs.declared.token.Tok.{Tok}
use Rattle.gg_lex.specs.declared.token.Tok.TheVariants.{Word, Number, Text, Symbol}
use Rattle.gg_lex.specs.declared.token.Symbol.TheVariants.{Connect, Arrow, Colon, Comma, Dot, OpenParen, CloseParen, Less, Greater, Equals}
use Rattle.gg_ast.specs.declared.expression.Radix.{Radix}
use Rattle.gg_ast.specs.declared.expression.Radix.TheVariants.{Binary, Octal, Decimal, Hexadecimal}
use Rattle.gg_ast.specs.declared.expression.Reference.TheVariants as reference
use Rattle.gg_ast.specs.declared.module.GroundType.TheVariants as plain_type
use Rattle.gg_ast.specs.Row.{Row, ModuleRow, NodeRow, RegisterResetRow, ConnectRow, InvalidRow}
use Rattle.gg_ast.specs.Term.{Term, NamedTerm, ConstantTerm, BinaryTerm}
use Rattle.gg_read_row.specs.inside.Reading.{row_at}
use Rattle.gg_read_row.proofs.WorkedRows.{IsRow, read, sole, none, named, a, b, c, k, literal}

-- Connections, and sinks that are invalid.
-- connect a, b
one_connected : IsRow (ConnectRow (reference.Local (codes "a")) b) (Word (codes "connect") ∷ Word (codes "a") ∷ Symbol Comma ∷ Word (codes "b") ∷ [])
one_connected = read refl

-- connect i.p, b
two_connected : IsRow (ConnectRow (reference.PortOf (codes "i") (codes "p")) b) (Word (codes "connect") ∷ Word (codes "i") ∷ Symbol Dot ∷ Word (codes "p") ∷ Symbol Comma ∷ Word (codes "b") ∷ [])
two_connected = read refl

-- connect m.r.addr, b
three_connected : IsRow (ConnectRow (reference.FieldOf (codes "m") (codes "r") (codes "addr")) b) (Word (codes "connect") ∷ Word (codes "m") ∷ Symbol Dot ∷ Word (codes "r") ∷ Symbol Dot ∷ Word (codes "addr") ∷ Symbol Comma ∷ Word (codes "b") ∷ [])
three_connected = read refl

-- invalidate a
one_invalidated : IsRow (InvalidRow (reference.Local (codes "a"))) (Word (codes "invalidate") ∷ Word (codes "a") ∷ [])
one_invalidated = read refl

-- invalidate i.p
two_invalidated : IsRow (InvalidRow (reference.PortOf (codes "i") (codes "p"))) (Word (codes "invalidate") ∷ Word (codes "i") ∷ Symbol Dot ∷ Word (codes "p") ∷ [])
two_invalidated = read refl

-- invalidate m.r.addr
three_invalidated : IsRow (InvalidRow (reference.FieldOf (codes "m") (codes "r") (codes "addr"))) (Word (codes "invalidate") ∷ Word (codes "m") ∷ Symbol Dot ∷ Word (codes "r") ∷ Symbol Dot ∷ Word (codes "addr") ∷ [])
three_invalidated = read refl

-- A register with its clock, its condition and its initial value.
-- regreset r : SInt<5>, k, c, a
register : IsRow (RegisterResetRow (codes "r") (plain_type.SInt 5) k c a) (Word (codes "regreset") ∷ Word (codes "r") ∷ Symbol Colon ∷ Word (codes "SInt") ∷ Symbol Less ∷ Number (codes "5") ∷ Symbol Greater ∷ Symbol Comma ∷ Word (codes "k") ∷ Symbol Comma ∷ Word (codes "c") ∷ Symbol Comma ∷ Word (codes "a") ∷ [])
register = read refl

-- `public` changes nothing.
-- public module Top :
public : IsRow (ModuleRow (codes "Top")) (Word (codes "public") ∷ Word (codes "module") ∷ Word (codes "Top") ∷ Symbol Colon ∷ [])
public = read refl

-- Literals of each radix, with a sign at either place and without. Both spellings may stand in one line.
-- node n = UInt<4>(0b1010)
binary : IsRow (NodeRow (codes "n") (ConstantTerm (literal UInt 4 Binary false (codes "1010")))) (Word (codes "node") ∷ Word (codes "n") ∷ Symbol Equals ∷ Word (codes "UInt") ∷ Symbol Less ∷ Number (codes "4") ∷ Symbol Greater ∷ Symbol OpenParen ∷ Number (codes "0b1010") ∷ Symbol CloseParen ∷ [])
binary = read refl

-- node n = UInt<6>(0o17)
octal : IsRow (NodeRow (codes "n") (ConstantTerm (literal UInt 6 Octal false (codes "17")))) (Word (codes "node") ∷ Word (codes "n") ∷ Symbol Equals ∷ Word (codes "UInt") ∷ Symbol Less ∷ Number (codes "6") ∷ Symbol Greater ∷ Symbol OpenParen ∷ Number (codes "0o17") ∷ Symbol CloseParen ∷ [])
octal = read refl

-- node n = UInt<7>(0d0127)
ten : IsRow (NodeRow (codes "n") (ConstantTerm (literal UInt 7 Decimal false (codes "0127")))) (Word (codes "node") ∷ Word (codes "n") ∷ Symbol Equals ∷ Word (codes "UInt") ∷ Symbol Less ∷ Number (codes "7") ∷ Symbol Greater ∷ Symbol OpenParen ∷ Number (codes "0d0127") ∷ Symbol CloseParen ∷ [])
ten = read refl

-- node n = UInt<8>(0hfF)
hexadecimal : IsRow (NodeRow (codes "n") (ConstantTerm (literal UInt 8 Hexadecimal false (codes "fF")))) (Word (codes "node") ∷ Word (codes "n") ∷ Symbol Equals ∷ Word (codes "UInt") ∷ Symbol Less ∷ Number (codes "8") ∷ Symbol Greater ∷ Symbol OpenParen ∷ Number (codes "0hfF") ∷ Symbol CloseParen ∷ [])
hexadecimal = read refl

-- node n = SInt<4>(-0h3)
sign_before_radix : IsRow (NodeRow (codes "n") (ConstantTerm (literal SInt 4 Hexadecimal true (codes "3")))) (Word (codes "node") ∷ Word (codes "n") ∷ Symbol Equals ∷ Word (codes "SInt") ∷ Symbol Less ∷ Number (codes "4") ∷ Symbol Greater ∷ Symbol OpenParen ∷ Number (codes "-0h3") ∷ Symbol CloseParen ∷ [])
sign_before_radix = read refl

-- node n = SInt<4>(0h-3)
sign_before_digits : IsRow (NodeRow (codes "n") (ConstantTerm (literal SInt 4 Hexadecimal true (codes "3")))) (Word (codes "node") ∷ Word (codes "n") ∷ Symbol Equals ∷ Word (codes "SInt") ∷ Symbol Less ∷ Number (codes "4") ∷ Symbol Greater ∷ Symbol OpenParen ∷ Number (codes "0h-3") ∷ Symbol CloseParen ∷ [])
sign_before_digits = read refl

-- node n = SInt<4>(-0b101)
sign_before_binary : IsRow (NodeRow (codes "n") (ConstantTerm (literal SInt 4 Binary true (codes "101")))) (Word (codes "node") ∷ Word (codes "n") ∷ Symbol Equals ∷ Word (codes "SInt") ∷ Symbol Less ∷ Number (codes "4") ∷ Symbol Greater ∷ Symbol OpenParen ∷ Number (codes "-0b101") ∷ Symbol CloseParen ∷ [])
sign_before_binary = read refl

-- node n = SInt<6>(0o-17)
sign_in_octal : IsRow (NodeRow (codes "n") (ConstantTerm (literal SInt 6 Octal true (codes "17")))) (Word (codes "node") ∷ Word (codes "n") ∷ Symbol Equals ∷ Word (codes "SInt") ∷ Symbol Less ∷ Number (codes "6") ∷ Symbol Greater ∷ Symbol OpenParen ∷ Number (codes "0o-17") ∷ Symbol CloseParen ∷ [])
sign_in_octal = read refl

-- node n = SInt<4>(-0d3)
sign_before_ten : IsRow (NodeRow (codes "n") (ConstantTerm (literal SInt 4 Decimal true (codes "3")))) (Word (codes "node") ∷ Word (codes "n") ∷ Symbol Equals ∷ Word (codes "SInt") ∷ Symbol Less ∷ Number (codes "4") ∷ Symbol Greater ∷ Symbol OpenParen ∷ Number (codes "-0d3") ∷ Symbol CloseParen ∷ [])
sign_before_ten = read refl

-- node n = SInt<4>(0d-3)
sign_in_ten : IsRow (NodeRow (codes "n") (ConstantTerm (literal SInt 4 Decimal true (codes "3")))) (Word (codes "node") ∷ Word (codes "n") ∷ Symbol Equals ∷ Word (codes "SInt") ∷ Symbol Less ∷ Number (codes "4") ∷ Symbol Greater ∷ Symbol OpenParen ∷ Number (codes "0d-3") ∷ Symbol CloseParen ∷ [])
sign_in_ten = read refl

-- node n = UInt<1>(0)
zero : IsRow (NodeRow (codes "n") (ConstantTerm (literal UInt 1 Decimal false (codes "0")))) (Word (codes "node") ∷ Word (codes "n") ∷ Symbol Equals ∷ Word (codes "UInt") ∷ Symbol Less ∷ Number (codes "1") ∷ Symbol Greater ∷ Symbol OpenParen ∷ Number (codes "0") ∷ Symbol CloseParen ∷ [])
zero = read refl

-- connect a, add(UInt<8>("h1f"), UInt<5>(0o17))
both_spellings : IsRow (ConnectRow (reference.Local (codes "a")) (BinaryTerm two.Add (ConstantTerm (literal UInt 8 Hexadecimal false (codes "1f"))) (ConstantTerm (literal UInt 5 Octal false (codes "17"))))) (Word (codes "connect") ∷ Word (codes "a") ∷ Symbol Comma ∷ Word (codes "add") ∷ Symbol OpenParen ∷ Word (codes "UInt") ∷ Symbol Less ∷ Number (codes "8") ∷ Symbol Greater ∷ Symbol OpenParen ∷ Text (codes "h1f") ∷ Symbol CloseParen ∷ Symbol Comma ∷ Word (codes "UInt") ∷ Symbol Less ∷ Number (codes "5") ∷ Symbol Greater ∷ Symbol OpenParen ∷ Number (codes "0o17") ∷ Symbol CloseParen ∷ Symbol CloseParen ∷ [])
both_spellings = read refl

-- A word with which a statement begins is a name where a sink may be.
-- connect <= a
connect_driven : IsRow (ConnectRow (reference.Local (codes "connect")) a) (Word (codes "connect") ∷ Symbol Connect ∷ Word (codes "a") ∷ [])
connect_driven = read refl

-- connect.p <= a
connect_of_instance : IsRow (ConnectRow (reference.PortOf (codes "connect") (codes "p")) a) (Word (codes "connect") ∷ Symbol Dot ∷ Word (codes "p") ∷ Symbol Connect ∷ Word (codes "a") ∷ [])
connect_of_instance = read refl

-- connect is invalid
connect_invalid : IsRow (InvalidRow (reference.Local (codes "connect"))) (Word (codes "connect") ∷ Word (codes "is") ∷ Word (codes "invalid") ∷ [])
connect_invalid = read refl

-- invalidate <= a
invalidate_driven : IsRow (ConnectRow (reference.Local (codes "invalidate")) a) (Word (codes "invalidate") ∷ Symbol Connect ∷ Word (codes "a") ∷ [])
invalidate_driven = read refl

-- invalidate is invalid
invalidate_invalid : IsRow (InvalidRow (reference.Local (codes "invalidate"))) (Word (codes "invalidate") ∷ Word (codes "is") ∷ Word (codes "invalid") ∷ [])
invalidate_invalid = read refl

-- regreset <= a
regreset_driven : IsRow (ConnectRow (reference.Local (codes "regreset")) a) (Word (codes "regreset") ∷ Symbol Connect ∷ Word (codes "a") ∷ [])
regreset_driven = read refl

-- public <= a
public_driven : IsRow (ConnectRow (reference.Local (codes "public")) a) (Word (codes "public") ∷ Symbol Connect ∷ Word (codes "a") ∷ [])
public_driven = read refl

-- connect connect, connect
connect_connected : IsRow (ConnectRow (reference.Local (codes "connect")) (named (codes "connect"))) (Word (codes "connect") ∷ Word (codes "connect") ∷ Symbol Comma ∷ Word (codes "connect") ∷ [])
connect_connected = read refl

-- connect is, invalid
is_connected : IsRow (ConnectRow (reference.Local (codes "is")) (named (codes "invalid"))) (Word (codes "connect") ∷ Word (codes "is") ∷ Symbol Comma ∷ Word (codes "invalid") ∷ [])
is_connected = read refl

-- invalidate invalidate
invalidate_invalidated : IsRow (InvalidRow (reference.Local (codes "invalidate"))) (Word (codes "invalidate") ∷ Word (codes "invalidate") ∷ [])
invalidate_invalidated = read refl

-- regreset regreset : UInt<8>, k, c, a
regreset_named : IsRow (RegisterResetRow (codes "regreset") (plain_type.UInt 8) k c a) (Word (codes "regreset") ∷ Word (codes "regreset") ∷ Symbol Colon ∷ Word (codes "UInt") ∷ Symbol Less ∷ Number (codes "8") ∷ Symbol Greater ∷ Symbol Comma ∷ Word (codes "k") ∷ Symbol Comma ∷ Word (codes "c") ∷ Symbol Comma ∷ Word (codes "a") ∷ [])
regreset_named = read refl

-- public module module :
module_named : IsRow (ModuleRow (codes "module")) (Word (codes "public") ∷ Word (codes "module") ∷ Word (codes "module") ∷ Symbol Colon ∷ [])
module_named = read refl

-- module public :
public_named : IsRow (ModuleRow (codes "public")) (Word (codes "module") ∷ Word (codes "public") ∷ Symbol Colon ∷ [])
public_named = read refl

-- Near misses: places that change, and what is missing or too much. A row that the tokens spell passes a test that the other fails.
abbrev is_named : List ℕ → Term → Bool
is_named name (NamedTerm (reference.Local n)) = bytes_eq n name
is_named name other = false

abbrev condition_is_c : Row → Bool
condition_is_c (RegisterResetRow name ty clock condition init) = is_named (codes "c") condition
condition_is_c other = false

abbrev sink_is_a : Row → Bool
sink_is_a (ConnectRow (reference.Local n) source) = bytes_eq n (codes "a")
sink_is_a other = false

abbrev is_eight : Radix → Bool
is_eight Octal = true
is_eight other = false

abbrev is_octal : Row → Bool
is_octal (NodeRow name (ConstantTerm l)) = is_eight l.radix
is_octal other = false

abbrev is_negative : Row → Bool
is_negative (NodeRow name (ConstantTerm l)) = l.negative
is_negative other = false

other : (test : Row → Bool) {right row : Row} {ts : List Tok} → row_at ts ≡ Some right → test right ≡ true → test row ≡ false → IsRow row ts → ⊥
other test {right} {row} {ts} found passes fails h = both_ways (test row) fails (ap test (sym (sole found h)) ∙ passes)

-- regreset r : UInt<8>, k, c, a
reset_turned : IsRow (RegisterResetRow (codes "r") (plain_type.UInt 8) k a c) (Word (codes "regreset") ∷ Word (codes "r") ∷ Symbol Colon ∷ Word (codes "UInt") ∷ Symbol Less ∷ Number (codes "8") ∷ Symbol Greater ∷ Symbol Comma ∷ Word (codes "k") ∷ Symbol Comma ∷ Word (codes "c") ∷ Symbol Comma ∷ Word (codes "a") ∷ []) → ⊥
reset_turned h = other condition_is_c {right = RegisterResetRow (codes "r") (plain_type.UInt 8) k c a} refl refl refl h

-- connect a, b
connection_turned : IsRow (ConnectRow (reference.Local (codes "b")) a) (Word (codes "connect") ∷ Word (codes "a") ∷ Symbol Comma ∷ Word (codes "b") ∷ []) → ⊥
connection_turned h = other sink_is_a {right = ConnectRow (reference.Local (codes "a")) b} refl refl refl h

-- node n = UInt<6>(0o17)
radix_taken_for_another : IsRow (NodeRow (codes "n") (ConstantTerm (literal UInt 6 Hexadecimal false (codes "17")))) (Word (codes "node") ∷ Word (codes "n") ∷ Symbol Equals ∷ Word (codes "UInt") ∷ Symbol Less ∷ Number (codes "6") ∷ Symbol Greater ∷ Symbol OpenParen ∷ Number (codes "0o17") ∷ Symbol CloseParen ∷ []) → ⊥
radix_taken_for_another h = other is_octal {right = NodeRow (codes "n") (ConstantTerm (literal UInt 6 Octal false (codes "17")))} refl refl refl h

-- node n = SInt<4>(-0h3)
sign_dropped : IsRow (NodeRow (codes "n") (ConstantTerm (literal SInt 4 Hexadecimal false (codes "3")))) (Word (codes "node") ∷ Word (codes "n") ∷ Symbol Equals ∷ Word (codes "SInt") ∷ Symbol Less ∷ Number (codes "4") ∷ Symbol Greater ∷ Symbol OpenParen ∷ Number (codes "-0h3") ∷ Symbol CloseParen ∷ []) → ⊥
sign_dropped h = other is_negative {right = NodeRow (codes "n") (ConstantTerm (literal SInt 4 Hexadecimal true (codes "3")))} refl refl refl h

-- node n = SInt<4>(0h-3)
inner_sign_dropped : IsRow (NodeRow (codes "n") (ConstantTerm (literal SInt 4 Hexadecimal false (codes "3")))) (Word (codes "node") ∷ Word (codes "n") ∷ Symbol Equals ∷ Word (codes "SInt") ∷ Symbol Less ∷ Number (codes "4") ∷ Symbol Greater ∷ Symbol OpenParen ∷ Number (codes "0h-3") ∷ Symbol CloseParen ∷ []) → ⊥
inner_sign_dropped h = other is_negative {right = NodeRow (codes "n") (ConstantTerm (literal SInt 4 Hexadecimal true (codes "3")))} refl refl refl h

-- connect a b
no_comma : (row : Row) → IsRow row (Word (codes "connect") ∷ Word (codes "a") ∷ Word (codes "b") ∷ []) → ⊥
no_comma row h = none refl h

-- connect a,
no_source : (row : Row) → IsRow row (Word (codes "connect") ∷ Word (codes "a") ∷ Symbol Comma ∷ []) → ⊥
no_source row h = none refl h

-- connect a, b, c
two_sources : (row : Row) → IsRow row (Word (codes "connect") ∷ Word (codes "a") ∷ Symbol Comma ∷ Word (codes "b") ∷ Symbol Comma ∷ Word (codes "c") ∷ []) → ⊥
two_sources row h = none refl h

-- connect a <= b
arrow_connected : (row : Row) → IsRow row (Word (codes "connect") ∷ Word (codes "a") ∷ Symbol Connect ∷ Word (codes "b") ∷ []) → ⊥
arrow_connected row h = none refl h

-- connect UInt<1>(0h0), b
literal_connected : (row : Row) → IsRow row (Word (codes "connect") ∷ Word (codes "UInt") ∷ Symbol Less ∷ Number (codes "1") ∷ Symbol Greater ∷ Symbol OpenParen ∷ Number (codes "0h0") ∷ Symbol CloseParen ∷ Symbol Comma ∷ Word (codes "b") ∷ []) → ⊥
literal_connected row h = none refl h

-- invalidate
nothing_invalidated : (row : Row) → IsRow row (Word (codes "invalidate") ∷ []) → ⊥
nothing_invalidated row h = none refl h

-- invalidate a, b
both_invalidated : (row : Row) → IsRow row (Word (codes "invalidate") ∷ Word (codes "a") ∷ Symbol Comma ∷ Word (codes "b") ∷ []) → ⊥
both_invalidated row h = none refl h

-- regreset r : UInt<8>, k, c
no_initial_value : (row : Row) → IsRow row (Word (codes "regreset") ∷ Word (codes "r") ∷ Symbol Colon ∷ Word (codes "UInt") ∷ Symbol Less ∷ Number (codes "8") ∷ Symbol Greater ∷ Symbol Comma ∷ Word (codes "k") ∷ Symbol Comma ∷ Word (codes "c") ∷ []) → ⊥
no_initial_value row h = none refl h

-- regreset r : UInt<8>, k, c, a, b
four_expressions : (row : Row) → IsRow row (Word (codes "regreset") ∷ Word (codes "r") ∷ Symbol Colon ∷ Word (codes "UInt") ∷ Symbol Less ∷ Number (codes "8") ∷ Symbol Greater ∷ Symbol Comma ∷ Word (codes "k") ∷ Symbol Comma ∷ Word (codes "c") ∷ Symbol Comma ∷ Word (codes "a") ∷ Symbol Comma ∷ Word (codes "b") ∷ []) → ⊥
four_expressions row h = none refl h

-- regreset r : UInt<8>, k with : (reset => (c, a))
reset_behind : (row : Row) → IsRow row (Word (codes "regreset") ∷ Word (codes "r") ∷ Symbol Colon ∷ Word (codes "UInt") ∷ Symbol Less ∷ Number (codes "8") ∷ Symbol Greater ∷ Symbol Comma ∷ Word (codes "k") ∷ Word (codes "with") ∷ Symbol Colon ∷ Symbol OpenParen ∷ Word (codes "reset") ∷ Symbol Arrow ∷ Symbol OpenParen ∷ Word (codes "c") ∷ Symbol Comma ∷ Word (codes "a") ∷ Symbol CloseParen ∷ Symbol CloseParen ∷ []) → ⊥
reset_behind row h = none refl h

-- regreset r UInt<8>, k, c, a
no_colon : (row : Row) → IsRow row (Word (codes "regreset") ∷ Word (codes "r") ∷ Word (codes "UInt") ∷ Symbol Less ∷ Number (codes "8") ∷ Symbol Greater ∷ Symbol Comma ∷ Word (codes "k") ∷ Symbol Comma ∷ Word (codes "c") ∷ Symbol Comma ∷ Word (codes "a") ∷ []) → ⊥
no_colon row h = none refl h

-- public wire w : UInt<8>
public_wire : (row : Row) → IsRow row (Word (codes "public") ∷ Word (codes "wire") ∷ Word (codes "w") ∷ Symbol Colon ∷ Word (codes "UInt") ∷ Symbol Less ∷ Number (codes "8") ∷ Symbol Greater ∷ []) → ⊥
public_wire row h = none refl h

-- public circuit Top :
public_circuit : (row : Row) → IsRow row (Word (codes "public") ∷ Word (codes "circuit") ∷ Word (codes "Top") ∷ Symbol Colon ∷ []) → ⊥
public_circuit row h = none refl h

-- public Top :
public_alone : (row : Row) → IsRow row (Word (codes "public") ∷ Word (codes "Top") ∷ Symbol Colon ∷ []) → ⊥
public_alone row h = none refl h

-- public public module Top :
public_twice : (row : Row) → IsRow row (Word (codes "public") ∷ Word (codes "public") ∷ Word (codes "module") ∷ Word (codes "Top") ∷ Symbol Colon ∷ []) → ⊥
public_twice row h = none refl h

-- A number with its radix stands in the brackets of a literal alone.
-- node n = UInt<0b1>(1)
width_with_radix : (row : Row) → IsRow row (Word (codes "node") ∷ Word (codes "n") ∷ Symbol Equals ∷ Word (codes "UInt") ∷ Symbol Less ∷ Number (codes "0b1") ∷ Symbol Greater ∷ Symbol OpenParen ∷ Number (codes "1") ∷ Symbol CloseParen ∷ []) → ⊥
width_with_radix row h = none refl h

-- wire w : UInt<0h8>
type_with_radix : (row : Row) → IsRow row (Word (codes "wire") ∷ Word (codes "w") ∷ Symbol Colon ∷ Word (codes "UInt") ∷ Symbol Less ∷ Number (codes "0h8") ∷ Symbol Greater ∷ []) → ⊥
type_with_radix row h = none refl h

-- node n = tail(a, 0d1)
parameter_with_radix : (row : Row) → IsRow row (Word (codes "node") ∷ Word (codes "n") ∷ Symbol Equals ∷ Word (codes "tail") ∷ Symbol OpenParen ∷ Word (codes "a") ∷ Symbol Comma ∷ Number (codes "0d1") ∷ Symbol CloseParen ∷ []) → ⊥
parameter_with_radix row h = none refl h

-- depth => 0h10
depth_with_radix : (row : Row) → IsRow row (Word (codes "depth") ∷ Symbol Arrow ∷ Number (codes "0h10") ∷ []) → ⊥
depth_with_radix row h = none refl h

-- stop(k, c, 0h1)
code_with_radix : (row : Row) → IsRow row (Word (codes "stop") ∷ Symbol OpenParen ∷ Word (codes "k") ∷ Symbol Comma ∷ Word (codes "c") ∷ Symbol Comma ∷ Number (codes "0h1") ∷ Symbol CloseParen ∷ []) → ⊥
code_with_radix row h = none refl h

-- FIRRTL version 0d4.0.0
version_with_radix : (row : Row) → IsRow row (Word (codes "FIRRTL") ∷ Word (codes "version") ∷ Number (codes "0d4") ∷ Symbol Dot ∷ Number (codes "0") ∷ Symbol Dot ∷ Number (codes "0") ∷ []) → ⊥
version_with_radix row h = none refl h

-- node n = UInt<4>("0h3")
text_with_zero : (row : Row) → IsRow row (Word (codes "node") ∷ Word (codes "n") ∷ Symbol Equals ∷ Word (codes "UInt") ∷ Symbol Less ∷ Number (codes "4") ∷ Symbol Greater ∷ Symbol OpenParen ∷ Text (codes "0h3") ∷ Symbol CloseParen ∷ []) → ⊥
text_with_zero row h = none refl h

-- node n = UInt<4>("d3")
ten_as_text : (row : Row) → IsRow row (Word (codes "node") ∷ Word (codes "n") ∷ Symbol Equals ∷ Word (codes "UInt") ∷ Symbol Less ∷ Number (codes "4") ∷ Symbol Greater ∷ Symbol OpenParen ∷ Text (codes "d3") ∷ Symbol CloseParen ∷ []) → ⊥
ten_as_text row h = none refl h

-- Tokens that no line has are no numbers either.
-- node n = SInt<4>(-0h-8)
two_signs : (row : Row) → IsRow row (Word (codes "node") ∷ Word (codes "n") ∷ Symbol Equals ∷ Word (codes "SInt") ∷ Symbol Less ∷ Number (codes "4") ∷ Symbol Greater ∷ Symbol OpenParen ∷ Number (codes "-0h-8") ∷ Symbol CloseParen ∷ []) → ⊥
two_signs row h = none refl h

-- node n = UInt<4>(0b12)
no_binary_digit : (row : Row) → IsRow row (Word (codes "node") ∷ Word (codes "n") ∷ Symbol Equals ∷ Word (codes "UInt") ∷ Symbol Less ∷ Number (codes "4") ∷ Symbol Greater ∷ Symbol OpenParen ∷ Number (codes "0b12") ∷ Symbol CloseParen ∷ []) → ⊥
no_binary_digit row h = none refl h
