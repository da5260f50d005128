-- Rows worked by hand from the grammar: which row the tokens of a line spell (FIRRTL Specification, "Grammar",
-- "Primitive Operations"). Each operation, keyword and form has one, with a different operand in each place, so that the row
-- would change if words or operands changed places.
use Rattle.std.proofs.Common.{◌≡◌, ℕ, Bool, true, false, List, [], ◌∷◌, None, Some, Err, codes, refl, sym, ◌∙◌}
use Rattle.std.proofs.lemmas.Option.{same_Some}
use Rattle.gg_bits.specs.declared.types.Kind.{Kind}
use Rattle.gg_bits.specs.declared.types.Kind.TheVariants.{UInt, SInt}
use Rattle.gg_bits.specs.declared.ops.Op1.TheVariants as one
use Rattle.gg_bits.specs.declared.ops.Op2.TheVariants as two
use Rattle.gg_bits.specs.declared.ops.OpN.TheVariants as fix
use Rattle.gg_lex.specs.declared.token.Tok.{Tok}
use Rattle.gg_lex.specs.declared.token.Tok.TheVariants.{Word, Number, Text, Symbol}
use Rattle.gg_lex.specs.declared.token.Symbol.TheVariants.{Connect, Arrow, Colon, Comma, Dot, OpenParen, CloseParen, Less, Greater, Equals}
use Rattle.gg_ast.specs.declared.expression.Literal.{Literal}
use Rattle.gg_ast.specs.declared.expression.Radix.{Radix}
use Rattle.gg_ast.specs.declared.expression.Radix.TheVariants.{Binary, Octal, Decimal, Hexadecimal}
use Rattle.gg_ast.specs.declared.expression.Reference.TheVariants as reference
use Rattle.gg_ast.specs.declared.module.Direction.TheVariants.{Input, Output}
use Rattle.gg_ast.specs.declared.module.GroundType.TheVariants as plain_type
use Rattle.gg_ast.specs.declared.statement.Report.TheVariants as report
use Rattle.gg_ast.specs.Row.{Row, VersionRow, CircuitRow, ModuleRow, PortRow, WireRow, NodeRow, RegisterRow, RegisterResetRow, RegisterOpenRow, ResetRow, InstanceRow, ConnectRow, InvalidRow, SkipRow, StopRow, ReportRow}
use Rattle.gg_ast.specs.Term.{Term, NamedTerm, ConstantTerm, UnaryTerm, BinaryTerm, FixedTerm, MuxTerm}
use Rattle.gg_ast.specs.declared.statement.Argument.{Argument}
use Rattle.gg_ast.specs.declared.statement.Argument.TheVariants as given
use Rattle.gg_read_row.specs.Forms.{SpellsRow}
use Rattle.gg_read_row.specs.declared.cursor.RowFault.TheVariants.{NoForm}
use Rattle.gg_read_row.specs.inside.LineRows.{TellsRow}
use Rattle.gg_read_row.specs.inside.Reading.{row_at}
use Rattle.gg_read_row.proofs.RowLaws.{spelt-row_at}
use Rattle.gg_read_row.proofs.RowsSpelt.{row-spells}

-- a line with these tokens is this row
pub record IsRow (row : Row) (ts : List Tok) : Type 0 where
  pub spelt : SpellsRow row ts

-- from the reader of rows, which finds exactly the row that is spelt
pub read : {row : Row} {ts : List Tok} → row_at ts ≡ Some row → IsRow row ts
read {row} {ts} found = record { spelt = row-spells ts row found }

pub sole : {row other : Row} {ts : List Tok} → row_at ts ≡ Some row → IsRow other ts → row ≡ other
sole {row} {other} {ts} found is = same_Some row other (sym found ∙ spelt-row_at ts other is.spelt)

pub none : {row : Row} {ts : List Tok} → row_at ts ≡ None → IsRow row ts → ⊥
none {row} {ts} nothing is =
    let found = spelt-row_at ts row is.spelt in
    cc

-- the operands a, b and c, and the clock k
abbrev pub named : List ℕ → Term
named name = NamedTerm (reference.Local name)

abbrev pub a : Term
a = named (codes "a")

abbrev pub b : Term
b = named (codes "b")

abbrev pub c : Term
c = named (codes "c")

abbrev pub k : Term
k = named (codes "k")

abbrev pub literal : Kind → ℕ → Radix → Bool → List ℕ → Literal
literal kind width radix negative digits = record { kind = kind; width = width; radix = radix; negative = negative; digits = digits }

abbrev arguments : List Argument
arguments = given.Value k ∷ given.Value c ∷ given.Text (codes "n is %d") ∷ given.Value a ∷ []

-- The operations on one value: `node n = asUInt(a)`.
abbrev of_one : List ℕ → List Tok
of_one operation = Word (codes "node") ∷ Word (codes "n") ∷ Symbol Equals ∷ Word operation ∷ Symbol OpenParen ∷ Word (codes "a") ∷ Symbol CloseParen ∷ []

asUInt_row : IsRow (NodeRow (codes "n") (UnaryTerm one.AsUInt a)) (of_one (codes "asUInt"))
asUInt_row = read refl

asSInt_row : IsRow (NodeRow (codes "n") (UnaryTerm one.AsSInt a)) (of_one (codes "asSInt"))
asSInt_row = read refl

cvt_row : IsRow (NodeRow (codes "n") (UnaryTerm one.Cvt a)) (of_one (codes "cvt"))
cvt_row = read refl

neg_row : IsRow (NodeRow (codes "n") (UnaryTerm one.Neg a)) (of_one (codes "neg"))
neg_row = read refl

not_row : IsRow (NodeRow (codes "n") (UnaryTerm one.Not a)) (of_one (codes "not"))
not_row = read refl

andr_row : IsRow (NodeRow (codes "n") (UnaryTerm one.Andr a)) (of_one (codes "andr"))
andr_row = read refl

orr_row : IsRow (NodeRow (codes "n") (UnaryTerm one.Orr a)) (of_one (codes "orr"))
orr_row = read refl

xorr_row : IsRow (NodeRow (codes "n") (UnaryTerm one.Xorr a)) (of_one (codes "xorr"))
xorr_row = read refl

-- The operations on two values: `node n = add(a, b)`.
abbrev of_two : List ℕ → List Tok
of_two operation = Word (codes "node") ∷ Word (codes "n") ∷ Symbol Equals ∷ Word operation ∷ Symbol OpenParen ∷ Word (codes "a") ∷ Symbol Comma ∷ Word (codes "b") ∷ Symbol CloseParen ∷ []

add_row : IsRow (NodeRow (codes "n") (BinaryTerm two.Add a b)) (of_two (codes "add"))
add_row = read refl

sub_row : IsRow (NodeRow (codes "n") (BinaryTerm two.Sub a b)) (of_two (codes "sub"))
sub_row = read refl

mul_row : IsRow (NodeRow (codes "n") (BinaryTerm two.Mul a b)) (of_two (codes "mul"))
mul_row = read refl

div_row : IsRow (NodeRow (codes "n") (BinaryTerm two.Div a b)) (of_two (codes "div"))
div_row = read refl

rem_row : IsRow (NodeRow (codes "n") (BinaryTerm two.Rem a b)) (of_two (codes "rem"))
rem_row = read refl

lt_row : IsRow (NodeRow (codes "n") (BinaryTerm two.Lt a b)) (of_two (codes "lt"))
lt_row = read refl

leq_row : IsRow (NodeRow (codes "n") (BinaryTerm two.Leq a b)) (of_two (codes "leq"))
leq_row = read refl

gt_row : IsRow (NodeRow (codes "n") (BinaryTerm two.Gt a b)) (of_two (codes "gt"))
gt_row = read refl

geq_row : IsRow (NodeRow (codes "n") (BinaryTerm two.Geq a b)) (of_two (codes "geq"))
geq_row = read refl

eq_row : IsRow (NodeRow (codes "n") (BinaryTerm two.Eq a b)) (of_two (codes "eq"))
eq_row = read refl

neq_row : IsRow (NodeRow (codes "n") (BinaryTerm two.Neq a b)) (of_two (codes "neq"))
neq_row = read refl

dshl_row : IsRow (NodeRow (codes "n") (BinaryTerm two.Dshl a b)) (of_two (codes "dshl"))
dshl_row = read refl

dshr_row : IsRow (NodeRow (codes "n") (BinaryTerm two.Dshr a b)) (of_two (codes "dshr"))
dshr_row = read refl

and_row : IsRow (NodeRow (codes "n") (BinaryTerm two.And a b)) (of_two (codes "and"))
and_row = read refl

or_row : IsRow (NodeRow (codes "n") (BinaryTerm two.Or a b)) (of_two (codes "or"))
or_row = read refl

xor_row : IsRow (NodeRow (codes "n") (BinaryTerm two.Xor a b)) (of_two (codes "xor"))
xor_row = read refl

cat_row : IsRow (NodeRow (codes "n") (BinaryTerm two.Cat a b)) (of_two (codes "cat"))
cat_row = read refl

validif_row : IsRow (NodeRow (codes "n") (BinaryTerm two.Validif a b)) (of_two (codes "validif"))
validif_row = read refl

-- The operations with one parameter: `node n = pad(a, 9)`. The second parameter is 0.
abbrev of_fixed : List ℕ → List ℕ → List Tok
of_fixed operation parameter = Word (codes "node") ∷ Word (codes "n") ∷ Symbol Equals ∷ Word operation ∷ Symbol OpenParen ∷ Word (codes "a") ∷ Symbol Comma ∷ Number parameter ∷ Symbol CloseParen ∷ []

pad_row : IsRow (NodeRow (codes "n") (FixedTerm fix.Pad a 9 0)) (of_fixed (codes "pad") (codes "9"))
pad_row = read refl

shl_row : IsRow (NodeRow (codes "n") (FixedTerm fix.Shl a 3 0)) (of_fixed (codes "shl") (codes "3"))
shl_row = read refl

shr_row : IsRow (NodeRow (codes "n") (FixedTerm fix.Shr a 4 0)) (of_fixed (codes "shr") (codes "4"))
shr_row = read refl

head_row : IsRow (NodeRow (codes "n") (FixedTerm fix.Head a 5 0)) (of_fixed (codes "head") (codes "5"))
head_row = read refl

tail_row : IsRow (NodeRow (codes "n") (FixedTerm fix.Tail a 6 0)) (of_fixed (codes "tail") (codes "6"))
tail_row = read refl

-- `bits` has two parameters, the high one first.
-- node n = bits(a, 7, 2)
bits_row : IsRow (NodeRow (codes "n") (FixedTerm fix.Bits a 7 2)) (Word (codes "node") ∷ Word (codes "n") ∷ Symbol Equals ∷ Word (codes "bits") ∷ Symbol OpenParen ∷ Word (codes "a") ∷ Symbol Comma ∷ Number (codes "7") ∷ Symbol Comma ∷ Number (codes "2") ∷ Symbol CloseParen ∷ [])
bits_row = read refl

-- node n = mux(c, a, b)
mux_row : IsRow (NodeRow (codes "n") (MuxTerm c a b)) (Word (codes "node") ∷ Word (codes "n") ∷ Symbol Equals ∷ Word (codes "mux") ∷ Symbol OpenParen ∷ Word (codes "c") ∷ Symbol Comma ∷ Word (codes "a") ∷ Symbol Comma ∷ Word (codes "b") ∷ Symbol CloseParen ∷ [])
mux_row = read refl

-- Operations inside operations.
-- node n = sub(bits(a, 7, 2), mux(c, UInt<8>("h1f"), tail(b, 1)))
nested_row : IsRow (NodeRow (codes "n") (BinaryTerm two.Sub (FixedTerm fix.Bits a 7 2) (MuxTerm c (ConstantTerm (literal UInt 8 Hexadecimal false (codes "1f"))) (FixedTerm fix.Tail b 1 0)))) (Word (codes "node") ∷ Word (codes "n") ∷ Symbol Equals ∷ Word (codes "sub") ∷ Symbol OpenParen ∷ Word (codes "bits") ∷ Symbol OpenParen ∷ Word (codes "a") ∷ Symbol Comma ∷ Number (codes "7") ∷ Symbol Comma ∷ Number (codes "2") ∷ Symbol CloseParen ∷ Symbol Comma ∷ Word (codes "mux") ∷ Symbol OpenParen ∷ Word (codes "c") ∷ Symbol Comma ∷ Word (codes "UInt") ∷ Symbol Less ∷ Number (codes "8") ∷ Symbol Greater ∷ Symbol OpenParen ∷ Text (codes "h1f") ∷ Symbol CloseParen ∷ Symbol Comma ∷ Word (codes "tail") ∷ Symbol OpenParen ∷ Word (codes "b") ∷ Symbol Comma ∷ Number (codes "1") ∷ Symbol CloseParen ∷ Symbol CloseParen ∷ Symbol CloseParen ∷ [])
nested_row = read refl

-- References of one, two and three names, read and driven. A word of the grammar is a name where a name may be.
-- node n = a
one_name : IsRow (NodeRow (codes "n") (NamedTerm (reference.Local (codes "a")))) (Word (codes "node") ∷ Word (codes "n") ∷ Symbol Equals ∷ Word (codes "a") ∷ [])
one_name = read refl

-- node n = i.p
two_names : IsRow (NodeRow (codes "n") (NamedTerm (reference.PortOf (codes "i") (codes "p")))) (Word (codes "node") ∷ Word (codes "n") ∷ Symbol Equals ∷ Word (codes "i") ∷ Symbol Dot ∷ Word (codes "p") ∷ [])
two_names = read refl

-- node n = m.r.data
three_names : IsRow (NodeRow (codes "n") (NamedTerm (reference.FieldOf (codes "m") (codes "r") (codes "data")))) (Word (codes "node") ∷ Word (codes "n") ∷ Symbol Equals ∷ Word (codes "m") ∷ Symbol Dot ∷ Word (codes "r") ∷ Symbol Dot ∷ Word (codes "data") ∷ [])
three_names = read refl

-- node x = add
word_is_read : IsRow (NodeRow (codes "x") (NamedTerm (reference.Local (codes "add")))) (Word (codes "node") ∷ Word (codes "x") ∷ Symbol Equals ∷ Word (codes "add") ∷ [])
word_is_read = read refl

-- a <= b
one_driven : IsRow (ConnectRow (reference.Local (codes "a")) b) (Word (codes "a") ∷ Symbol Connect ∷ Word (codes "b") ∷ [])
one_driven = read refl

-- i.p <= b
two_driven : IsRow (ConnectRow (reference.PortOf (codes "i") (codes "p")) b) (Word (codes "i") ∷ Symbol Dot ∷ Word (codes "p") ∷ Symbol Connect ∷ Word (codes "b") ∷ [])
two_driven = read refl

-- m.r.addr <= b
three_driven : IsRow (ConnectRow (reference.FieldOf (codes "m") (codes "r") (codes "addr")) b) (Word (codes "m") ∷ Symbol Dot ∷ Word (codes "r") ∷ Symbol Dot ∷ Word (codes "addr") ∷ Symbol Connect ∷ Word (codes "b") ∷ [])
three_driven = read refl

-- node <= a
word_is_driven : IsRow (ConnectRow (reference.Local (codes "node")) a) (Word (codes "node") ∷ Symbol Connect ∷ Word (codes "a") ∷ [])
word_is_driven = read refl

-- a is invalid
is_invalid : IsRow (InvalidRow (reference.Local (codes "a"))) (Word (codes "a") ∷ Word (codes "is") ∷ Word (codes "invalid") ∷ [])
is_invalid = read refl

-- i.p is invalid
two_invalid : IsRow (InvalidRow (reference.PortOf (codes "i") (codes "p"))) (Word (codes "i") ∷ Symbol Dot ∷ Word (codes "p") ∷ Word (codes "is") ∷ Word (codes "invalid") ∷ [])
two_invalid = read refl

-- Literals of each radix, with a sign and without.
-- node n = UInt<4>("b1010")
binary : IsRow (NodeRow (codes "n") (ConstantTerm (literal UInt 4 Binary false (codes "1010")))) (Word (codes "node") ∷ Word (codes "n") ∷ Symbol Equals ∷ Word (codes "UInt") ∷ Symbol Less ∷ Number (codes "4") ∷ Symbol Greater ∷ Symbol OpenParen ∷ Text (codes "b1010") ∷ Symbol CloseParen ∷ [])
binary = read refl

-- node n = SInt<4>("b-101")
binary_minus : IsRow (NodeRow (codes "n") (ConstantTerm (literal SInt 4 Binary true (codes "101")))) (Word (codes "node") ∷ Word (codes "n") ∷ Symbol Equals ∷ Word (codes "SInt") ∷ Symbol Less ∷ Number (codes "4") ∷ Symbol Greater ∷ Symbol OpenParen ∷ Text (codes "b-101") ∷ Symbol CloseParen ∷ [])
binary_minus = read refl

-- node n = UInt<6>("o17")
octal : IsRow (NodeRow (codes "n") (ConstantTerm (literal UInt 6 Octal false (codes "17")))) (Word (codes "node") ∷ Word (codes "n") ∷ Symbol Equals ∷ Word (codes "UInt") ∷ Symbol Less ∷ Number (codes "6") ∷ Symbol Greater ∷ Symbol OpenParen ∷ Text (codes "o17") ∷ Symbol CloseParen ∷ [])
octal = read refl

-- node n = SInt<6>("o-17")
octal_minus : IsRow (NodeRow (codes "n") (ConstantTerm (literal SInt 6 Octal true (codes "17")))) (Word (codes "node") ∷ Word (codes "n") ∷ Symbol Equals ∷ Word (codes "SInt") ∷ Symbol Less ∷ Number (codes "6") ∷ Symbol Greater ∷ Symbol OpenParen ∷ Text (codes "o-17") ∷ Symbol CloseParen ∷ [])
octal_minus = read refl

-- node n = UInt<8>("hfF")
hexadecimal : IsRow (NodeRow (codes "n") (ConstantTerm (literal UInt 8 Hexadecimal false (codes "fF")))) (Word (codes "node") ∷ Word (codes "n") ∷ Symbol Equals ∷ Word (codes "UInt") ∷ Symbol Less ∷ Number (codes "8") ∷ Symbol Greater ∷ Symbol OpenParen ∷ Text (codes "hfF") ∷ Symbol CloseParen ∷ [])
hexadecimal = read refl

-- node n = SInt<4>("h-3")
hexadecimal_minus : IsRow (NodeRow (codes "n") (ConstantTerm (literal SInt 4 Hexadecimal true (codes "3")))) (Word (codes "node") ∷ Word (codes "n") ∷ Symbol Equals ∷ Word (codes "SInt") ∷ Symbol Less ∷ Number (codes "4") ∷ Symbol Greater ∷ Symbol OpenParen ∷ Text (codes "h-3") ∷ Symbol CloseParen ∷ [])
hexadecimal_minus = read refl

-- node n = UInt<7>(0127)
decimal : IsRow (NodeRow (codes "n") (ConstantTerm (literal UInt 7 Decimal false (codes "0127")))) (Word (codes "node") ∷ Word (codes "n") ∷ Symbol Equals ∷ Word (codes "UInt") ∷ Symbol Less ∷ Number (codes "7") ∷ Symbol Greater ∷ Symbol OpenParen ∷ Number (codes "0127") ∷ Symbol CloseParen ∷ [])
decimal = read refl

-- node n = SInt<4>(-3)
decimal_minus : IsRow (NodeRow (codes "n") (ConstantTerm (literal SInt 4 Decimal true (codes "3")))) (Word (codes "node") ∷ Word (codes "n") ∷ Symbol Equals ∷ Word (codes "SInt") ∷ Symbol Less ∷ Number (codes "4") ∷ Symbol Greater ∷ Symbol OpenParen ∷ Number (codes "-3") ∷ Symbol CloseParen ∷ [])
decimal_minus = read refl

-- The header forms.
-- FIRRTL version 3.2.0
version : IsRow (VersionRow 3 2 0) (Word (codes "FIRRTL") ∷ Word (codes "version") ∷ Number (codes "3") ∷ Symbol Dot ∷ Number (codes "2") ∷ Symbol Dot ∷ Number (codes "0") ∷ [])
version = read refl

-- circuit Top :
circuit : IsRow (CircuitRow (codes "Top")) (Word (codes "circuit") ∷ Word (codes "Top") ∷ Symbol Colon ∷ [])
circuit = read refl

-- module Top :
module_header : IsRow (ModuleRow (codes "Top")) (Word (codes "module") ∷ Word (codes "Top") ∷ Symbol Colon ∷ [])
module_header = read refl

-- input a : UInt<8>
input : IsRow (PortRow Input (codes "a") (plain_type.UInt 8)) (Word (codes "input") ∷ Word (codes "a") ∷ Symbol Colon ∷ Word (codes "UInt") ∷ Symbol Less ∷ Number (codes "8") ∷ Symbol Greater ∷ [])
input = read refl

-- output o : SInt<5>
output : IsRow (PortRow Output (codes "o") (plain_type.SInt 5)) (Word (codes "output") ∷ Word (codes "o") ∷ Symbol Colon ∷ Word (codes "SInt") ∷ Symbol Less ∷ Number (codes "5") ∷ Symbol Greater ∷ [])
output = read refl

-- input clock : Clock
clock_input : IsRow (PortRow Input (codes "clock") plain_type.Clock) (Word (codes "input") ∷ Word (codes "clock") ∷ Symbol Colon ∷ Word (codes "Clock") ∷ [])
clock_input = read refl

-- The other statements.
-- wire w : UInt<8>
wire : IsRow (WireRow (codes "w") (plain_type.UInt 8)) (Word (codes "wire") ∷ Word (codes "w") ∷ Symbol Colon ∷ Word (codes "UInt") ∷ Symbol Less ∷ Number (codes "8") ∷ Symbol Greater ∷ [])
wire = read refl

-- reg r : UInt<8>, k
register : IsRow (RegisterRow (codes "r") (plain_type.UInt 8) k) (Word (codes "reg") ∷ Word (codes "r") ∷ Symbol Colon ∷ Word (codes "UInt") ∷ Symbol Less ∷ Number (codes "8") ∷ Symbol Greater ∷ Symbol Comma ∷ Word (codes "k") ∷ [])
register = read refl

-- reg r : SInt<5>, k with : (reset => (c, a))
register_reset : IsRow (RegisterResetRow (codes "r") (plain_type.SInt 5) k c a) (Word (codes "reg") ∷ Word (codes "r") ∷ Symbol Colon ∷ Word (codes "SInt") ∷ Symbol Less ∷ Number (codes "5") ∷ Symbol Greater ∷ Symbol Comma ∷ Word (codes "k") ∷ Word (codes "with") ∷ Symbol Colon ∷ Symbol OpenParen ∷ Word (codes "reset") ∷ Symbol Arrow ∷ Symbol OpenParen ∷ Word (codes "c") ∷ Symbol Comma ∷ Word (codes "a") ∷ Symbol CloseParen ∷ Symbol CloseParen ∷ [])
register_reset = read refl

-- reg r : UInt<8>, k with :
register_open : IsRow (RegisterOpenRow (codes "r") (plain_type.UInt 8) k) (Word (codes "reg") ∷ Word (codes "r") ∷ Symbol Colon ∷ Word (codes "UInt") ∷ Symbol Less ∷ Number (codes "8") ∷ Symbol Greater ∷ Symbol Comma ∷ Word (codes "k") ∷ Word (codes "with") ∷ Symbol Colon ∷ [])
register_open = read refl

-- reset => (c, a)
reset : IsRow (ResetRow c a) (Word (codes "reset") ∷ Symbol Arrow ∷ Symbol OpenParen ∷ Word (codes "c") ∷ Symbol Comma ∷ Word (codes "a") ∷ Symbol CloseParen ∷ [])
reset = read refl

-- inst i of Cell
instance : IsRow (InstanceRow (codes "i") (codes "Cell")) (Word (codes "inst") ∷ Word (codes "i") ∷ Word (codes "of") ∷ Word (codes "Cell") ∷ [])
instance = read refl

-- skip
skip : IsRow (SkipRow) (Word (codes "skip") ∷ [])
skip = read refl

-- stop(k, c, 65)
stop : IsRow (StopRow k c 65 None) (Word (codes "stop") ∷ Symbol OpenParen ∷ Word (codes "k") ∷ Symbol Comma ∷ Word (codes "c") ∷ Symbol Comma ∷ Number (codes "65") ∷ Symbol CloseParen ∷ [])
stop = read refl

-- stop(k, c, 65) : s
stop_named : IsRow (StopRow k c 65 (Some (codes "s"))) (Word (codes "stop") ∷ Symbol OpenParen ∷ Word (codes "k") ∷ Symbol Comma ∷ Word (codes "c") ∷ Symbol Comma ∷ Number (codes "65") ∷ Symbol CloseParen ∷ Symbol Colon ∷ Word (codes "s") ∷ [])
stop_named = read refl

-- printf(k, c, "n is %d", a)
printf : IsRow (ReportRow report.Printf arguments None) (Word (codes "printf") ∷ Symbol OpenParen ∷ Word (codes "k") ∷ Symbol Comma ∷ Word (codes "c") ∷ Symbol Comma ∷ Text (codes "n is %d") ∷ Symbol Comma ∷ Word (codes "a") ∷ Symbol CloseParen ∷ [])
printf = read refl

-- printf(k, c, "n is %d", a) : s
printf_named : IsRow (ReportRow report.Printf arguments (Some (codes "s"))) (Word (codes "printf") ∷ Symbol OpenParen ∷ Word (codes "k") ∷ Symbol Comma ∷ Word (codes "c") ∷ Symbol Comma ∷ Text (codes "n is %d") ∷ Symbol Comma ∷ Word (codes "a") ∷ Symbol CloseParen ∷ Symbol Colon ∷ Word (codes "s") ∷ [])
printf_named = read refl

-- assert(k, c, "n is %d", a)
assert : IsRow (ReportRow report.Assert arguments None) (Word (codes "assert") ∷ Symbol OpenParen ∷ Word (codes "k") ∷ Symbol Comma ∷ Word (codes "c") ∷ Symbol Comma ∷ Text (codes "n is %d") ∷ Symbol Comma ∷ Word (codes "a") ∷ Symbol CloseParen ∷ [])
assert = read refl

-- assert(k, c, "n is %d", a) : s
assert_named : IsRow (ReportRow report.Assert arguments (Some (codes "s"))) (Word (codes "assert") ∷ Symbol OpenParen ∷ Word (codes "k") ∷ Symbol Comma ∷ Word (codes "c") ∷ Symbol Comma ∷ Text (codes "n is %d") ∷ Symbol Comma ∷ Word (codes "a") ∷ Symbol CloseParen ∷ Symbol Colon ∷ Word (codes "s") ∷ [])
assert_named = read refl

-- assume(k, c, "n is %d", a)
assume : IsRow (ReportRow report.Assume arguments None) (Word (codes "assume") ∷ Symbol OpenParen ∷ Word (codes "k") ∷ Symbol Comma ∷ Word (codes "c") ∷ Symbol Comma ∷ Text (codes "n is %d") ∷ Symbol Comma ∷ Word (codes "a") ∷ Symbol CloseParen ∷ [])
assume = read refl

-- assume(k, c, "n is %d", a) : s
assume_named : IsRow (ReportRow report.Assume arguments (Some (codes "s"))) (Word (codes "assume") ∷ Symbol OpenParen ∷ Word (codes "k") ∷ Symbol Comma ∷ Word (codes "c") ∷ Symbol Comma ∷ Text (codes "n is %d") ∷ Symbol Comma ∷ Word (codes "a") ∷ Symbol CloseParen ∷ Symbol Colon ∷ Word (codes "s") ∷ [])
assume_named = read refl

-- cover(k, c, "n is %d", a)
cover : IsRow (ReportRow report.Cover arguments None) (Word (codes "cover") ∷ Symbol OpenParen ∷ Word (codes "k") ∷ Symbol Comma ∷ Word (codes "c") ∷ Symbol Comma ∷ Text (codes "n is %d") ∷ Symbol Comma ∷ Word (codes "a") ∷ Symbol CloseParen ∷ [])
cover = read refl

-- cover(k, c, "n is %d", a) : s
cover_named : IsRow (ReportRow report.Cover arguments (Some (codes "s"))) (Word (codes "cover") ∷ Symbol OpenParen ∷ Word (codes "k") ∷ Symbol Comma ∷ Word (codes "c") ∷ Symbol Comma ∷ Text (codes "n is %d") ∷ Symbol Comma ∷ Word (codes "a") ∷ Symbol CloseParen ∷ Symbol Colon ∷ Word (codes "s") ∷ [])
cover_named = read refl

-- Near misses. If the clock and the condition of a stop change places, it is another row.
-- stop(UInt<1>(1), k, 65)
stop_turned : IsRow (StopRow k (ConstantTerm (literal UInt 1 Decimal false (codes "1"))) 65 None) (Word (codes "stop") ∷ Symbol OpenParen ∷ Word (codes "UInt") ∷ Symbol Less ∷ Number (codes "1") ∷ Symbol Greater ∷ Symbol OpenParen ∷ Number (codes "1") ∷ Symbol CloseParen ∷ Symbol Comma ∷ Word (codes "k") ∷ Symbol Comma ∷ Number (codes "65") ∷ Symbol CloseParen ∷ []) → ⊥
stop_turned h = let same = sole {row = StopRow (ConstantTerm (literal UInt 1 Decimal false (codes "1"))) k 65 None} refl h in cc

-- node n = bits(a, 7)
bits_of_one_number : (row : Row) → IsRow row (Word (codes "node") ∷ Word (codes "n") ∷ Symbol Equals ∷ Word (codes "bits") ∷ Symbol OpenParen ∷ Word (codes "a") ∷ Symbol Comma ∷ Number (codes "7") ∷ Symbol CloseParen ∷ []) → ⊥
bits_of_one_number row h = none refl h

-- nodes n = a
word_misspelt : (row : Row) → IsRow row (Word (codes "nodes") ∷ Word (codes "n") ∷ Symbol Equals ∷ Word (codes "a") ∷ []) → ⊥
word_misspelt row h = none refl h

-- The greatest number, and one more, for which there is no row.
-- wire w : UInt<4294967295>
greatest : IsRow (WireRow (codes "w") (plain_type.UInt 4294967295)) (Word (codes "wire") ∷ Word (codes "w") ∷ Symbol Colon ∷ Word (codes "UInt") ∷ Symbol Less ∷ Number (codes "4294967295") ∷ Symbol Greater ∷ [])
greatest = read refl

-- wire w : UInt<4294967296>
past_the_greatest : (row : Row) → IsRow row (Word (codes "wire") ∷ Word (codes "w") ∷ Symbol Colon ∷ Word (codes "UInt") ∷ Symbol Less ∷ Number (codes "4294967296") ∷ Symbol Greater ∷ []) → ⊥
past_the_greatest row h = none refl h

-- node n = UInt<4>("b2")
no_digit_of_two : (row : Row) → IsRow row (Word (codes "node") ∷ Word (codes "n") ∷ Symbol Equals ∷ Word (codes "UInt") ∷ Symbol Less ∷ Number (codes "4") ∷ Symbol Greater ∷ Symbol OpenParen ∷ Text (codes "b2") ∷ Symbol CloseParen ∷ []) → ⊥
no_digit_of_two row h = none refl h

-- node n = UInt<4>("o8")
no_digit_of_eight : (row : Row) → IsRow row (Word (codes "node") ∷ Word (codes "n") ∷ Symbol Equals ∷ Word (codes "UInt") ∷ Symbol Less ∷ Number (codes "4") ∷ Symbol Greater ∷ Symbol OpenParen ∷ Text (codes "o8") ∷ Symbol CloseParen ∷ []) → ⊥
no_digit_of_eight row h = none refl h

-- node n = UInt<4>("hg")
no_digit_of_sixteen : (row : Row) → IsRow row (Word (codes "node") ∷ Word (codes "n") ∷ Symbol Equals ∷ Word (codes "UInt") ∷ Symbol Less ∷ Number (codes "4") ∷ Symbol Greater ∷ Symbol OpenParen ∷ Text (codes "hg") ∷ Symbol CloseParen ∷ []) → ⊥
no_digit_of_sixteen row h = none refl h

-- node n = UInt<4>("h-")
no_digits : (row : Row) → IsRow row (Word (codes "node") ∷ Word (codes "n") ∷ Symbol Equals ∷ Word (codes "UInt") ∷ Symbol Less ∷ Number (codes "4") ∷ Symbol Greater ∷ Symbol OpenParen ∷ Text (codes "h-") ∷ Symbol CloseParen ∷ []) → ⊥
no_digits row h = none refl h

-- printf()
no_arguments : (row : Row) → IsRow row (Word (codes "printf") ∷ Symbol OpenParen ∷ Symbol CloseParen ∷ []) → ⊥
no_arguments row h = none refl h

-- node n = add(a)
one_operand : (row : Row) → IsRow row (Word (codes "node") ∷ Word (codes "n") ∷ Symbol Equals ∷ Word (codes "add") ∷ Symbol OpenParen ∷ Word (codes "a") ∷ Symbol CloseParen ∷ []) → ⊥
one_operand row h = none refl h

-- a.b.c.d <= k
sink_of_four : (row : Row) → IsRow row (Word (codes "a") ∷ Symbol Dot ∷ Word (codes "b") ∷ Symbol Dot ∷ Word (codes "c") ∷ Symbol Dot ∷ Word (codes "d") ∷ Symbol Connect ∷ Word (codes "k") ∷ []) → ⊥
sink_of_four row h = none refl h

-- It isn't told that there is none.
not_none : TellsRow (Word (codes "skip") ∷ []) (Err NoForm) → ⊥
not_none tells = tells SkipRow skip.spelt
