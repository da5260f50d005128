-- The definitions of the faults of types, and of types, on a counter of eight bits and on variants of it that have faults. The
-- lines are those of the text:
--
--      1  circuit Counter :
--      2    module Counter :
--      3      input clock : Clock
--      4      input reset : UInt<1>
--      5      output out : UInt<8>
--      7      reg c : UInt<8>, clock with :
--      8        reset => (UInt<1>("h0"), c)
--      9      node n = add(c, UInt<1>("h1"))
--     10      out <= c
--     11      c <= mux(reset, UInt<8>("h0"), bits(n, 7, 0))
use Rattle.std.proofs.Common.{◌≡◌, ℕ, Bool, true, false, List, [], ◌∷◌, ◌++◌, None, Some, codes, refl}
use Rattle.gg_bits.specs.declared.ops.Op1.TheVariants.{AsSInt, Not}
use Rattle.gg_bits.specs.declared.ops.Op2.{Op2}
use Rattle.gg_bits.specs.declared.ops.Op2.TheVariants.{Add, Dshl, Mul}
use Rattle.gg_bits.specs.declared.ops.OpN.TheVariants as fixed
use Rattle.gg_bits.specs.declared.types.Kind.{Kind}
use Rattle.gg_bits.specs.declared.types.Kind.TheVariants as kind
use Rattle.gg_ast.specs.declared.expression.Literal.{Literal}
use Rattle.gg_ast.specs.declared.expression.Radix.TheVariants.{Hexadecimal}
use Rattle.gg_ast.specs.declared.expression.Reference.TheVariants.{Local}
use Rattle.gg_ast.specs.declared.module.Direction.TheVariants.{Input, Output}
use Rattle.gg_ast.specs.declared.module.GroundType.TheVariants.{UInt, Clock}
use Rattle.gg_ast.specs.declared.module.Port.{Port}
use Rattle.gg_ast.specs.declared.statement.Argument.{Argument}
use Rattle.gg_ast.specs.declared.statement.Argument.TheVariants.{Value, Text}
use Rattle.gg_ast.specs.declared.statement.Report.{Report}
use Rattle.gg_ast.specs.declared.statement.Report.TheVariants.{Printf, Assert, Assume, Cover}
use Rattle.gg_ast.specs.declared.statement.Stmt.{Stmt}
use Rattle.gg_ast.specs.declared.statement.StmtKind.{StmtKind}
use Rattle.gg_ast.specs.declared.statement.StmtKind.TheVariants.{Wire, Node, Register, Connect, Invalid, Stop}
use Rattle.gg_ast.specs.Term.{Term, NamedTerm, ConstantTerm, UnaryTerm, BinaryTerm, FixedTerm, MuxTerm}
use Rattle.gg_ast.specs.Tree.{ModuleTree}
use Rattle.gg_shape.specs.declared.fault.Fault.{Fault}
use Rattle.gg_shape.specs.declared.fault.Fault.TheVariants.{WrongKind, WrongWidth, WrongParameter, LiteralTooLarge, TooWide, WrongClock}
use Rattle.gg_shape.specs.declared.fault.Word.TheVariants as word
use Rattle.gg_types.specs.Literal.{digit}
use Rattle.gg_types.specs.declared.sort.Own.TheVariants.{Single}
use Rattle.gg_types.specs.declared.sort.Sort.TheVariants as sort
use Rattle.gg_shape_names.specs.declared.role.Role.TheVariants.{InputPort}
use Rattle.gg_types.specs.Types.{type_faults, known_in, report_faults}

-- ---- the parts of the counter

abbrev hexadecimal : Kind → ℕ → Bool → List ℕ → Literal
hexadecimal k width negative digits = record { kind = k; width = width; radix = Hexadecimal; negative = negative; digits = digits }

abbrev signal : List ℕ → Term
signal name = NamedTerm (Local name)

abbrev number : ℕ → List ℕ → Term
number width digits = ConstantTerm (hexadecimal kind.UInt width false digits)

-- an operation of two operands
abbrev two : Op2 → Term → Term → Term
two op a b = BinaryTerm op a b

abbrev bits : Term → ℕ → ℕ → Term
bits a high low = FixedTerm fixed.Bits a high low

abbrev on : ℕ → StmtKind → Stmt
on line kind = record { line = line; kind = kind }

abbrev connect : ℕ → List ℕ → Term → Stmt
connect line sink source = on line (Connect (Local sink) source)

abbrev ports : List Port
ports =
    record { line = 3; name = codes "clock"; direction = Input; ty = Clock }
    ∷ record { line = 4; name = codes "reset"; direction = Input; ty = UInt 1 }
    ∷ record { line = 5; name = codes "out"; direction = Output; ty = UInt 8 }
    ∷ []

-- line 7, with this reset on line 8
abbrev register_with : Term → Term → Stmt
register_with condition init = on 7 (Register (codes "c") (UInt 8) (signal (codes "clock")) (Some (record { line = 8; condition = condition; init = init })))

abbrev register : Stmt
register = register_with (number 1 (codes "0")) (signal (codes "c"))

-- line 9, with these digits in the second operand
abbrev node_n : List ℕ → Stmt
node_n digits = on 9 (Node (codes "n") (two Add (signal (codes "c")) (number 1 digits)))

abbrev line_10 : Stmt
line_10 = connect 10 (codes "out") (signal (codes "c"))

abbrev line_11 : Stmt
line_11 = connect 11 (codes "c") (MuxTerm (signal (codes "reset")) (number 8 (codes "0")) (bits (signal (codes "n")) 7 0))

abbrev counter_with : List Port → List Stmt → ModuleTree
counter_with more statements = record { line = 2; name = codes "Counter"; ports = ports ++ more; statements = statements }

-- the faults of a circuit of this name, whose one module has these further ports and these statements
abbrev faults_named : List ℕ → List Port → List Stmt → List Fault
faults_named name more statements = type_faults (record { line = 1; name = name; modules = counter_with more statements ∷ [] })

abbrev faults : List Stmt → List Fault
faults statements = faults_named (codes "Counter") [] statements

-- lines 7 to 11
abbrev whole : List Stmt
whole = register ∷ node_n (codes "1") ∷ line_10 ∷ line_11 ∷ []

-- ---- its rows

right : faults whole ≡ []
unfolding digit
right = refl

types : known_in (counter_with [] whole ∷ []) (counter_with [] whole)
    ≡ (codes "clock", Some (Single sort.Clock)) ∷ (codes "reset", Some (Single (sort.Bits kind.UInt 1))) ∷ (codes "out", Some (Single (sort.Bits kind.UInt 8)))
    ∷ (codes "c", Some (Single (sort.Bits kind.UInt 8))) ∷ (codes "n", Some (Single (sort.Bits kind.UInt 9))) ∷ []
unfolding digit
types = refl

-- F9: line 10 is `out <= asSInt(c)`
wrong_kind : faults (register ∷ node_n (codes "1") ∷ connect 10 (codes "out") (UnaryTerm AsSInt (signal (codes "c"))) ∷ line_11 ∷ []) ≡ WrongKind 10 word.Connect ∷ []
unfolding digit
wrong_kind = refl

-- F9: line 8 is `reset => (c, c)`
wrong_condition : faults (register_with (signal (codes "c")) (signal (codes "c")) ∷ node_n (codes "1") ∷ line_10 ∷ line_11 ∷ []) ≡ WrongKind 8 word.Register ∷ []
unfolding digit
wrong_condition = refl

-- F10: line 10 is `out <= dshl(c, UInt<32>("h0"))`, a width of 4,294,967,303
wrong_width : faults (register ∷ node_n (codes "1") ∷ connect 10 (codes "out") (two Dshl (signal (codes "c")) (number 32 (codes "0"))) ∷ line_11 ∷ []) ≡ WrongWidth 10 4294967295 ∷ []
unfolding digit
wrong_width = refl

-- F11: line 11 is `c <= bits(n, 9, 0)`, and n has nine bits
wrong_parameter : faults (register ∷ node_n (codes "1") ∷ line_10 ∷ connect 11 (codes "c") (bits (signal (codes "n")) 9 0) ∷ []) ≡ WrongParameter 11 (word.Fixed fixed.Bits) ∷ []
unfolding digit
wrong_parameter = refl

-- F12: line 9 is `node n = add(c, UInt<1>("h2"))`; n has no type then, and line 11 no fault
large_literal : faults (register ∷ node_n (codes "2") ∷ line_10 ∷ line_11 ∷ []) ≡ LiteralTooLarge 9 ∷ []
unfolding digit
large_literal = refl

-- F13: line 11 is `c <= n`
too_wide : faults (register ∷ node_n (codes "1") ∷ line_10 ∷ connect 11 (codes "c") (signal (codes "n")) ∷ []) ≡ TooWide 11 9 8 ∷ []
unfolding digit
too_wide = refl

-- F13: line 8 is `reset => (UInt<1>("h0"), UInt<9>("h0"))`
wide_init : faults (register_with (number 1 (codes "0")) (number 9 (codes "0")) ∷ node_n (codes "1") ∷ line_10 ∷ line_11 ∷ []) ≡ TooWide 8 9 8 ∷ []
unfolding digit
wide_init = refl

-- a clock through the wire k: lines 12 to 14 are `wire k : Clock`, `k <= clock`, `reg d : UInt<1>, k`
through_wire : faults (whole ++ on 12 (Wire (codes "k") Clock) ∷ connect 13 (codes "k") (signal (codes "clock"))
    ∷ on 14 (Register (codes "d") (UInt 1) (signal (codes "k")) None) ∷ []) ≡ []
unfolding digit
through_wire = refl

-- F14: lines 12 to 14 are `wire k : Clock`, `reg d : UInt<1>, k`, `k is invalid`
from_nowhere : faults (whole ++ on 12 (Wire (codes "k") Clock) ∷ on 13 (Register (codes "d") (UInt 1) (signal (codes "k")) None)
    ∷ on 14 (Invalid (Local (codes "k"))) ∷ []) ≡ WrongClock 13 (codes "k") ∷ WrongClock 14 (codes "k") ∷ []
unfolding digit
from_nowhere = refl

-- line 6 is `input k : Clock`, a second clock of the top
second_clock : faults_named (codes "Counter") (record { line = 6; name = codes "k"; direction = Input; ty = Clock } ∷ []) whole ≡ []
unfolding digit
second_clock = refl

-- ---- what is reported of one expression or one statement

-- the counter with this statement on line 12
abbrev faults_with : StmtKind → List Fault
faults_with kind = faults (whole ++ on 12 kind ∷ [])

-- the counter with `node m = ..` on line 12
abbrev faults_of_node : Term → List Fault
faults_of_node value = faults_with (Node (codes "m") value)

-- operands from left to right: `add(bits(c, 8, 0), UInt<1>("h2"))`
left_first : faults_of_node (two Add (bits (signal (codes "c")) 8 0) (number 1 (codes "2"))) ≡ WrongParameter 12 (word.Fixed fixed.Bits) ∷ LiteralTooLarge 12 ∷ []
unfolding digit
left_first = refl

-- in a mux the condition, then the branches: `mux(UInt<1>("h2"), bits(c, 8, 0), UInt<0>("h0"))`
condition_first : faults_of_node (MuxTerm (number 1 (codes "2")) (bits (signal (codes "c")) 8 0) (number 0 (codes "0")))
    ≡ LiteralTooLarge 12 ∷ WrongParameter 12 (word.Fixed fixed.Bits) ∷ WrongWidth 12 0 ∷ []
unfolding digit
condition_first = refl

-- F11 before F10: `bits(c, 200, 0)`, whose width would be 201
parameter_before_width : faults_of_node (bits (signal (codes "c")) 200 0) ≡ WrongParameter 12 (word.Fixed fixed.Bits) ∷ []
unfolding digit
parameter_before_width = refl

-- F9 before F10: `mul(asSInt(c), UInt<128>("h0"))`, whose width would be 136
kind_before_width : faults_of_node (two Mul (UnaryTerm AsSInt (signal (codes "c"))) (number 128 (codes "0"))) ≡ WrongKind 12 (word.Binary Mul) ∷ []
unfolding digit
kind_before_width = refl

-- F9 before F13: line 10 is `out <= asSInt(n)`, and n has nine bits
kind_before_size : faults (register ∷ node_n (codes "1") ∷ connect 10 (codes "out") (UnaryTerm AsSInt (signal (codes "n"))) ∷ line_11 ∷ []) ≡ WrongKind 10 word.Connect ∷ []
unfolding digit
kind_before_size = refl

-- F9 before F11: `bits(clock, 9, 0)`; no operation takes a Clock
clock_sliced : faults_of_node (bits (signal (codes "clock")) 9 0) ≡ WrongKind 12 (word.Fixed fixed.Bits) ∷ []
unfolding digit
clock_sliced = refl

clock_turned : faults_of_node (UnaryTerm Not (signal (codes "clock"))) ≡ WrongKind 12 (word.Unary Not) ∷ []
unfolding digit
clock_turned = refl

clock_added : faults_of_node (two Add (signal (codes "c")) (signal (codes "clock"))) ≡ WrongKind 12 (word.Binary Add) ∷ []
unfolding digit
clock_added = refl

clock_chosen : faults_of_node (MuxTerm (signal (codes "reset")) (signal (codes "clock")) (signal (codes "clock"))) ≡ WrongKind 12 word.Mux ∷ []
unfolding digit
clock_chosen = refl

-- a register's type, its clock, its condition and its init, in this order: line 12 is `reg d : UInt<0>, reset with :`, line 13
-- `reset => (c, UInt<1>("h2"))`
register_in_order : faults_with (Register (codes "d") (UInt 0) (signal (codes "reset")) (Some (record { line = 13; condition = signal (codes "c"); init = number 1 (codes "2") })))
    ≡ WrongWidth 12 0 ∷ WrongKind 12 word.Register ∷ WrongKind 13 word.Register ∷ LiteralTooLarge 13 ∷ []
unfolding digit
register_in_order = refl

-- a register can't be a Clock (F9): `reg d : Clock, clock`
clock_kept : faults_with (Register (codes "d") Clock (signal (codes "clock")) None) ≡ WrongKind 12 word.Register ∷ []
unfolding digit
clock_kept = refl

-- `stop(clock, reset, 1)`, and `stop(reset, c, 1)`, whose clock and condition are wrong
stopped : faults_with (Stop (signal (codes "clock")) (signal (codes "reset")) 1 None) ≡ []
unfolding digit
stopped = refl

stopped_wrongly : faults_with (Stop (signal (codes "reset")) (signal (codes "c")) 1 None) ≡ WrongKind 12 word.Stop ∷ WrongKind 12 word.Stop ∷ []
unfolding digit
stopped_wrongly = refl

-- the clock before the condition: `stop(reset, UInt<1>("h2"), 1)`
stop_in_order : faults_with (Stop (signal (codes "reset")) (number 1 (codes "2")) 1 None) ≡ WrongKind 12 word.Stop ∷ LiteralTooLarge 12 ∷ []
unfolding digit
stop_in_order = refl

-- a clock through a chain of nodes: `node k = clock`, `node l = k`, `reg d : UInt<1>, l`
through_nodes : faults (whole ++ on 12 (Node (codes "k") (signal (codes "clock"))) ∷ on 13 (Node (codes "l") (signal (codes "k")))
    ∷ on 14 (Register (codes "d") (UInt 1) (signal (codes "l")) None) ∷ []) ≡ []
unfolding digit
through_nodes = refl

-- a width through a chain of nodes: `node m = n`, `node o = m`, `wire w : UInt<8>`, `w <= o`
wide_through_nodes : faults (whole ++ on 12 (Node (codes "m") (signal (codes "n"))) ∷ on 13 (Node (codes "o") (signal (codes "m")))
    ∷ on 14 (Wire (codes "w") (UInt 8)) ∷ connect 15 (codes "w") (signal (codes "o")) ∷ []) ≡ TooWide 15 9 8 ∷ []
unfolding digit
wide_through_nodes = refl

-- ---- printf, assert, assume, cover: the faults of their arguments, if `clock` and `reset` are declared

abbrev faults_of_arguments : Report → List Argument → List Fault
faults_of_arguments report arguments =
    report_faults ((Local (codes "clock"), InputPort) ∷ (Local (codes "reset"), InputPort) ∷ []) (λ name. true)
    ((codes "clock", Some (Single sort.Clock)) ∷ (codes "reset", Some (Single (sort.Bits kind.UInt 1))) ∷ []) 12 (word.Report report) arguments

-- `printf(clock, "x", clock)`: a text and a Clock may be among the arguments after the first
printed : faults_of_arguments Printf (Value (signal (codes "clock")) ∷ Text (codes "x") ∷ Value (signal (codes "clock")) ∷ []) ≡ []
printed = refl

-- `printf("x", UInt<1>("h2"))`: a text isn't a clock
text_first : faults_of_arguments Printf (Text (codes "x") ∷ Value (number 1 (codes "2")) ∷ []) ≡ WrongKind 12 (word.Report Printf) ∷ LiteralTooLarge 12 ∷ []
unfolding digit
text_first = refl

-- `assert(reset, clock)`, `assume(reset)`, `cover(reset)`: the first argument has to be a clock
asserted : faults_of_arguments Assert (Value (signal (codes "reset")) ∷ Value (signal (codes "clock")) ∷ []) ≡ WrongKind 12 (word.Report Assert) ∷ []
asserted = refl

assumed : faults_of_arguments Assume (Value (signal (codes "reset")) ∷ []) ≡ WrongKind 12 (word.Report Assume) ∷ []
assumed = refl

covered : faults_of_arguments Cover (Value (signal (codes "reset")) ∷ []) ≡ WrongKind 12 (word.Report Cover) ∷ []
covered = refl
