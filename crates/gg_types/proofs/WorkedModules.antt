-- The definitions of the faults of types on circuits with instances and memories, and on variants of them that have faults.
use Rattle.std.proofs.Common.{◌≡◌, ℕ, false, List, [], ◌∷◌, ◌++◌, None, Some, codes, refl}
use Rattle.gg_bits.specs.declared.ops.Op1.TheVariants.{AsSInt, Not, Andr}
use Rattle.gg_bits.specs.declared.ops.Op2.TheVariants.{Add, Cat, Xor}
use Rattle.gg_bits.specs.declared.ops.OpN.TheVariants as fixed
use Rattle.gg_bits.specs.declared.types.Kind.TheVariants as kind
use Rattle.gg_ast.specs.declared.expression.Radix.TheVariants.{Hexadecimal}
use Rattle.gg_ast.specs.declared.expression.Reference.TheVariants.{Local, PortOf, FieldOf}
use Rattle.gg_ast.specs.declared.module.Direction.TheVariants.{Input, Output}
use Rattle.gg_ast.specs.declared.module.GroundType.{GroundType}
use Rattle.gg_ast.specs.declared.module.GroundType.TheVariants.{UInt, SInt, Clock}
use Rattle.gg_ast.specs.declared.module.Port.{Port}
use Rattle.gg_ast.specs.declared.statement.Field.{Field}
use Rattle.gg_ast.specs.declared.statement.MemoryField.{MemoryField}
use Rattle.gg_ast.specs.declared.statement.MemoryField.TheVariants.{DataType, Depth, ReadLatency, WriteLatency, Readers, Writers}
use Rattle.gg_ast.specs.declared.statement.Argument.TheVariants.{Value}
use Rattle.gg_ast.specs.declared.statement.Report.TheVariants.{Printf}
use Rattle.gg_ast.specs.declared.statement.Stmt.{Stmt}
use Rattle.gg_ast.specs.declared.statement.StmtKind.{StmtKind}
use Rattle.gg_ast.specs.declared.statement.StmtKind.TheVariants.{Wire, Node, Register, Instance, Memory, Connect, Invalid, Report}
use Rattle.gg_ast.specs.Term.{Term, NamedTerm, ConstantTerm, UnaryTerm, BinaryTerm, FixedTerm, MuxTerm}
use Rattle.gg_ast.specs.Tree.{ModuleTree}
use Rattle.gg_shape_names.specs.Along.{first}
use Rattle.gg_shape.specs.declared.fault.Fault.{Fault}
use Rattle.gg_shape.specs.declared.fault.Fault.TheVariants.{WrongKind, WrongWidth, LiteralTooLarge, TooWide, WrongClock}
use Rattle.gg_shape.specs.declared.fault.Word.TheVariants as word
use Rattle.gg_types.specs.declared.sort.Sort.TheVariants as sort
use Rattle.gg_types.specs.Literal.{digit}
use Rattle.gg_types.specs.Types.{type_faults, sort_named}
use Rattle.gg_types.specs.inside.Types.{sort_within}

-- ---- parts of circuits

abbrev on : ℕ → StmtKind → Stmt
on line kind = record { line = line; kind = kind }

abbrev input : ℕ → List ℕ → GroundType → Port
input line name ty = record { line = line; name = name; direction = Input; ty = ty }

abbrev output : ℕ → List ℕ → GroundType → Port
output line name ty = record { line = line; name = name; direction = Output; ty = ty }

abbrev field : ℕ → MemoryField → Field
field line kind = record { line = line; kind = kind }

abbrev local : List ℕ → Term
local name = NamedTerm (Local name)

abbrev port : List ℕ → List ℕ → Term
port instance name = NamedTerm (PortOf instance name)

abbrev part : List ℕ → List ℕ → List ℕ → Term
part memory name f = NamedTerm (FieldOf memory name f)

-- `UInt<width>("hdigits")`
abbrev number : ℕ → List ℕ → Term
number width digits = ConstantTerm (record { kind = kind.UInt; width = width; radix = Hexadecimal; negative = false; digits = digits })

abbrev one : Term
one = number 1 (codes "1")

abbrev module_of : ℕ → List ℕ → List Port → List Stmt → ModuleTree
module_of line name ports statements = record { line = line; name = name; ports = ports; statements = statements }

abbrev faults_of : List ℕ → List ModuleTree → List Fault
faults_of top modules = type_faults (record { line = 1; name = top; modules = modules })

-- ---- memories
--
--      1  circuit M :
--      2  module M :
--      3  input clock : Clock
--      4  input a : UInt<2>
--      5  input v : UInt<8>
--      6  output o : UInt<8>
--      7  mem m :
--      8  data-type => UInt<8>
--      9  depth => 3
--     10  read-latency => 0
--     11  write-latency => 1
--     12  reader => r
--     13  writer => w
--
-- and one more statement, on line 14.

abbrev memory_module : GroundType → ℕ → List Stmt → ModuleTree
memory_module ty depth statements =
    module_of 2 (codes "M")
    (input 3 (codes "clock") Clock ∷ input 4 (codes "a") (UInt 2) ∷ input 5 (codes "v") (UInt 8) ∷ output 6 (codes "o") (UInt 8) ∷ [])
    (on 7 (Memory (codes "m")
    (field 8 (DataType ty) ∷ field 9 (Depth depth) ∷ field 10 (ReadLatency 0) ∷ field 11 (WriteLatency 1)
    ∷ field 12 (Readers (codes "r" ∷ [])) ∷ field 13 (Writers (codes "w" ∷ [])) ∷ [])) ∷ statements)

abbrev with_memory : GroundType → ℕ → List Stmt → List Fault
with_memory ty depth statements = faults_of (codes "M") (memory_module ty depth statements ∷ [])

-- `m.PORT.FIELD <= SOURCE` on line 14
abbrev given : List ℕ → List ℕ → Term → List Fault
given name f source = with_memory (UInt 8) 3 (on 14 (Connect (FieldOf (codes "m") name f) source) ∷ [])

reads : with_memory (UInt 8) 3 (on 14 (Connect (Local (codes "o")) (part (codes "m") (codes "r") (codes "data"))) ∷ []) ≡ []
reads = refl

-- F9: a memory of Clocks, on the line of its field
clock_words : first (with_memory Clock 3 []) ≡ Some (WrongKind 8 word.Memory)
clock_words = refl

-- F10: words of 0 and of 129 bits, on the line of their field
no_bits : with_memory (UInt 0) 3 [] ≡ WrongWidth 8 0 ∷ []
no_bits = refl

many_bits : with_memory (SInt 129) 3 [] ≡ WrongWidth 8 129 ∷ []
many_bits = refl

most_bits : with_memory (SInt 128) 3 [] ≡ []
most_bits = refl

-- the address of a memory of three words has two bits, of five words three bits, and of one word one bit
address : given (codes "r") (codes "addr") (local (codes "a")) ≡ []
address = refl

wide_address : given (codes "r") (codes "addr") (local (codes "v")) ≡ TooWide 14 8 2 ∷ []
wide_address = refl

address_of_five : with_memory (UInt 8) 5 (on 14 (Connect (FieldOf (codes "m") (codes "w") (codes "addr")) (local (codes "v"))) ∷ []) ≡ TooWide 14 8 3 ∷ []
address_of_five = refl

address_of_one : with_memory (UInt 8) 1 (on 14 (Connect (FieldOf (codes "m") (codes "w") (codes "addr")) (local (codes "a"))) ∷ []) ≡ TooWide 14 2 1 ∷ []
address_of_one = refl

-- `en` and `mask` are one bit
wide_enable : given (codes "r") (codes "en") (local (codes "a")) ≡ TooWide 14 2 1 ∷ []
wide_enable = refl

mask : given (codes "w") (codes "mask") one ≡ []
unfolding digit
mask = refl

wide_mask : given (codes "w") (codes "mask") (local (codes "v")) ≡ TooWide 14 8 1 ∷ []
wide_mask = refl

wide_mask_refused : given (codes "w") (codes "mask") (local (codes "v")) ≡ [] → ⊥
wide_mask_refused h = cc

signed_mask : given (codes "w") (codes "mask") (UnaryTerm AsSInt one) ≡ WrongKind 14 word.Connect ∷ []
unfolding digit
signed_mask = refl

-- `data` has the type of a word
wide_data : given (codes "w") (codes "data") (BinaryTerm Cat (local (codes "v")) (local (codes "v"))) ≡ TooWide 14 16 8 ∷ []
wide_data = refl

short_data : given (codes "w") (codes "data") (local (codes "a")) ≡ []
short_data = refl

-- `clk` is a Clock (F9), can't be invalid (F14), and leads to no input port when it is read (F14)
clocked : given (codes "r") (codes "clk") (local (codes "clock")) ≡ []
clocked = refl

not_clocked : given (codes "r") (codes "clk") (local (codes "a")) ≡ WrongKind 14 word.Connect ∷ []
not_clocked = refl

not_clocked_refused : given (codes "r") (codes "clk") one ≡ [] → ⊥
unfolding digit
not_clocked_refused h = cc

no_clock : with_memory (UInt 8) 3 (on 14 (Invalid (FieldOf (codes "m") (codes "r") (codes "clk"))) ∷ []) ≡ WrongClock 14 (codes "m.r.clk") ∷ []
no_clock = refl

clock_read : with_memory (UInt 8) 3 (on 14 (Register (codes "d") (UInt 1) (part (codes "m") (codes "r") (codes "clk")) None) ∷ []) ≡ WrongClock 14 (codes "m.r.clk") ∷ []
clock_read = refl

-- a field in an operation: `node n = add(m.r.addr, a)` has three bits
address_added : sort_within (memory_module (UInt 8) 3 [] ∷ []) (memory_module (UInt 8) 3 []) (BinaryTerm Add (part (codes "m") (codes "r") (codes "addr")) (local (codes "a"))) ≡ Some (sort.Bits kind.UInt 3)
address_added = refl

-- a reader has no mask, and a memory no field of another name
no_mask : sort_named (memory_module (UInt 8) 3 [] ∷ []) (memory_module (UInt 8) 3 []) (FieldOf (codes "m") (codes "r") (codes "mask")) ≡ None
no_mask = refl

writer_mask : sort_named (memory_module (UInt 8) 3 [] ∷ []) (memory_module (UInt 8) 3 []) (FieldOf (codes "m") (codes "w") (codes "mask")) ≡ Some (sort.Bits kind.UInt 1)
writer_mask = refl

-- ---- ports of a module further down
--
--      1  circuit Top :
--      2  module Top :
--      3  input clock : Clock
--      4  output q : UInt<8>
--      5  inst b of B
--      .  one more line, 6
--      7  module B :
--      8  output p : ..

abbrev later_modules : GroundType → List Stmt → List ModuleTree
later_modules ty statements =
    module_of 2 (codes "Top") (input 3 (codes "clock") Clock ∷ output 4 (codes "q") (UInt 8) ∷ []) (on 5 (Instance (codes "b") (codes "B")) ∷ statements)
    ∷ module_of 7 (codes "B") (output 8 (codes "p") ty ∷ []) []
    ∷ []

abbrev later : GroundType → List Stmt → List Fault
later ty statements = faults_of (codes "Top") (later_modules ty statements)

-- `q <= not(b.p)`, and p has 200 bits: the operation's result is reported on the earlier line
wide_result : later (UInt 200) (on 6 (Connect (Local (codes "q")) (UnaryTerm Not (port (codes "b") (codes "p")))) ∷ []) ≡ WrongWidth 6 200 ∷ WrongWidth 8 200 ∷ []
wide_result = refl

no_result : later (UInt 0) (on 6 (Node (codes "n") (UnaryTerm Not (port (codes "b") (codes "p")))) ∷ []) ≡ WrongWidth 6 0 ∷ WrongWidth 8 0 ∷ []
no_result = refl

-- `q <= b.p`: a bare reference isn't a result, but it may be wider than its sink (F13)
wide_reference : later (UInt 200) (on 6 (Connect (Local (codes "q")) (port (codes "b") (codes "p"))) ∷ []) ≡ TooWide 6 200 8 ∷ WrongWidth 8 200 ∷ []
wide_reference = refl

empty_reference : later (UInt 0) (on 6 (Connect (Local (codes "q")) (port (codes "b") (codes "p"))) ∷ []) ≡ WrongWidth 8 0 ∷ []
empty_reference = refl

-- `node n = b.p`, `node o = andr(n)`: a reference in a node isn't a result either, and the result of `andr` has one bit
through_node : later (UInt 200) (on 6 (Node (codes "n") (port (codes "b") (codes "p"))) ∷ on 6 (Node (codes "o") (UnaryTerm Andr (local (codes "n")))) ∷ []) ≡ WrongWidth 8 200 ∷ []
through_node = refl

-- a width above 4,294,967,295 is reported as 4,294,967,295: `node n = shl(b.p, 4294967295)`
widest : first (later (UInt 200) (on 6 (Node (codes "n") (FixedTerm fixed.Shl (port (codes "b") (codes "p")) 4294967295 0)) ∷ [])) ≡ Some (WrongWidth 6 4294967295)
widest = refl

-- parameters that name bits that are there: `node n = bits(b.p, 150, 149)`
wide_bits : later (UInt 200) (on 6 (Node (codes "n") (FixedTerm fixed.Bits (port (codes "b") (codes "p")) 150 149)) ∷ []) ≡ WrongWidth 8 200 ∷ []
wide_bits = refl

-- a condition of two bits: `node n = mux(b.p, UInt<1>("h1"), UInt<1>("h1"))`
wide_condition : later (UInt 2) (on 6 (Node (codes "n") (MuxTerm (port (codes "b") (codes "p")) one one)) ∷ []) ≡ WrongKind 6 word.Mux ∷ []
unfolding digit
wide_condition = refl

-- a source of another kind than the sink: `q <= b.p`
signed_port : later (SInt 8) (on 6 (Connect (Local (codes "q")) (port (codes "b") (codes "p"))) ∷ []) ≡ WrongKind 6 word.Connect ∷ []
signed_port = refl

-- a port that an instance's module lacks has no type
no_port : sort_named (later_modules (UInt 8) []) (module_of 2 (codes "Top") [] (on 5 (Instance (codes "b") (codes "B")) ∷ [])) (PortOf (codes "b") (codes "x")) ≡ None
no_port = refl

a_port : sort_named (later_modules (UInt 8) []) (module_of 2 (codes "Top") [] (on 5 (Instance (codes "b") (codes "B")) ∷ [])) (PortOf (codes "b") (codes "p")) ≡ Some (sort.Bits kind.UInt 8)
a_port = refl

-- F14: an output port that is a Clock, and a Clock from an instance, which leads to no input port: `reg d : UInt<1>, b.p`
clock_port : later Clock (on 6 (Register (codes "d") (UInt 1) (port (codes "b") (codes "p")) None) ∷ []) ≡ WrongClock 6 (codes "b.p") ∷ WrongClock 8 (codes "p") ∷ []
clock_port = refl

-- the same through a wire: `wire k : Clock`, `k <= b.p`, `reg d : UInt<1>, k`
clock_port_through_wire : later Clock (on 6 (Wire (codes "k") Clock) ∷ on 6 (Connect (Local (codes "k")) (port (codes "b") (codes "p"))) ∷ on 6 (Register (codes "d") (UInt 1) (local (codes "k")) None) ∷ [])
    ≡ WrongClock 6 (codes "b.p") ∷ WrongClock 6 (codes "k") ∷ WrongClock 8 (codes "p") ∷ []
clock_port_through_wire = refl

-- a ring of wires: `wire k : Clock`, `wire l : Clock`, `k <= l`, `l <= k`
clock_ring : later (UInt 8) (on 6 (Wire (codes "k") Clock) ∷ on 6 (Wire (codes "l") Clock) ∷ on 6 (Connect (Local (codes "k")) (local (codes "l"))) ∷ on 6 (Connect (Local (codes "l")) (local (codes "k"))) ∷ [])
    ≡ WrongClock 6 (codes "l") ∷ WrongClock 6 (codes "k") ∷ []
clock_ring = refl

-- F14: a Clock among the arguments of `printf` that leads to no input port: `printf(clock, k)`, and later `k is invalid`
clock_printed : later (UInt 8) (on 6 (Wire (codes "k") Clock) ∷ on 6 (Report Printf (Value (local (codes "clock")) ∷ Value (local (codes "k")) ∷ []) None) ∷ on 6 (Invalid (Local (codes "k"))) ∷ [])
    ≡ WrongClock 6 (codes "k") ∷ WrongClock 6 (codes "k") ∷ []
clock_printed = refl

-- a module that the top doesn't reach is checked too: line 11 is `o <= UInt<4>("h10")`
unreached : faults_of (codes "Top") (later_modules (UInt 8) [] ++ module_of 9 (codes "Dead") (output 10 (codes "o") (UInt 4) ∷ []) (on 11 (Connect (Local (codes "o")) (number 4 (codes "10"))) ∷ []) ∷ [])
    ≡ LiteralTooLarge 11 ∷ []
unfolding digit
unreached = refl

-- a module with two Clock inputs is no fault, neither below the top nor as the top
abbrev two_clocks : List Port
two_clocks = input 3 (codes "c") Clock ∷ input 4 (codes "d") Clock ∷ []

clocks_below : faults_of (codes "Top") (module_of 2 (codes "Low") two_clocks [] ∷ module_of 5 (codes "Top") [] [] ∷ []) ≡ []
clocks_below = refl

clocks_of_top : faults_of (codes "Low") (module_of 2 (codes "Low") two_clocks [] ∷ module_of 5 (codes "Top") [] [] ∷ []) ≡ []
clocks_of_top = refl

-- a Clock that is an output is one, also beside two that are inputs
clock_output : faults_of (codes "Low") (module_of 2 (codes "Low") (two_clocks ++ output 5 (codes "e") Clock ∷ []) [] ∷ []) ≡ WrongClock 5 (codes "e") ∷ []
clock_output = refl

-- ---- two instances that feed each other
--
--      1  circuit Pair :
--      2  module A :
--      3  input clock : Clock
--      4  input x : UInt<8>
--      5  input k : UInt<8>
--      6  output p : UInt<8>
--      7  output q : UInt<8>
--      8  p <= x
--      9  q <= xor(x, k)
--     10  module B :
--     11  input m : UInt<8>
--     12  output n : UInt<8>
--     13  n <= bits(shl(m, 1), 7, 0)
--     14  module Pair :
--     15  input clock : Clock
--     16  input x : UInt<8>
--     17  output q : UInt<8>
--     18  inst a of A
--     19  inst b of B
--     20  a.clock <= clock
--     21  a.x <= x
--     22  b.m <= a.p
--     23  a.k <= b.n
--     24  q <= a.q

abbrev pair : Stmt → Stmt → List Fault
pair line_20 line_23 =
    faults_of (codes "Pair")
    (module_of 2 (codes "A")
    (input 3 (codes "clock") Clock ∷ input 4 (codes "x") (UInt 8) ∷ input 5 (codes "k") (UInt 8) ∷ output 6 (codes "p") (UInt 8) ∷ output 7 (codes "q") (UInt 8) ∷ [])
    (on 8 (Connect (Local (codes "p")) (local (codes "x"))) ∷ on 9 (Connect (Local (codes "q")) (BinaryTerm Xor (local (codes "x")) (local (codes "k")))) ∷ [])
    ∷ module_of 10 (codes "B") (input 11 (codes "m") (UInt 8) ∷ output 12 (codes "n") (UInt 8) ∷ [])
    (on 13 (Connect (Local (codes "n")) (FixedTerm fixed.Bits (FixedTerm fixed.Shl (local (codes "m")) 1 0) 7 0)) ∷ [])
    ∷ module_of 14 (codes "Pair") (input 15 (codes "clock") Clock ∷ input 16 (codes "x") (UInt 8) ∷ output 17 (codes "q") (UInt 8) ∷ [])
    (on 18 (Instance (codes "a") (codes "A")) ∷ on 19 (Instance (codes "b") (codes "B")) ∷ line_20
    ∷ on 21 (Connect (PortOf (codes "a") (codes "x")) (local (codes "x")))
    ∷ on 22 (Connect (PortOf (codes "b") (codes "m")) (port (codes "a") (codes "p")))
    ∷ line_23
    ∷ on 24 (Connect (Local (codes "q")) (port (codes "a") (codes "q"))) ∷ [])
    ∷ [])

abbrev line_20 : Stmt
line_20 = on 20 (Connect (PortOf (codes "a") (codes "clock")) (local (codes "clock")))

abbrev line_23 : Stmt
line_23 = on 23 (Connect (PortOf (codes "a") (codes "k")) (port (codes "b") (codes "n")))

right : pair line_20 line_23 ≡ []
right = refl

-- F14: line 20 is `a.clock is invalid`
invalid_clock : pair (on 20 (Invalid (PortOf (codes "a") (codes "clock")))) line_23 ≡ WrongClock 20 (codes "a.clock") ∷ []
invalid_clock = refl

-- F9: line 20 is `a.clock <= x`
bits_for_clock : pair (on 20 (Connect (PortOf (codes "a") (codes "clock")) (local (codes "x")))) line_23 ≡ WrongKind 20 word.Connect ∷ []
bits_for_clock = refl

-- F14: line 20 is `a.clock <= a.clock`
own_clock : pair (on 20 (Connect (PortOf (codes "a") (codes "clock")) (port (codes "a") (codes "clock")))) line_23 ≡ WrongClock 20 (codes "a.clock") ∷ []
own_clock = refl

-- F13: line 23 is `a.k <= shl(b.n, 1)`
wide_input : pair line_20 (on 23 (Connect (PortOf (codes "a") (codes "k")) (FixedTerm fixed.Shl (port (codes "b") (codes "n")) 1 0))) ≡ TooWide 23 9 8 ∷ []
wide_input = refl

-- of two faults the first in the text is reported, whatever their numbers
two_faults : first (pair (on 20 (Invalid (PortOf (codes "a") (codes "clock")))) (on 23 (Connect (PortOf (codes "a") (codes "k")) (UnaryTerm AsSInt (port (codes "b") (codes "n")))))) ≡ Some (WrongClock 20 (codes "a.clock"))
two_faults = refl
