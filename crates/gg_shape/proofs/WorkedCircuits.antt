-- Parts of the circuits that are worked by hand in the files beside this one. Widths don't matter here: all are 8, except those of
-- a memory's address, enable and mask.
use Rattle.std.proofs.Common.{ℕ, List, [], ◌∷◌, ◌++◌, codes}
use Rattle.gg_ast.specs.declared.expression.Reference.{Reference}
use Rattle.gg_ast.specs.declared.expression.Reference.TheVariants.{Local, PortOf, FieldOf}
use Rattle.gg_ast.specs.declared.module.Direction.TheVariants.{Input, Output}
use Rattle.gg_ast.specs.declared.module.GroundType.{GroundType}
use Rattle.gg_ast.specs.declared.module.GroundType.TheVariants.{UInt, Clock}
use Rattle.gg_ast.specs.declared.module.Port.{Port}
use Rattle.gg_ast.specs.declared.statement.Field.{Field}
use Rattle.gg_ast.specs.declared.statement.MemoryField as fields
use Rattle.gg_ast.specs.declared.statement.MemoryField.TheVariants.{DataType, Depth, ReadLatency, WriteLatency, Readers, Writers}
use Rattle.gg_ast.specs.declared.statement.Stmt.{Stmt}
use Rattle.gg_ast.specs.declared.statement.StmtKind.{StmtKind}
use Rattle.gg_ast.specs.declared.statement.StmtKind.TheVariants.{Instance, Memory, Connect, Invalid}
use Rattle.gg_ast.specs.Term.{NamedTerm}
use Rattle.gg_ast.specs.Tree.{ModuleTree, CircuitTree}

abbrev pub on : ℕ → StmtKind → Stmt
on line kind = record { line = line; kind = kind }

abbrev pub input : ℕ → List ℕ → GroundType → Port
input line name ty = record { line = line; name = name; direction = Input; ty = ty }

abbrev pub output : ℕ → List ℕ → GroundType → Port
output line name ty = record { line = line; name = name; direction = Output; ty = ty }

-- SINK <= SOURCE
abbrev pub connect : ℕ → Reference → Reference → Stmt
connect line sink source = on line (Connect sink (NamedTerm source))

abbrev pub invalid : ℕ → Reference → Stmt
invalid line sink = on line (Invalid sink)

abbrev pub instance : ℕ → List ℕ → List ℕ → Stmt
instance line name held = on line (Instance name held)

abbrev pub module_with : ℕ → List ℕ → List Port → List Stmt → ModuleTree
module_with line name ports statements = record { line = line; name = name; ports = ports; statements = statements }

abbrev pub circuit_with : List ℕ → List ModuleTree → CircuitTree
circuit_with name modules = record { line = 1; name = name; modules = modules }

-- local names
abbrev pub clock : Reference
clock = Local (codes "clock")

abbrev pub x : Reference
x = Local (codes "x")

abbrev pub y : Reference
y = Local (codes "y")

-- a port of the instance i
abbrev pub of_i : List ℕ → Reference
of_i port = PortOf (codes "i") port

-- a field of a port of the memory m
abbrev pub of_m : List ℕ → List ℕ → Reference
of_m port field = FieldOf (codes "m") port field

--      2    module C :
--      3      input clock : Clock
--      4      input a : UInt<8>
--      5      output b : UInt<8>
--      6      b <= a
abbrev pub child : ModuleTree
child = module_with 2 (codes "C") (input 3 (codes "clock") Clock ∷ (input 4 (codes "a") (UInt 8) ∷ (output 5 (codes "b") (UInt 8) ∷ []))) (connect 6 (Local (codes "b")) (Local (codes "a")) ∷ [])

--      7    module P :
--      8      input clock : Clock
--      9      input x : UInt<8>
--     10      output y : UInt<8>
abbrev pub parent_with : List Stmt → ModuleTree
parent_with statements = module_with 7 (codes "P") (input 8 (codes "clock") Clock ∷ (input 9 (codes "x") (UInt 8) ∷ (output 10 (codes "y") (UInt 8) ∷ []))) statements

--      1  circuit P :
abbrev pub family_with : List Stmt → CircuitTree
family_with statements = circuit_with (codes "P") (child ∷ (parent_with statements ∷ []))

--     11      inst i of C
abbrev pub inst_i : Stmt
inst_i = instance 11 (codes "i") (codes "C")

--     12      i.clock <= clock
--     13      i.a <= x
--     14      y <= i.b
abbrev pub wired : List Stmt
wired = connect 12 (of_i (codes "clock")) clock ∷ (connect 13 (of_i (codes "a")) x ∷ (connect 14 y (of_i (codes "b")) ∷ []))

-- the same circuit with a memory in place of the instance; the memory begins on line 11
abbrev pub field : ℕ → fields.MemoryField → Field
field line kind = record { line = line; kind = kind }

--     12      data-type => UInt<8>
--     13      depth => 4
--     14      read-latency => 0
--     15      write-latency => 1
abbrev pub sizes : List Field
sizes = field 12 (DataType (UInt 8)) ∷ (field 13 (Depth 4) ∷ (field 14 (ReadLatency 0) ∷ (field 15 (WriteLatency 1) ∷ [])))

--     16      writer => w
--     17      reader => r
abbrev pub ports_w_r : List Field
ports_w_r = field 16 (Writers (codes "w" ∷ [])) ∷ (field 17 (Readers (codes "r" ∷ [])) ∷ [])

abbrev pub mem_m : List Field → Stmt
mem_m fs = on 11 (Memory (codes "m") fs)

-- lines 18 to 20 connect the reader, lines 21 to 25 the writer
abbrev pub read : List Stmt
read = invalid 18 (of_m (codes "r") (codes "addr")) ∷ (invalid 19 (of_m (codes "r") (codes "en")) ∷ (connect 20 (of_m (codes "r") (codes "clk")) clock ∷ []))

abbrev pub write : List Stmt
write =
    invalid 21 (of_m (codes "w") (codes "addr")) ∷ (invalid 22 (of_m (codes "w") (codes "en")) ∷ (connect 23 (of_m (codes "w") (codes "clk")) clock
    ∷ (connect 24 (of_m (codes "w") (codes "data")) x ∷ (invalid 25 (of_m (codes "w") (codes "mask")) ∷ []))))

--     26      y <= m.r.data
abbrev pub answer : List Stmt
answer = connect 26 y (of_m (codes "r") (codes "data")) ∷ []

-- a circuit of one module, with a memory
abbrev pub store_with : List Stmt → CircuitTree
store_with statements = circuit_with (codes "P") (parent_with statements ∷ [])

abbrev pub store_of : List Field → CircuitTree
store_of fs = store_with (mem_m fs ∷ (read ++ (write ++ answer)))
