-- A circuit by hand: a memory, and two instances of one module that feed each other and have a memory each:
--
--      1  circuit P :
--      2    module C :
--      3      input clock : Clock
--      4      input i : UInt<1>
--      5      output o : UInt<1>
--      6      mem m :
--      7        data-type => UInt<1>
--      8        depth => 2
--      9        read-latency => 0
--     10        write-latency => 1
--     11        reader => r
--     12        writer => w
--     13      reg q : UInt<1>, clock
--     14      q <= i
--     15      m.r.addr <= q
--     16      m.r.en <= q
--     17      m.r.clk <= clock
--     18      m.w.addr <= q
--     19      m.w.en <= i
--     20      m.w.clk <= clock
--     21      m.w.data <= i
--     22      m.w.mask is invalid
--     23      o <= m.r.data
--     24    module P :
--     25      input clock : Clock
--     26      output z : UInt<3>
--     27      inst a of C
--     28      inst b of C
--     29      mem k :
--     30        data-type => UInt<3>
--     31        depth => 4
--     32        read-latency => 1
--     33        write-latency => 1
--     34        reader => r
--     35        read-under-write => new
--     36      a.clock <= clock
--     37      a.i <= b.o
--     38      b.clock <= clock
--     39      b.i <= a.o
--     40      k.r.addr <= a.o
--     41      k.r.en <= b.o
--     42      k.r.clk <= clock
--     43      z <= k.r.data
use Rattle.std.proofs.Common.{ℕ, List, [], ◌∷◌, None, codes}
use Rattle.gg_ast.specs.declared.expression.Reference.{Reference}
use Rattle.gg_ast.specs.declared.expression.Reference.TheVariants.{Local, PortOf, FieldOf}
use Rattle.gg_ast.specs.declared.module.Direction.TheVariants as direction
use Rattle.gg_ast.specs.declared.module.GroundType.TheVariants as types
use Rattle.gg_ast.specs.declared.statement.Field.{Field}
use Rattle.gg_ast.specs.declared.statement.MemoryField.TheVariants as fields
use Rattle.gg_ast.specs.declared.statement.ReadUnderWrite.TheVariants as under
use Rattle.gg_ast.specs.declared.statement.StmtKind.TheVariants as says
use Rattle.gg_ast.specs.Term.{NamedTerm}
use Rattle.gg_ast.specs.Tree.{ModuleTree, CircuitTree}
use Rattle.gg_elab_sites.proofs.WorkedParts.{on, port, field}

-- a field of the child's memory, and of the parent's
abbrev pub m : List ℕ → List ℕ → Reference
m port name = FieldOf (codes "m") port name

abbrev pub k : List ℕ → Reference
k name = FieldOf (codes "k") (codes "r") name

abbrev pub child_fields : List Field
child_fields =
    field 7 (fields.DataType (types.UInt 1))
    ∷ field 8 (fields.Depth 2)
    ∷ field 9 (fields.ReadLatency 0)
    ∷ field 10 (fields.WriteLatency 1)
    ∷ field 11 (fields.Readers (codes "r" ∷ []))
    ∷ field 12 (fields.Writers (codes "w" ∷ []))
    ∷ []

abbrev pub parent_fields : List Field
parent_fields =
    field 30 (fields.DataType (types.UInt 3))
    ∷ field 31 (fields.Depth 4)
    ∷ field 32 (fields.ReadLatency 1)
    ∷ field 33 (fields.WriteLatency 1)
    ∷ field 34 (fields.Readers (codes "r" ∷ []))
    ∷ field 35 (fields.ReadUnderWrite under.New)
    ∷ []

abbrev pub child : ModuleTree
child =
    record {
      line = 2;
      name = codes "C";
      ports =
          port 3 (codes "clock") direction.Input types.Clock
          ∷ port 4 (codes "i") direction.Input (types.UInt 1)
          ∷ port 5 (codes "o") direction.Output (types.UInt 1)
          ∷ [];
      statements =
          on 6 (says.Memory (codes "m") child_fields)
          ∷ on 13 (says.Register (codes "q") (types.UInt 1) (NamedTerm (Local (codes "clock"))) None)
          ∷ on 14 (says.Connect (Local (codes "q")) (NamedTerm (Local (codes "i"))))
          ∷ on 15 (says.Connect (m (codes "r") (codes "addr")) (NamedTerm (Local (codes "q"))))
          ∷ on 16 (says.Connect (m (codes "r") (codes "en")) (NamedTerm (Local (codes "q"))))
          ∷ on 17 (says.Connect (m (codes "r") (codes "clk")) (NamedTerm (Local (codes "clock"))))
          ∷ on 18 (says.Connect (m (codes "w") (codes "addr")) (NamedTerm (Local (codes "q"))))
          ∷ on 19 (says.Connect (m (codes "w") (codes "en")) (NamedTerm (Local (codes "i"))))
          ∷ on 20 (says.Connect (m (codes "w") (codes "clk")) (NamedTerm (Local (codes "clock"))))
          ∷ on 21 (says.Connect (m (codes "w") (codes "data")) (NamedTerm (Local (codes "i"))))
          ∷ on 22 (says.Invalid (m (codes "w") (codes "mask")))
          ∷ on 23 (says.Connect (Local (codes "o")) (NamedTerm (m (codes "r") (codes "data"))))
          ∷ [];
    }

abbrev pub parent : ModuleTree
parent =
    record {
      line = 24;
      name = codes "P";
      ports =
          port 25 (codes "clock") direction.Input types.Clock
          ∷ port 26 (codes "z") direction.Output (types.UInt 3)
          ∷ [];
      statements =
          on 27 (says.Instance (codes "a") (codes "C"))
          ∷ on 28 (says.Instance (codes "b") (codes "C"))
          ∷ on 29 (says.Memory (codes "k") parent_fields)
          ∷ on 36 (says.Connect (PortOf (codes "a") (codes "clock")) (NamedTerm (Local (codes "clock"))))
          ∷ on 37 (says.Connect (PortOf (codes "a") (codes "i")) (NamedTerm (PortOf (codes "b") (codes "o"))))
          ∷ on 38 (says.Connect (PortOf (codes "b") (codes "clock")) (NamedTerm (Local (codes "clock"))))
          ∷ on 39 (says.Connect (PortOf (codes "b") (codes "i")) (NamedTerm (PortOf (codes "a") (codes "o"))))
          ∷ on 40 (says.Connect (k (codes "addr")) (NamedTerm (PortOf (codes "a") (codes "o"))))
          ∷ on 41 (says.Connect (k (codes "en")) (NamedTerm (PortOf (codes "b") (codes "o"))))
          ∷ on 42 (says.Connect (k (codes "clk")) (NamedTerm (Local (codes "clock"))))
          ∷ on 43 (says.Connect (Local (codes "z")) (NamedTerm (k (codes "data"))))
          ∷ [];
    }

abbrev pub circuit : CircuitTree
circuit = record { line = 1; name = codes "P"; modules = child ∷ parent ∷ [] }
