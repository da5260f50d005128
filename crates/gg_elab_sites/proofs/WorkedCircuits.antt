-- A circuit by hand, and the signals and memories of its flat circuit:
--
--      1  circuit T :
--      2    module T :
--      3      input clk : Clock
--      4      output z : UInt<4>
--      5      inst a of C
--      6      inst b of C
--      7      mem t :
--      8        data-type => UInt<1>
--      9        depth => 1
--     10        read-latency => 0
--     11        write-latency => 1
--     12      a.clk <= clk
--     13      b.clk <= clk
--     14      a.x <= b.y
--     15      b.x <= a.y
--     16      z <= a.y
--     17    module C :
--     18      input clk : Clock
--     19      input x : UInt<4>
--     20      output y : UInt<4>
--     21      mem m :
--     22        data-type => UInt<4>
--     23        depth => 3
--     24        read-latency => 1
--     25        write-latency => 1
--     26        reader => r
--     27      m.r.addr is invalid
--     28      m.r.en <= x
--     29      m.r.clk <= clk
--     30      y <= m.r.data
use Rattle.std.proofs.Common.{◌≡◌, ℕ, zero, suc, List, [], ◌∷◌, length, map, Option, Some, codes, refl, sym, ap, subst, arith, lit≤, ◌++◌}
use Rattle.std.specs.Prelude.{Contains}
use Rattle.gg_bits.specs.declared.types.Kind.TheVariants as kinds
use Rattle.gg_bits.specs.declared.types.Ty.{Ty}
use Rattle.gg_bits.specs.Shape.{uint}
use Rattle.gg_ast.specs.declared.expression.Reference.{Reference}
use Rattle.gg_ast.specs.declared.expression.Reference.TheVariants as name
use Rattle.gg_ast.specs.declared.module.Direction.TheVariants as direction
use Rattle.gg_ast.specs.declared.module.GroundType.TheVariants as types
use Rattle.gg_ast.specs.declared.statement.Field.{Field}
use Rattle.gg_ast.specs.declared.statement.MemoryField.{MemoryField}
use Rattle.gg_ast.specs.declared.statement.MemoryField.TheVariants as field
use Rattle.gg_ast.specs.declared.statement.Stmt.{Stmt}
use Rattle.gg_ast.specs.declared.statement.StmtKind.{StmtKind}
use Rattle.gg_ast.specs.declared.statement.StmtKind.TheVariants as says
use Rattle.gg_ast.specs.Term.{NamedTerm}
use Rattle.gg_ast.specs.Tree.{ModuleTree, CircuitTree}
use Rattle.gg_flat.specs.declared.line.Node.{Node}
use Rattle.gg_flat.specs.declared.line.Op.TheVariants.{Ref}
use Rattle.gg_flat.specs.declared.memory.Latency.TheVariants.{One}
use Rattle.gg_flat.specs.declared.memory.UnderWrite.TheVariants.{Undefined}
use Rattle.gg_flat.specs.declared.piece.Driver.TheVariants.{Computed}
use Rattle.gg_flat.specs.Circuit.{FlatCircuit}
use Rattle.gg_flat.specs.Reads.{Names}
use Rattle.gg_elab_sites.specs.Sites.{sites_of}
use Rattle.gg_elab_sites.specs.Signals.{Types}
use Rattle.gg_elab_sites.specs.Connection.{Connection, ConnectedTo, Zeroed}
use Rattle.gg_elab_sites.specs.Flat.{Scope, Drive, Gets, Answers, FlatSignal, FlatMemory, flat_signals, flat_memories}
use Rattle.gg_elab_sites.specs.IsFlat.{IsFlatWith, IsComputed, bindings_of}
use Rattle.gg_elab_sites.specs.Meaning.{in_scope}

-- ---- the circuit

abbrev on : ℕ → StmtKind → Stmt
on line kind = record { line = line; kind = kind }

abbrev says_field : ℕ → MemoryField → Field
says_field line kind = record { line = line; kind = kind }

abbrev port_of : List ℕ → List ℕ → Reference
port_of a b = name.PortOf a b

abbrev connect : ℕ → Reference → Reference → Stmt
connect line sink source = on line (says.Connect sink (NamedTerm source))

abbrev field_of : List ℕ → Reference
field_of f = name.FieldOf (codes "m") (codes "r") f

abbrev parent : ModuleTree
parent =
    record {
      line = 2;
      name = codes "T";
      ports =
          record { line = 3; name = codes "clk"; direction = direction.Input; ty = types.Clock }
          ∷ record { line = 4; name = codes "z"; direction = direction.Output; ty = types.UInt 4 }
          ∷ [];
      statements =
          on 5 (says.Instance (codes "a") (codes "C"))
          ∷ on 6 (says.Instance (codes "b") (codes "C"))
          ∷ on 7 (says.Memory (codes "t") (says_field 8 (field.DataType (types.UInt 1)) ∷ says_field 9 (field.Depth 1) ∷ says_field 10 (field.ReadLatency 0) ∷ says_field 11 (field.WriteLatency 1) ∷ []))
          ∷ connect 12 (port_of (codes "a") (codes "clk")) (name.Local (codes "clk"))
          ∷ connect 13 (port_of (codes "b") (codes "clk")) (name.Local (codes "clk"))
          ∷ connect 14 (port_of (codes "a") (codes "x")) (port_of (codes "b") (codes "y"))
          ∷ connect 15 (port_of (codes "b") (codes "x")) (port_of (codes "a") (codes "y"))
          ∷ connect 16 (name.Local (codes "z")) (port_of (codes "a") (codes "y"))
          ∷ [];
    }

abbrev child : ModuleTree
child =
    record {
      line = 17;
      name = codes "C";
      ports =
          record { line = 18; name = codes "clk"; direction = direction.Input; ty = types.Clock }
          ∷ record { line = 19; name = codes "x"; direction = direction.Input; ty = types.UInt 4 }
          ∷ record { line = 20; name = codes "y"; direction = direction.Output; ty = types.UInt 4 }
          ∷ [];
      statements =
          on 21 (says.Memory (codes "m") (says_field 22 (field.DataType (types.UInt 4)) ∷ says_field 23 (field.Depth 3) ∷ says_field 24 (field.ReadLatency 1) ∷ says_field 25 (field.WriteLatency 1) ∷ says_field 26 (field.Readers (codes "r" ∷ [])) ∷ []))
          ∷ on 27 (says.Invalid (field_of (codes "addr")))
          ∷ connect 28 (field_of (codes "en")) (name.Local (codes "x"))
          ∷ connect 29 (field_of (codes "clk")) (name.Local (codes "clk"))
          ∷ connect 30 (name.Local (codes "y")) (field_of (codes "data"))
          ∷ [];
    }

abbrev circuit : CircuitTree
circuit = record { line = 1; name = codes "T"; modules = parent ∷ child ∷ [] }

-- each name is known, with the type UInt<4>
abbrev known : Types
known k r = Some (uint 4)

abbrev all : List FlatSignal
all = flat_signals known circuit.modules (sites_of circuit)

abbrev memories : List FlatMemory
memories = flat_memories circuit.modules (sites_of circuit)

-- ---- its signals: no Clock is a signal, and each of the two instances has its own

paths : map (λ (x : FlatSignal). x.path) all ≡ codes "z" ∷ codes "a.x" ∷ codes "a.y" ∷ codes "a.m.r.addr" ∷ codes "a.m.r.en" ∷ codes "a.m.r.data" ∷ codes "b.x" ∷ codes "b.y" ∷ codes "b.m.r.addr" ∷ codes "b.m.r.en" ∷ codes "b.m.r.data" ∷ []
paths = refl

shapes : map (λ (x : FlatSignal). x.shape) all ≡ uint 4 ∷ uint 4 ∷ uint 4 ∷ uint 2 ∷ uint 1 ∷ uint 4 ∷ uint 4 ∷ uint 4 ∷ uint 2 ∷ uint 1 ∷ uint 4 ∷ []
shapes = refl

-- ---- their drives: an instance's input is driven in the parent, all else in its own instance

abbrev at : List ℕ → ℕ → Scope
at path number = record { path = path; number = number }

abbrev to : Reference → Option Connection
to r = Some (ConnectedTo (NamedTerm r))

abbrev own_drives : List ℕ → List ℕ → List ℕ → List ℕ → List Drive
own_drives path memory addr en =
    Gets (at path 1) (to (field_of (codes "data")))
    ∷ Gets (at path 1) (Some Zeroed)
    ∷ Gets (at path 1) (to (name.Local (codes "x")))
    ∷ Answers memory 0 (One Undefined) addr en
    ∷ []

drives : map (λ (x : FlatSignal). x.drive) all ≡ Gets (at [] 0) (to (port_of (codes "a") (codes "y"))) ∷ Gets (at [] 0) (to (port_of (codes "b") (codes "y"))) ∷ (own_drives (codes "a") (codes "a.m") (codes "a.m.r.addr") (codes "a.m.r.en") ++ Gets (at [] 0) (to (port_of (codes "a") (codes "y"))) ∷ own_drives (codes "b") (codes "b.m") (codes "b.m.r.addr") (codes "b.m.r.en"))
drives = refl

-- ---- its memories: the parent's comes first, though its line comes after those of the instances

memory_paths : map (λ (x : FlatMemory). x.path) memories ≡ codes "t" ∷ codes "a.m" ∷ codes "b.m" ∷ []
memory_paths = refl

depths : map (λ (x : FlatMemory). x.bank.depth) memories ≡ 1 ∷ 3 ∷ 3 ∷ []
depths = refl

-- ---- what isn't a flat circuit of it

-- a circuit with twelve signals
one_too_many : (flat : FlatCircuit) → length flat.paths ≡ 12 → ¬ IsFlatWith known circuit flat
one_too_many flat count h =
    let eleven : length flat.paths ≡ 11 = ap (λ (l : List (List ℕ)). length l) h.paths in
    absurd (omega arith)

abbrev four : Ty
four = record { kind = kinds.UInt; width = 4; positive = lit≤ tt; bounded = lit≤ tt }

-- `a.x` can't be driven by the output of its own instance, signal 2, in place of that of the other, signal 7
pub own_instance : ¬ IsComputed (in_scope (bindings_of known all memories) (at [] 0)) (uint 4) (to (port_of (codes "b") (codes "y"))) (Computed (record { ty = four; op = Ref 2 } ∷ []))
own_instance h = other (Names-of h.line h.computed ((h.stands.names 7).1 refl))
  where
    Names-of : (line : List Node) → Computed (record { ty = four; op = Ref 2 } ∷ []) ≡ Computed line → Names line 7 → Contains (Ref 2 ∷ []) (Ref 7)
    Names-of line e n = let same : (record { ty = four; op = Ref 2 } ∷ []) ≡ line = cc in subst (λ (l : List Node). Names l 7) (sym same) n

    other : Contains (Ref 2 ∷ []) (Ref 7) → ⊥
    other (zero, lt, is) = cc
    other (suc k, lt, is) = omega arith
