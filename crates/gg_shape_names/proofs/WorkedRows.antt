-- What can be written in small modules, and which names come twice.
--
--      1  circuit P :
--      2    module C :
--      3      input clock : Clock
--      4      output b : UInt<8>
--      5    module P :
--      6      input x : UInt<8>
--      7      inst i of C
--      8      mem m :
--      9        writer => w
--     10        reader => r
--     11      wire n : UInt<8>
use Rattle.std.proofs.Common.{◌≡◌, ℕ, List, [], ◌∷◌, Some, None, codes, refl, false, ◌<◌, take, inl, inr, arith, lit<}
use Rattle.std.specs.Prelude.{◌⊎◌, Contains, flat_map}
use Rattle.gg_ast.specs.declared.expression.Reference.{Reference}
use Rattle.gg_ast.specs.declared.expression.Reference.TheVariants.{Local, PortOf, FieldOf}
use Rattle.gg_ast.specs.declared.module.Direction.TheVariants.{Input, Output}
use Rattle.gg_ast.specs.declared.module.GroundType.TheVariants.{UInt, Clock}
use Rattle.gg_ast.specs.declared.module.Port.{Port}
use Rattle.gg_ast.specs.declared.statement.MemoryField.TheVariants.{Readers, Writers}
use Rattle.gg_ast.specs.declared.statement.Stmt.{Stmt}
use Rattle.gg_ast.specs.declared.statement.StmtKind.{StmtKind}
use Rattle.gg_ast.specs.declared.statement.StmtKind.TheVariants as statement
use Rattle.gg_ast.specs.Tree.{ModuleTree, CircuitTree}
use Rattle.gg_shape_names.specs.declared.role.Role.TheVariants.{InputPort, OutputPort, Wire, Instance, Memory, InstanceInput, InstanceOutput, MemoryPort}
use Rattle.gg_shape_names.specs.declared.role.PortKind.TheVariants.{Reader, Writer}
use Rattle.gg_shape_names.specs.declared.role.PortField.TheVariants.{Addr, En, Clk, Data, Mask}
use Rattle.gg_shape_names.specs.Modules.{held_by}
use Rattle.gg_shape_names.specs.Namespace.{scope_of, scope_after, meaning_of, is_sink, is_source}
use Rattle.gg_shape_names.specs.inside.Namespace.{names_in}
use Rattle.gg_shape_names.specs.Repetitions.{repetitions}
use Rattle.gg_shape_names.specs.Scope.{written}

abbrev on : ℕ → StmtKind → Stmt
on line kind = record { line = line; kind = kind }

abbrev child : ModuleTree
child = record {
  line = 2;
  name = codes "C";
  ports = record { line = 3; name = codes "clock"; direction = Input; ty = Clock } ∷ (record { line = 4; name = codes "b"; direction = Output; ty = UInt 8 } ∷ []);
  statements = [];
}

abbrev x : Port
x = record { line = 6; name = codes "x"; direction = Input; ty = UInt 8 }

abbrev inst_i : Stmt
inst_i = on 7 (statement.Instance (codes "i") (codes "C"))

-- the writer's line is above the reader's
abbrev mem_m : Stmt
mem_m = on 8 (statement.Memory (codes "m") (record { line = 9; kind = Writers (codes "w" ∷ []) } ∷ (record { line = 10; kind = Readers (codes "r" ∷ []) } ∷ [])))

abbrev wire_n : Stmt
wire_n = on 11 (statement.Wire (codes "n") (UInt 8))

abbrev parent_with : List Stmt → ModuleTree
parent_with statements = record { line = 5; name = codes "P"; ports = x ∷ []; statements = statements }

abbrev circuit_with : List Stmt → CircuitTree
circuit_with statements = record { line = 1; name = codes "P"; modules = child ∷ (parent_with statements ∷ []) }

abbrev modules : List ModuleTree
modules = child ∷ []

abbrev field : List ℕ → List ℕ → Reference
field port name = FieldOf (codes "m") port name

-- ---- scopes

-- all that can be written, in the order of the file; the readers of a memory come before its writers
whole : scope_of modules (parent_with (inst_i ∷ (mem_m ∷ (wire_n ∷ []))))
    ≡ (Local (codes "x"), InputPort)
    ∷ (Local (codes "i"), Instance) ∷ (PortOf (codes "i") (codes "clock"), InstanceInput Clock) ∷ (PortOf (codes "i") (codes "b"), InstanceOutput (UInt 8))
    ∷ (Local (codes "m"), Memory)
    ∷ (field (codes "r") (codes "addr"), MemoryPort Reader Addr) ∷ (field (codes "r") (codes "en"), MemoryPort Reader En)
    ∷ (field (codes "r") (codes "clk"), MemoryPort Reader Clk) ∷ (field (codes "r") (codes "data"), MemoryPort Reader Data)
    ∷ (field (codes "w") (codes "addr"), MemoryPort Writer Addr) ∷ (field (codes "w") (codes "en"), MemoryPort Writer En)
    ∷ (field (codes "w") (codes "clk"), MemoryPort Writer Clk) ∷ (field (codes "w") (codes "data"), MemoryPort Writer Data)
    ∷ (field (codes "w") (codes "mask"), MemoryPort Writer Mask)
    ∷ (Local (codes "n"), Wire) ∷ []
whole = refl

names : names_in (parent_with (inst_i ∷ (mem_m ∷ (wire_n ∷ [])))) ≡ codes "x" ∷ codes "i" ∷ codes "m" ∷ codes "n" ∷ []
names = refl

text : written (field (codes "r") (codes "addr")) ≡ codes "m.r.addr"
text = refl

-- before the wire's line the wire isn't there
before : meaning_of (scope_after modules (x ∷ []) (inst_i ∷ (mem_m ∷ []))) (Local (codes "n")) ≡ None
before = refl

-- if no module has the name, the instance has no ports
no_module : scope_of [] (parent_with (inst_i ∷ [])) ≡ (Local (codes "x"), InputPort) ∷ (Local (codes "i"), Instance) ∷ []
no_module = refl

-- a reader has no mask
no_mask : meaning_of (scope_of modules (parent_with (mem_m ∷ []))) (field (codes "r") (codes "mask")) ≡ None
no_mask = refl

-- In the module that holds it, an instance's input is a sink and its output a source; in the instance's own module it is the
-- other way round.
inputs_turn : is_sink (Some (InstanceInput Clock)) ≡ is_sink (Some OutputPort)
inputs_turn = refl

outputs_turn : is_source (Some (InstanceOutput Clock)) ≡ is_source (Some InputPort)
outputs_turn = refl

-- ---- repetitions

none : repetitions (circuit_with (inst_i ∷ (mem_m ∷ (wire_n ∷ [])))) ≡ []
none = refl

-- line 12 is `wire x : UInt<8>`, line 13 `inst m of C`
two_names : repetitions (circuit_with (inst_i ∷ (mem_m ∷ (on 12 (statement.Wire (codes "x") (UInt 8)) ∷ (on 13 (statement.Instance (codes "m") (codes "C")) ∷ [])))))
    ≡ record { line = 12; name = codes "x" } ∷ record { line = 13; name = codes "m" } ∷ []
two_names = refl

-- a memory with a writer r on line 9 and a reader r on line 10: readers and writers share one namespace
two_ports : repetitions (circuit_with (on 8 (statement.Memory (codes "m") (record { line = 9; kind = Writers (codes "r" ∷ []) } ∷ (record { line = 10; kind = Readers (codes "q" ∷ codes "r" ∷ []) } ∷ []))) ∷ []))
    ≡ record { line = 10; name = codes "r" } ∷ []
two_ports = refl

-- a port of a memory may have the name of the memory, or of anything else in the module
apart : repetitions (circuit_with (wire_n ∷ (on 12 (statement.Memory (codes "m") (record { line = 13; kind = Readers (codes "m" ∷ codes "n" ∷ []) } ∷ [])) ∷ []))) ≡ []
apart = refl

-- ---- modules

-- C is at place 0; a module that isn't there has no place
holds : held_by (child ∷ []) inst_i ≡ 0 ∷ []
holds = refl

holds_none : held_by [] inst_i ≡ []
holds_none = refl

-- ---- near misses

-- a memory's port alone can't be written: `m.r` names nothing
port_alone : meaning_of (scope_of modules (parent_with (mem_m ∷ []))) (PortOf (codes "m") (codes "r")) ≡ None
port_alone = refl

-- the data of a writer is given to the memory: `m.w.data` is no source
data_no_source : is_source (meaning_of (scope_of modules (parent_with (mem_m ∷ []))) (field (codes "w") (codes "data"))) ≡ false
data_no_source = refl

-- ---- instances that are found one after another

-- two modules, and an instance of each
abbrev each : List ModuleTree
each = child ∷ parent_with [] ∷ []

abbrev instances : List Stmt
instances = inst_i ∷ on 8 (statement.Instance (codes "k") (codes "P")) ∷ []

held_each : flat_map (held_by each) instances ≡ 0 ∷ 1 ∷ []
held_each = refl

-- what is looked at next after the first instance is the second, which isn't passed over
not_passed : ((j : ℕ) → Contains (flat_map (held_by each) (take 2 instances)) j → Contains (flat_map (held_by each) (take 0 instances)) j ⊎ (j ≡ 0)) → ⊥
not_passed first = elim (first 1 (1, lit< tt, refl)) [ inl none ↦ (let never : none.0 < 0 = none.1 in absurd (omega (arith, never))) | inr same ↦ absurd (omega (arith, same)) ]
