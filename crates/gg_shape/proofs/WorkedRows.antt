-- The faults of names and connections in small circuits, each with one mistake or two, and circuits without a mistake.
use Rattle.std.proofs.Common.{◌≡◌, [], ◌∷◌, ◌++◌, Some, codes, refl}
use Rattle.gg_ast.specs.declared.expression.Reference.TheVariants.{Local, PortOf}
use Rattle.gg_ast.specs.declared.module.GroundType.TheVariants.{UInt, Clock}
use Rattle.gg_ast.specs.declared.statement.MemoryField.TheVariants.{Readers, Writers}
use Rattle.gg_ast.specs.declared.statement.StmtKind.TheVariants.{Register}
use Rattle.gg_ast.specs.Term.{NamedTerm}
use Rattle.gg_shape.specs.declared.fault.Fault.TheVariants.{MissingTop, RepeatedName, UnknownName, SecondConnection, Unconnected, ConnectedSource}
use Rattle.gg_shape_names.specs.Along.{first}
use Rattle.gg_shape.specs.Shape.{named_faults}
use Rattle.gg_shape.proofs.WorkedCircuits.{on, input, output, connect, invalid, instance, module_with, circuit_with, clock, x, y, of_i, of_m, child, parent_with, family_with, inst_i, wired, field, sizes, ports_w_r, mem_m, read, write, answer, store_with, store_of}

right : named_faults (family_with (inst_i ∷ wired)) ≡ []
right = refl

right_memory : named_faults (store_of (sizes ++ ports_w_r)) ≡ []
right_memory = refl

-- ---- F1

no_top : named_faults (circuit_with (codes "Q") (child ∷ [])) ≡ MissingTop (codes "Q") ∷ []
no_top = refl

-- ---- F2

-- line 30 is a second module C
module_twice : named_faults (circuit_with (codes "P") (child ∷ (parent_with (inst_i ∷ wired) ∷ (module_with 30 (codes "C") [] [] ∷ [])))) ≡ RepeatedName 30 (codes "C") ∷ []
module_twice = refl

-- the instance has the name of a port
name_twice : first (named_faults (family_with (instance 11 (codes "x") (codes "C") ∷ []))) ≡ Some (RepeatedName 11 (codes "x"))
name_twice = refl

-- line 18 is `reader => r`: r is a reader already
reader_twice : named_faults (store_of (sizes ++ (ports_w_r ++ field 18 (Readers (codes "r" ∷ [])) ∷ []))) ≡ RepeatedName 18 (codes "r") ∷ []
reader_twice = refl

-- a writer on line 16 and a reader on line 17 with the same name: the later one is reported, though readers come first otherwise
reader_is_writer : first (named_faults (store_of (field 16 (Writers (codes "w" ∷ [])) ∷ (field 17 (Readers (codes "w" ∷ [])) ∷ [])))) ≡ Some (RepeatedName 17 (codes "w"))
reader_is_writer = refl

-- ---- F3

-- line 11 is `inst i of D`
no_module : first (named_faults (family_with (instance 11 (codes "i") (codes "D") ∷ wired))) ≡ Some (UnknownName 11 (codes "D"))
no_module = refl

-- line 14 is `y <= i.q`
no_port : named_faults (family_with (inst_i ∷ (connect 12 (of_i (codes "clock")) clock ∷ (connect 13 (of_i (codes "a")) x ∷ (connect 14 y (of_i (codes "q")) ∷ []))))) ≡ UnknownName 14 (codes "i.q") ∷ []
no_port = refl

-- the instance is below its use on line 10
instance_later : first (named_faults (family_with (connect 10 y (of_i (codes "b")) ∷ (inst_i ∷ wired)))) ≡ Some (UnknownName 10 (codes "i.b"))
instance_later = refl

-- an instance has no value of its own
instance_alone : first (named_faults (family_with (inst_i ∷ (connect 14 y (Local (codes "i")) ∷ [])))) ≡ Some (UnknownName 14 (codes "i"))
instance_alone = refl

-- x isn't an instance
port_of_port : first (named_faults (family_with (connect 11 y (PortOf (codes "x") (codes "b")) ∷ []))) ≡ Some (UnknownName 11 (codes "x.b"))
port_of_port = refl

-- line 27: a reader has no mask
no_mask : named_faults (store_with (mem_m (sizes ++ ports_w_r) ∷ (read ++ (write ++ (answer ++ invalid 27 (of_m (codes "r") (codes "mask")) ∷ []))))) ≡ UnknownName 27 (codes "m.r.mask") ∷ []
no_mask = refl

-- `m.r` alone, without a field, names nothing
port_alone : first (named_faults (store_with (mem_m (sizes ++ ports_w_r) ∷ (connect 26 y (PortOf (codes "m") (codes "r")) ∷ [])))) ≡ Some (UnknownName 26 (codes "m.r"))
port_alone = refl

-- a register is known in its own reset, but not in its clock
reset_knows : named_faults (store_with (on 11 (Register (codes "q") (UInt 8) (NamedTerm clock) (Some (record { line = 12; condition = NamedTerm x; init = NamedTerm (Local (codes "q")) }))) ∷ (connect 13 y x ∷ []))) ≡ []
reset_knows = refl

clock_knows_not : named_faults (store_with (on 11 (Register (codes "q") (UInt 8) (NamedTerm (Local (codes "q"))) (Some (record { line = 12; condition = NamedTerm x; init = NamedTerm x }))) ∷ (connect 13 y x ∷ []))) ≡ UnknownName 11 (codes "q") ∷ []
clock_knows_not = refl

-- ---- F4

input_twice : named_faults (family_with (inst_i ∷ (wired ++ invalid 15 (of_i (codes "a")) ∷ []))) ≡ SecondConnection 15 (codes "i.a") ∷ []
input_twice = refl

field_twice : named_faults (store_with (mem_m (sizes ++ ports_w_r) ∷ (read ++ (write ++ (answer ++ connect 27 (of_m (codes "w") (codes "data")) x ∷ []))))) ≡ SecondConnection 27 (codes "m.w.data") ∷ []
field_twice = refl

-- ---- F5

-- a Clock input of an instance needs a connection like any other; on one line, faults come in the order of the ports
clock_open : named_faults (family_with (inst_i ∷ (connect 14 y (of_i (codes "b")) ∷ []))) ≡ Unconnected 11 (codes "i.clock") ∷ Unconnected 11 (codes "i.a") ∷ []
clock_open = refl

-- readers come before writers, even if the writer's line is above
reader_first : first (named_faults (store_with (mem_m (sizes ++ ports_w_r) ∷ answer))) ≡ Some (Unconnected 11 (codes "m.r.addr"))
reader_first = refl

-- a writer has a mask, and its data is a sink; a reader's data isn't
mask_open : named_faults (store_with (mem_m (sizes ++ ports_w_r) ∷ (read ++ (invalid 21 (of_m (codes "w") (codes "addr")) ∷ (invalid 22 (of_m (codes "w") (codes "en")) ∷ (connect 23 (of_m (codes "w") (codes "clk")) clock ∷ answer))))))
    ≡ Unconnected 11 (codes "m.w.data") ∷ Unconnected 11 (codes "m.w.mask") ∷ []
mask_open = refl

-- ---- F6

output_connected : named_faults (family_with (inst_i ∷ (wired ++ connect 15 (of_i (codes "b")) x ∷ []))) ≡ ConnectedSource 15 (codes "i.b") ∷ []
output_connected = refl

data_connected : named_faults (store_with (mem_m (sizes ++ ports_w_r) ∷ (read ++ (write ++ (answer ++ connect 27 (of_m (codes "r") (codes "data")) x ∷ []))))) ≡ ConnectedSource 27 (codes "m.r.data") ∷ []
data_connected = refl

-- ---- two in one circuit, and modules that the top doesn't reach

-- F3 on line 14 comes before F5 on line 11
number_first : named_faults (family_with (inst_i ∷ (connect 12 (of_i (codes "clock")) clock ∷ (connect 14 y (of_i (codes "q")) ∷ [])))) ≡ UnknownName 14 (codes "i.q") ∷ Unconnected 11 (codes "i.a") ∷ []
number_first = refl

-- F5 in the first module comes before F5 in the third
module_first : named_faults (circuit_with (codes "P") (module_with 2 (codes "C") (input 3 (codes "clock") Clock ∷ (input 4 (codes "a") (UInt 8) ∷ (output 5 (codes "b") (UInt 8) ∷ []))) [] ∷ (parent_with (inst_i ∷ wired) ∷ (module_with 20 (codes "U") (output 21 (codes "z") (UInt 8) ∷ []) [] ∷ []))))
    ≡ Unconnected 5 (codes "b") ∷ Unconnected 21 (codes "z") ∷ []
module_first = refl

-- F5 in U, of which there is no instance
unreached : named_faults (circuit_with (codes "P") (child ∷ (parent_with (inst_i ∷ wired) ∷ (module_with 20 (codes "U") (output 21 (codes "z") (UInt 8) ∷ []) [] ∷ [])))) ≡ Unconnected 21 (codes "z") ∷ []
unreached = refl

-- ---- near misses

-- the output of an instance needs no connection
not_open : named_faults (family_with (inst_i ∷ wired)) ≡ Unconnected 11 (codes "i.b") ∷ [] → ⊥
not_open h = cc

-- a mask isn't a source
mask_no_source : named_faults (store_of (sizes ++ ports_w_r)) ≡ ConnectedSource 25 (codes "m.w.mask") ∷ [] → ⊥
mask_no_source h = cc

-- a module may be below the one that has an instance of it
later_module : named_faults (circuit_with (codes "P") (parent_with (inst_i ∷ wired) ∷ (child ∷ []))) ≡ UnknownName 11 (codes "C") ∷ [] → ⊥
later_module h = cc
