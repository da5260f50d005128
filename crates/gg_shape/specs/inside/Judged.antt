-- More on Judged: what no promise of the program reaches.
-- Source: this program's own; what the faults are is defined in Shape, Rings and Memories.
use Rattle.std.specs.Prelude.{List, ◌++◌, Result, Ok, Err}
use Rattle.gg_ast.specs.Tree.{CircuitTree}
use Rattle.gg_shape.specs.declared.fault.Fault.{Fault}
use Rattle.gg_shape.specs.declared.fault.CheckFault.{CheckFault}
use Rattle.gg_shape.specs.declared.fault.CheckFault.TheVariants.{F, NoMemory}
use Rattle.gg_shape.specs.Rings.{HasNoRing, TellsRing}
use Rattle.gg_shape.specs.Shape.{named_faults, in_modules, unknown_names, second_connections, unconnected_sinks, connected_sources}
use Rattle.gg_shape.specs.Judged.{IsRight, RefusesFrom}

-- Ok if there is none of these faults, no ring and no wrong memory; otherwise a refusal as above
abbrev pub AnswersFrom : {A : Type 0} → List Fault → CircuitTree → Result A CheckFault → Type 0
AnswersFrom faults circuit (Ok _) = IsRight faults circuit
AnswersFrom faults circuit (Err refusal) = RefusesFrom faults circuit refusal

-- all of F1 to F8
abbrev pub AnswersShape : {A : Type 0} → CircuitTree → Result A CheckFault → Type 0
AnswersShape circuit result = AnswersFrom (named_faults circuit) circuit result

-- F3 to F6
abbrev pub reference_faults : CircuitTree → List Fault
reference_faults circuit =
    in_modules unknown_names circuit
    ++ (in_modules second_connections circuit
    ++ (in_modules unconnected_sinks circuit
    ++ in_modules connected_sources circuit))

-- a refusal for F7 reports a ring of the circuit; `NoMemory` has no cause in the circuit
abbrev pub RefusesRing : CircuitTree → CheckFault → Type 0
RefusesRing circuit (F fault) = TellsRing circuit fault
RefusesRing circuit NoMemory = Unit {0}

-- the check of rings returns Ok if there is no ring, and otherwise reports one
abbrev pub AnswersRing : {A : Type 0} → CircuitTree → Result A CheckFault → Type 0
AnswersRing circuit (Ok _) = HasNoRing circuit
AnswersRing circuit (Err refusal) = RefusesRing circuit refusal
