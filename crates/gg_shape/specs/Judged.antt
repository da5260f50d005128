-- What the check of a circuit's shape returns: Ok exactly if the circuit has none of the faults F1 to F8, and otherwise
-- a fault of the least number: for F1 to F6 and F8 the first in the text, for F7 any.
-- Source: this program's own; what the faults are is defined in Shape, Rings and Memories.
use Rattle.std.specs.Prelude.{◌≡◌, List, [], Some, ◌⊎◌}
use Rattle.gg_ast.specs.Tree.{CircuitTree}
use Rattle.gg_shape.specs.declared.fault.Fault.{Fault}
use Rattle.gg_shape.specs.declared.fault.CheckFault.{CheckFault}
use Rattle.gg_shape.specs.declared.fault.CheckFault.TheVariants.{F, NoMemory}
use Rattle.gg_shape_names.specs.Along.{first}
use Rattle.gg_shape.specs.Memories.{memory_faults}
use Rattle.gg_shape.specs.Rings.{HasNoRing, TellsRing}
use Rattle.gg_shape.specs.Shape.{named_faults}

-- none of the faults of a list, no ring, and no wrong memory
pub record IsRight (faults : List Fault) (circuit : CircuitTree) : Type 0 where
  pub named : faults ≡ []
  pub ringless : HasNoRing circuit
  pub memories : memory_faults circuit ≡ []

-- none of F1 to F8
abbrev pub IsShaped : CircuitTree → Type 0
IsShaped circuit = IsRight (named_faults circuit) circuit

-- none of the faults of the list, and a ring
pub record IsInRing (faults : List Fault) (circuit : CircuitTree) (fault : Fault) : Type 0 where
  pub named : faults ≡ []
  pub told : TellsRing circuit fault

-- none of the faults of the list, no ring, and a wrong memory
pub record IsOfMemory (faults : List Fault) (circuit : CircuitTree) (fault : Fault) : Type 0 where
  pub named : faults ≡ []
  pub ringless : HasNoRing circuit
  pub told : first (memory_faults circuit) ≡ Some fault

-- the first of the list, otherwise a ring, otherwise the first wrong memory; `NoMemory` says nothing of the faults
abbrev pub RefusesFrom : List Fault → CircuitTree → CheckFault → Type 0
RefusesFrom faults circuit (F fault) = (first faults ≡ Some fault) ⊎ (IsInRing faults circuit fault ⊎ IsOfMemory faults circuit fault)
RefusesFrom faults circuit NoMemory = Unit {0}
