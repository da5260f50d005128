-- More on Faults: what no promise of the program reaches.
-- Source: this program's own.
use Rattle.std.specs.Prelude.{◌≡◌, List, [], Some, Result, Ok, Err}
use Rattle.gg_shape_names.specs.Along.{first}
use Rattle.gg_shape.specs.declared.fault.Fault.{Fault}
use Rattle.gg_shape.specs.declared.fault.CheckFault.{CheckFault}
use Rattle.gg_shape.specs.declared.fault.CheckFault.TheVariants.{F, NoMemory}

-- a refusal is the first fault; `NoMemory` says nothing of the faults
abbrev pub Refuses : List Fault → CheckFault → Type 0
Refuses faults (F fault) = first faults ≡ Some fault
Refuses faults NoMemory = Unit {0}

-- what a check returns: Ok exactly if there is no fault, otherwise the first
abbrev pub Answers : {A : Type 0} → List Fault → Result A CheckFault → Type 0
Answers faults (Ok _) = faults ≡ []
Answers faults (Err refusal) = Refuses faults refusal
