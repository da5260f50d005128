-- More on Fault: what no promise of the program reaches.
-- Source: this program's own; what the faults are is defined in the crates that find them.
use Rattle.std.specs.Prelude.{◌≢◌, ℕ, List, ⊤}
use Rattle.gg_ast.specs.Tree.{CircuitTree}
use Rattle.gg_flat.specs.Circuit.{FlatCircuit}
use Rattle.gg_read.specs.Text.{HasReadFault}
use Rattle.gg_read.specs.declared.text.ReadFault.TheVariants as unread
use Rattle.gg_shape_names.specs.Along.{first}
use Rattle.gg_shape.specs.declared.fault.Fault.{Fault}
use Rattle.gg_shape.specs.declared.fault.CheckFault.{CheckFault}
use Rattle.gg_shape.specs.declared.fault.CheckFault.TheVariants as refusals
use Rattle.gg_shape.specs.declared.fault.CheckFault.TheVariants.{F}
use Rattle.gg_front.specs.declared.fault.FrontFault.{FrontFault}
use Rattle.gg_front.specs.declared.fault.FrontFault.TheVariants as front
use Rattle.gg_front.specs.Fault.{IsFirstFault, TellsLoop}

-- ---- parts of the front end

-- if it is a fault of a circuit, it is that circuit's first fault; it isn't a fault of reading
abbrev pub IfFirstFault : CircuitTree → FrontFault → Type 0
IfFirstFault circuit (front.Read fault) = ⊥
IfFirstFault circuit (front.Fault fault) = IsFirstFault circuit fault
IfFirstFault circuit front.NoMemory = ⊤

-- if it is a fault of a circuit, it is a loop of this flat circuit; it isn't a fault of reading
abbrev pub IfTellsLoop : FlatCircuit → FrontFault → Type 0
IfTellsLoop flat (front.Read fault) = ⊥
IfTellsLoop flat (front.Fault fault) = TellsLoop flat fault
IfTellsLoop flat front.NoMemory = ⊤

-- the fault of a check that refuses a circuit
abbrev pub fault_by : CheckFault → FrontFault
fault_by (F fault) = front.Fault fault
fault_by refusals.NoMemory = front.NoMemory

-- it is a fault of reading, or `NoMemory`
abbrev pub IsUnread : List ℕ → FrontFault → Type 0
IsUnread bytes (front.Read fault) = HasReadFault bytes fault × (fault ≢ unread.NoMemory)
IsUnread bytes (front.Fault fault) = ⊥
IsUnread bytes front.NoMemory = ⊤
