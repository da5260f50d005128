-- Why the bytes of a circuit file give no design: their fault of reading, or the first fault of the circuit that they spell.
-- Source: this program's own; what the faults are is defined in the crates that find them.
use Rattle.std.specs.Prelude.{◌≡◌, ◌≢◌, ℕ, List, Some, None, map, codes, ⊤}
use Rattle.gg_ast.specs.Tree.{CircuitTree}
use Rattle.gg_elab_sites.specs.declared.counts.Excess.{Excess}
use Rattle.gg_elab.specs.ElabText.{limit_of}
use Rattle.gg_elab_sites.specs.IsFlat.{IsFlat}
use Rattle.gg_flat.specs.Circuit.{FlatCircuit}
use Rattle.gg_flat_tree.specs.Tree.{path_at}
use Rattle.gg_order.specs.Loop.{IsToldLoop}
use Rattle.gg_read.specs.FaultText as reading
use Rattle.gg_read.specs.Text.{Spells, HasNoFaultLine, HasReadFault}
use Rattle.gg_read.specs.declared.text.ReadFault.TheVariants as unread
use Rattle.gg_shape.specs.FaultText as circuits
use Rattle.gg_shape_names.specs.Along.{first}
use Rattle.gg_shape.specs.Judged.{IsShaped, RefusesFrom}
use Rattle.gg_shape.specs.Shape.{named_faults}
use Rattle.gg_shape.specs.declared.fault.Fault.{Fault}
use Rattle.gg_shape.specs.declared.fault.Fault.TheVariants.{OverLimit, Loop}
use Rattle.gg_shape.specs.declared.fault.CheckFault.TheVariants.{F}
use Rattle.gg_types.specs.Types.{type_faults}
use Rattle.gg_front.specs.Accepted.{IsSound, excess_of}
use Rattle.gg_front.specs.declared.fault.FrontFault.{FrontFault}
use Rattle.gg_front.specs.declared.fault.FrontFault.TheVariants as front

-- a count above its limit, as it is reported
abbrev pub over_limit : Excess → Fault
over_limit excess = OverLimit (limit_of excess.measure) excess.count

-- The fault is F16 of a flat circuit: the paths of one of its combinational loops, beginning with the least.
pub record TellsLoop (flat : FlatCircuit) (fault : Fault) : Type 0 where
  pub signals : List ℕ
  pub loop : IsToldLoop flat signals
  pub fault_is : fault ≡ Loop (map (path_at flat.paths) signals)

-- The fault holds of the circuit and comes first: F1 to F8 come before F9 to F14, these before F15, and F15 before
-- F16. Any ring of modules and any loop may be reported. Every other first fault is the only one.
pub data IsFirstFault (circuit : CircuitTree) (fault : Fault) : Type 0 where
  OfShape : (told : RefusesFrom (named_faults circuit) circuit (F fault)) → IsFirstFault circuit fault
  OfTypes : (shaped : IsShaped circuit) (told : first (type_faults circuit) ≡ Some fault) → IsFirstFault circuit fault
  OfLimits : (sound : IsSound circuit) (excess : Excess) (over : excess_of circuit ≡ Some excess) (is : fault ≡ over_limit excess) → IsFirstFault circuit fault
  OfLoop : (sound : IsSound circuit) (within : excess_of circuit ≡ None) (flat : FlatCircuit) (flattened : IsFlat circuit flat) (told : TellsLoop flat fault) → IsFirstFault circuit fault

-- The text spells a circuit, no line of it is at fault, and this is the circuit's first fault.
pub record IsFaulty (text : List ℕ) (fault : Fault) : Type 0 where
  pub circuit : CircuitTree
  pub spelt : Spells text circuit
  pub faultless : HasNoFaultLine text
  pub told : IsFirstFault circuit fault

-- The text has this fault of reading, which isn't `ReadFault::NoMemory`; or the circuit that is read from it has this
-- fault, and no earlier one. `NoMemory` implies nothing about the bytes.
abbrev pub HasFrontFault : List ℕ → FrontFault → Type 0
HasFrontFault bytes (front.Read fault) = HasReadFault bytes fault × (fault ≢ unread.NoMemory)
HasFrontFault bytes (front.Fault fault) = IsFaulty bytes fault
HasFrontFault bytes front.NoMemory = ⊤

-- the text of a fault, as the program prints it after `golden: circuit: `
abbrev pub front_text : FrontFault → List ℕ
front_text (front.Read fault) = reading.fault_text fault
front_text (front.Fault fault) = circuits.fault_text fault
front_text front.NoMemory = codes "out of memory"
