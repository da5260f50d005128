-- More on FaultText: what no promise of the program reaches.
use Rattle.std.specs.Prelude.{ℕ, List, codes}
use Rattle.gg_shape.specs.declared.fault.CheckFault.{CheckFault}
use Rattle.gg_shape.specs.declared.fault.CheckFault.TheVariants as refusals
use Rattle.gg_shape.specs.FaultText.{fault_text}

-- ---- faults

-- the text of a check's error
abbrev pub refusal_text : CheckFault → List ℕ
refusal_text (refusals.F fault) = fault_text fault
refusal_text refusals.NoMemory = codes "out of memory"
