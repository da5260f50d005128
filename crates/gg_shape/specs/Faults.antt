-- What a check returns, given the faults in the order of the text.
-- Source: this program's own.
use Rattle.std.specs.Prelude.{Bool, true, false, List, [], ◌∷◌}
use Rattle.gg_shape.specs.declared.fault.Fault.{Fault}

-- the fault, if the test is true
abbrev pub fault_if : Bool → Fault → List Fault
fault_if true fault = fault ∷ []
fault_if false fault = []
