-- Accepted circuits: they have no static fault, are within the limits and have no combinational loop.
-- Source: FIRRTL Specification, for each fault as it is named in the crates that have it, and "Combinational Loops". The limits are this
-- program's own.
use Rattle.std.specs.Prelude.{◌≡◌, List, [], ℕ, Option, None}
use Rattle.gg_ast.specs.Places.{place_of}
use Rattle.gg_ast.specs.Tree.{CircuitTree, module_names}
use Rattle.gg_elab_sites.specs.declared.counts.Excess.{Excess}
use Rattle.gg_elab_sites.specs.IsFlat.{IsFlat}
use Rattle.gg_elab_sites.specs.Known.{types_of}
use Rattle.gg_elab.specs.Limits.{excess_over}
use Rattle.gg_flat.specs.Circuit.{FlatCircuit}
use Rattle.gg_flat.specs.Reads.{IsLoop}
use Rattle.gg_read.specs.Text.{Spells, HasNoFaultLine}
use Rattle.gg_shape.specs.Judged.{IsShaped}
use Rattle.gg_types.specs.Types.{type_faults}

-- none of the faults F1 to F8, and none of F9 to F14
pub record IsSound (circuit : CircuitTree) : Type 0 where
  pub shaped : IsShaped circuit
  pub typed : type_faults circuit ≡ []

-- F15: the first count above its limit, if any
abbrev pub excess_of : CircuitTree → Option Excess
excess_of circuit = excess_over (types_of circuit) circuit.modules (place_of circuit.name (module_names circuit))

-- F16: no flat circuit of the circuit has a combinational loop
abbrev pub HasNoLoop : CircuitTree → Type 0
HasNoLoop circuit = (flat : FlatCircuit) → IsFlat circuit flat → (loop : List ℕ) → ¬ IsLoop flat loop

-- The circuit has none of the sixteen faults.
pub record IsAccepted (circuit : CircuitTree) : Type 0 where
  -- none of F1 to F14
  pub sound : IsSound circuit
  -- no F15
  pub within : excess_of circuit ≡ None
  -- no F16
  pub free : HasNoLoop circuit

-- The text spells a circuit, no line of it is at fault, and the circuit is accepted.
pub record IsAcceptedText (text : List ℕ) : Type 0 where
  pub circuit : CircuitTree
  pub spelt : Spells text circuit
  pub faultless : HasNoFaultLine text
  pub accepted : IsAccepted circuit
