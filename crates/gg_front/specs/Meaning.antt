-- What the bytes of a circuit file mean: a flat circuit, and a design: the flat circuit with the tree of the instances
-- and an order. The bytes mean at most one flat circuit and one tree.
-- Source: FIRRTL Specification, as the crates cite it that read, check and flatten a circuit.
use Rattle.std.specs.Prelude.{◌≡◌, ℕ, List}
use Rattle.gg_elab_sites.specs.IsFlat.{IsFlat}
use Rattle.gg_elab_tree.specs.IsTreeOf.{IsTreeOf}
use Rattle.gg_flat.specs.Circuit.{FlatCircuit}
use Rattle.gg_flat.specs.Run.{IsColumns, IsRun}
use Rattle.gg_flat.specs.WellFormed.{IsWellFormed}
use Rattle.gg_order.specs.Design.{Ordered}
use Rattle.gg_front.specs.Accepted.{IsAcceptedText}

-- The bytes spell an accepted circuit, and the flat circuit is a well-formed one of it.
pub record Means (bytes : List ℕ) (flat : FlatCircuit) : Type 0 where
  pub text : IsAcceptedText bytes
  pub flattened : IsFlat text.circuit flat
  pub formed : IsWellFormed flat

-- The bytes mean the design's flat circuit, and its tree is the tree of the circuit that they spell. The order is left open.
pub record MeansDesign (bytes : List ℕ) (design : Ordered) : Type 0 where
  pub means : Means bytes design.circuit
  pub grown : IsTreeOf means.text.circuit design.tree

-- The circuit has exactly one run of n cycles on these columns of inputs.
pub record HasOneRun (flat : FlatCircuit) (columns : List (List ℕ)) (n : ℕ) : Type 0 where
  pub rows : List (List ℕ)
  pub run : IsRun flat columns n rows
  pub only : (others : List (List ℕ)) → IsRun flat columns n others → others ≡ rows

-- The bytes mean exactly one flat circuit, and on any columns of inputs that it can get it has exactly one run.
pub record MeansOne (bytes : List ℕ) : Type 0 where
  pub flat : FlatCircuit
  pub means : Means bytes flat
  pub only : (other : FlatCircuit) → Means bytes other → other ≡ flat
  pub runs : (columns : List (List ℕ)) (n : ℕ) → IsColumns flat n columns → HasOneRun flat columns n
