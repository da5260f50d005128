-- The design that the bytes of a text mean.
use Rattle.std.proofs.Common.{◌≡◌, ℕ, List, None, Result, Ok, Err, sym, subst}
use Rattle.std.specs.Prelude.{IfOk}
use Rattle.gg_ast.specs.Tree.{CircuitTree}
use Rattle.gg_elab_sites.specs.IsFlat.{IsFlat}
use Rattle.gg_elab_tree.specs.IsTreeOf.{IsTreeOf}
use Rattle.gg_flat.specs.Circuit.{FlatCircuit}
use Rattle.gg_flat.specs.Reads.{IsLoop}
use Rattle.gg_flat_tree.specs.Tree.{InstanceTree}
use Rattle.gg_flat.specs.WellFormed.{IsWellFormed}
use Rattle.gg_order.specs.Design.{Ordered}
use Rattle.gg_read.specs.Text.{Spells, HasNoFaultLine}
use Rattle.gg_front.specs.Accepted.{IsSound, IsAccepted, excess_of}
use Rattle.gg_front.specs.Meaning.{MeansDesign}

-- if the bytes spell an accepted circuit, a well-formed flat circuit of it with its tree is a design that the bytes mean
pub means-ok : {E : Type 0} (bytes : List ℕ) (circuit : CircuitTree) (r : Result Ordered E) → Spells bytes circuit → HasNoFaultLine bytes
    → IfOk r (λ design. IsAccepted circuit) → IfOk r (λ design. IsFlat circuit design.circuit) → IfOk r (λ design. IsWellFormed design.circuit)
    → IfOk r (λ design. IsTreeOf circuit design.tree) → IfOk r (λ design. MeansDesign bytes design)
means-ok bytes circuit (Ok design) spelt faultless accepted flat formed grown = record {
  means = record {
    text = record { circuit = circuit; spelt = spelt; faultless = faultless; accepted = accepted };
    flattened = flat;
    formed = formed;
  };
  grown = grown;
}
means-ok bytes circuit (Err fault) spelt faultless accepted flat formed grown = formed

-- ---- the design of an accepted circuit

-- a sound circuit within the limits is accepted if its one flat circuit has no combinational loop
pub accepted-ok : {E : Type 0} (circuit : CircuitTree) (flat : FlatCircuit) (r : Result Ordered E) → ((one other : FlatCircuit) → IsFlat circuit one → IsFlat circuit other → one ≡ other)
    → IsSound circuit → excess_of circuit ≡ None → IsFlat circuit flat → IfOk r (λ design. (loop : List ℕ) → ¬ IsLoop flat loop) → IfOk r (λ design. IsAccepted circuit)
accepted-ok circuit flat (Ok design) same sound within is free = record {
  sound = sound;
  within = within;
  free = λ other also loop looped. free loop (subst (λ (f : FlatCircuit). IsLoop f loop) (same other flat also is) looped);
}
accepted-ok circuit flat (Err fault) same sound within is free = tt

-- what holds of the flat circuit and of the tree that a design is made of holds of those of the design
pub made-ok : {E : Type 0} (P : FlatCircuit → InstanceTree → Type 0) (flat : FlatCircuit) (tree : InstanceTree) (r : Result Ordered E) → P flat tree
    → IfOk r (λ design. design.circuit ≡ flat) → IfOk r (λ design. design.tree ≡ tree) → IfOk r (λ design. P design.circuit design.tree)
made-ok P flat tree (Ok design) h circuit grown = subst (λ (f : FlatCircuit). P f design.tree) (sym circuit) (subst (P flat) (sym grown) h)
made-ok P flat tree (Err fault) h circuit grown = tt
