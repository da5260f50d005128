-- A loop of a flat circuit: its signals, and the fault of the circuit that it shows.
use Rattle.std.proofs.Common.{◌≡◌, ℕ, ◌<◌, List, [], ◌∷◌, length, None, Result, Ok, Err, arith}
use Rattle.std.specs.Prelude.{IfErr}
use Rattle.std.specs.List.{All}
use Rattle.std.proofs.lemmas.List.Elements.{All-cons}
use Rattle.gg_ast.specs.Tree.{CircuitTree}
use Rattle.gg_elab_sites.specs.IsFlat.{IsFlat}
use Rattle.gg_flat.specs.Circuit.{FlatCircuit}
use Rattle.gg_flat.specs.Reads.{ReadsInTurn, IsLoop}
use Rattle.gg_order.specs.Design.{Ordered}
use Rattle.gg_front.specs.Accepted.{IsSound, excess_of}
use Rattle.gg_front.specs.inside.Fault.{IfFirstFault, IfTellsLoop}
use Rattle.gg_front.specs.Fault.{OfLoop}
use Rattle.gg_front.specs.declared.fault.FrontFault.{FrontFault}
use Rattle.gg_front.specs.declared.fault.FrontFault.TheVariants as front

-- ---- the signals of a loop

abbrev IsSignal : FlatCircuit → ℕ → Type 0
IsSignal circuit s = s < length circuit.signals

in-turn-known : (circuit : FlatCircuit) (first : ℕ) (signals : List ℕ) → ReadsInTurn circuit first signals → All (IsSignal circuit) signals
in-turn-known circuit first [] turn = absurd turn
in-turn-known circuit first (a ∷ []) turn = All-cons (IsSignal circuit) a [] turn.signal (λ k d lt. omega (arith, lt))
in-turn-known circuit first (a ∷ b ∷ rest) turn = All-cons (IsSignal circuit) a (b ∷ rest) turn.0.signal (in-turn-known circuit first (b ∷ rest) turn.1)

-- the signals of a loop are signals of the circuit
pub loop-known : (circuit : FlatCircuit) (loop : List ℕ) → IsLoop circuit loop → All (λ s. s < length circuit.signals) loop
loop-known circuit [] loop = absurd loop
loop-known circuit (first ∷ rest) loop = in-turn-known circuit first (first ∷ rest) loop.1

-- ---- the fault of the circuit

looped : (circuit : CircuitTree) (flat : FlatCircuit) (fault : FrontFault) → IsSound circuit → excess_of circuit ≡ None → IsFlat circuit flat → IfTellsLoop flat fault → IfFirstFault circuit fault
looped circuit flat (front.Read fault) sound within flattened told = told
looped circuit flat (front.Fault fault) sound within flattened told = OfLoop sound within flat flattened told
looped circuit flat front.NoMemory sound within flattened told = told

-- a loop of a flat circuit of a circuit is a first fault of that circuit, if it is sound and within the limits
pub refused-loop : (circuit : CircuitTree) (flat : FlatCircuit) (r : Result Ordered FrontFault) → IsSound circuit → excess_of circuit ≡ None → IsFlat circuit flat → IfErr r (IfTellsLoop flat) → IfErr r (IfFirstFault circuit)
refused-loop circuit flat (Ok design) sound within flattened told = told
refused-loop circuit flat (Err fault) sound within flattened told = looped circuit flat fault sound within flattened told
