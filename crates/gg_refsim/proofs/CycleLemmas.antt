-- If a circuit has an order, there is one cycle from a state and inputs.
use Rattle.std.proofs.Common.{◌≡◌, ℕ, List, Bool, ◌++◌, length, take, drop, sym, ap, ◌∙◌, arith}
use Rattle.std.proofs.lemmas.List.{take-append-le, take_all}
use Rattle.gg_flat.specs.Circuit.{FlatCircuit}
use Rattle.gg_flat.specs.State.{State, next_state}
use Rattle.gg_flat.specs.Settled.{Settled}
use Rattle.gg_flat.specs.Order.{IsOrder}
use Rattle.gg_order.proofs.RunsLemmas.UniqueLemmas.{Settled-once}
use Rattle.gg_refsim.specs.Cycle.{Cycle, outputs}

pub Cycle-once : (edges : List Bool) (circuit : FlatCircuit) (order : List ℕ) (before : State) (inputs printed others : List ℕ) (after next : State) → IsOrder circuit order → Cycle edges circuit before inputs printed after → Cycle edges circuit before inputs others next → (printed ≡ others) × (after ≡ next)
Cycle-once edges circuit order before inputs printed others after next ordered one other =
    let same : one.row ≡ other.row = Settled-once circuit order before inputs one.row other.row ordered one.settled other.settled in (
      one.outputs_are ∙ ap (outputs circuit) same ∙ sym other.outputs_are,
      one.next ∙ ap (next_state edges circuit before) same ∙ sym other.next,
    )

-- a settled row, its outputs and its next state are a cycle
pub Cycle-of : (edges : List Bool) (circuit : FlatCircuit) (before : State) (inputs row printed : List ℕ) (after : State) → Settled circuit before inputs row → printed ≡ outputs circuit row → after ≡ next_state edges circuit before row → Cycle edges circuit before inputs printed after
Cycle-of edges circuit before inputs row printed after settled outputs_are next = record { row = row; settled = settled; outputs_are = outputs_are; next = next }

-- a list that is written over from start to end is the new list
pub written_whole : {A : Type 0} (n : ℕ) (new old : List A) → length new ≡ length old → n ≡ length new → take n (new ++ drop (length new) old) ≡ new
written_whole n new old same count =
    take-append-le n new (drop (length new) old) (omega arith) ∙ take_all n new (omega arith)
