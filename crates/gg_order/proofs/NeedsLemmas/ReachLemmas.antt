-- What a signal reaches.
use Rattle.std.proofs.Common.{ℕ, ◌<◌, List, [], ◌∷◌, ◌++◌, length, refl, sym, subst}
use Rattle.gg_flat.specs.Circuit.{FlatCircuit}
use Rattle.gg_flat.specs.Reads.{Reads, IsPath, Reaches}
use Rattle.gg_flat.specs.WellFormed.{IsWellFormed}
use Rattle.gg_order.proofs.ReadLemmas.{names_within}

pub Reaches-itself : (circuit : FlatCircuit) (a : ℕ) → Reaches circuit a a
Reaches-itself circuit a = record { path = []; reads = refl }

path-on : (circuit : FlatCircuit) (a : ℕ) (path : List ℕ) (b c : ℕ) → IsPath circuit a path b → Reads circuit b c → IsPath circuit a (path ++ c ∷ []) c
path-on circuit a [] b c is reads = (subst (λ (x : ℕ). Reads circuit x c) (sym is) reads, refl)
path-on circuit a (next ∷ path) b c is reads = (is.0, path-on circuit next path b c is.1 reads)

-- what is read by a signal that is reached is reached
pub Reaches-on : (circuit : FlatCircuit) (a b c : ℕ) → Reaches circuit a b → Reads circuit b c → Reaches circuit a c
Reaches-on circuit a b c to reads = record { path = to.path ++ c ∷ []; reads = path-on circuit a to.path b c to.reads reads }

along-path : (circuit : FlatCircuit) (P : ℕ → Type 0) → ((x y : ℕ) → P x → Reads circuit x y → P y) → (a : ℕ) (path : List ℕ) (b : ℕ) → P a → IsPath circuit a path b → P b
along-path circuit P closed a [] b at is = subst P is at
along-path circuit P closed a (next ∷ path) b at is = along-path circuit P closed next path b (closed a next at is.0) is.1

-- what holds of a signal, and of all that is read by a signal of which it holds, holds of all that the signal reaches
pub along-reaches : (circuit : FlatCircuit) (P : ℕ → Type 0) → ((x y : ℕ) → P x → Reads circuit x y → P y) → (a b : ℕ) → P a → Reaches circuit a b → P b
along-reaches circuit P closed a b at to = along-path circuit P closed a to.path b at to.reads

-- what a signal reaches is a signal of the circuit
pub Reaches-within : (circuit : FlatCircuit) (a b : ℕ) → IsWellFormed circuit → a < length circuit.signals → Reaches circuit a b → b < length circuit.signals
Reaches-within circuit a b formed known to =
    along-reaches circuit (λ (s : ℕ). s < length circuit.signals) (λ x y at reads. names_within circuit x y formed reads.signal reads.names) a b known to
