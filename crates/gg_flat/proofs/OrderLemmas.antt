-- What an order says of the signals before a place, and why a circuit that has an order has no loop.
use Rattle.std.proofs.Common.{◌≡◌, ℕ, ◌<◌, List, [], ◌∷◌, length, take, sym, ◌∙◌, subst, arith}
use Rattle.std.specs.Prelude.{Contains}
use Rattle.std.proofs.lemmas.List.{get_or-take, get_or_default, length-take}
use Rattle.gg_flat.specs.Line.{value_at}
use Rattle.gg_flat.specs.Circuit.{FlatCircuit}
use Rattle.gg_flat.specs.Reads.{Reads, ReadsInTurn, IsLoop}
use Rattle.gg_flat.specs.Order.{IsOrder}

-- signal s stands in the order at a place before i
pub record StandsBefore (order : List ℕ) (i s : ℕ) : Type 0 where
  pub place : ℕ
  pub before : place < i
  pub within : place < length order
  pub is : value_at order place ≡ s

pub stands-before : (order : List ℕ) (i s : ℕ) → Contains (take i order) s → StandsBefore order i s
stands-before order i s found =
    let before : found.0 < i = omega (arith, found.1, length-take i order) in
    let within : found.0 < length order = omega (arith, found.1, length-take i order) in
    record {
      place = found.0;
      before = before;
      within = within;
      is = get_or_default order found.0 0 s within ∙ sym (get_or-take i order found.0 s before) ∙ found.2;
    }

-- what the signal at place i reads stands before i
pub read-before : (circuit : FlatCircuit) (order : List ℕ) (i a s : ℕ) → IsOrder circuit order → i < length order → value_at order i ≡ a → Reads circuit a s → StandsBefore order i s
read-before circuit order i a s o lt at reads =
    stands-before order i s (o.after i s lt (subst (λ x. Reads circuit x s) (sym at) reads))

-- if signals read each other in turn, from the one at place i on, the last one that is read stands before i
pub turn-before : (circuit : FlatCircuit) (order : List ℕ) (i a : ℕ) (rest : List ℕ) (first : ℕ) → IsOrder circuit order → i < length order → value_at order i ≡ a → ReadsInTurn circuit first (a ∷ rest) → StandsBefore order i first
turn-before circuit order i a [] first o lt at turn = read-before circuit order i a first o lt at turn
turn-before circuit order i a (b ∷ rest) first o lt at turn =
    let next = read-before circuit order i a b o lt at turn.0 in
    let last = turn-before circuit order next.place b rest first o next.within next.is turn.1 in
    record { place = last.place; before = omega (arith, last.before, next.before); within = last.within; is = last.is }

-- the place of a signal in the order
pub place-of : (circuit : FlatCircuit) (order : List ℕ) (s : ℕ) → IsOrder circuit order → s < length circuit.signals → StandsBefore order (length order) s
place-of circuit order s o lt =
    let found = o.every s lt in
    record { place = found.0; before = found.1; within = found.1; is = get_or_default order found.0 0 s found.1 ∙ found.2 }

-- a signal that stands at place i does not stand before it
pub not-before : (circuit : FlatCircuit) (order : List ℕ) (i s : ℕ) → IsOrder circuit order → i < length order → value_at order i ≡ s → StandsBefore order i s → ⊥
not-before circuit order i s o lt at earlier = o.once earlier.place i 0 earlier.before lt (earlier.is ∙ sym at)

-- no signal reads itself in turn, if there is an order
no-turn : (circuit : FlatCircuit) (order : List ℕ) (first : ℕ) (rest : List ℕ) → IsOrder circuit order → first < length circuit.signals → ReadsInTurn circuit first (first ∷ rest) → ⊥
no-turn circuit order first rest o known turn =
    let at = place-of circuit order first o known in
    not-before circuit order at.place first o at.within at.is (turn-before circuit order at.place first rest first o at.within at.is turn)

-- a circuit that has an order has no loop
pub IsLoop-none : (circuit : FlatCircuit) (order loop : List ℕ) → IsOrder circuit order → IsLoop circuit loop → ⊥
IsLoop-none circuit order [] o loop = loop
IsLoop-none circuit order (first ∷ []) o loop = no-turn circuit order first [] o loop.1.signal loop.1
IsLoop-none circuit order (first ∷ b ∷ rest) o loop = no-turn circuit order first (b ∷ rest) o loop.1.0.signal loop.1
