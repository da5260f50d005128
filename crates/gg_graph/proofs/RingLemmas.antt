-- Why a graph that has an order has no ring, and how the end of a path is a ring.
use Rattle.std.proofs.Common.{◌≡◌, ◌≢◌, ℕ, zero, suc, ◌+◌, ◌<◌, List, [], ◌∷◌, ◌++◌, length, get_or, take, drop, sym, ap, ◌∙◌, subst, arith, length-append, length-drop}
use Rattle.std.specs.Prelude.{Contains, AllPairs}
use Rattle.std.proofs.lemmas.List.{get_or-take, get_or_default, get_or-drop, length-take, drop_more, drop-append-le}
use Rattle.gg_graph.specs.Graph.{node_at, GoesTo, GoesRound, IsRing}
use Rattle.gg_graph.specs.inside.Graph.{IsOrderOf}
use Rattle.gg_graph.specs.inside.Walk.{IsChain}

-- ---- along an order

-- node s is in the order at a place before i
record StandsBefore (order : List ℕ) (i s : ℕ) : Type 0 where
  place : ℕ
  before : place < i
  within : place < length order
  is : node_at order place ≡ s

stands-before : (order : List ℕ) (i s : ℕ) → Contains (take i order) s → StandsBefore order i s
stands-before order i s found =
    let before : found.0 < i = omega (arith, found.1, length-take i order) in
    let within : found.0 < length order = omega (arith, found.1, length-take i order) in
    record {
      place = found.0;
      before = before;
      within = within;
      is = get_or_default order found.0 0 s within ∙ sym (get_or-take i order found.0 s before) ∙ found.2;
    }

-- a target of the node at place i is at a place before i
target-before : (Edge : ℕ → ℕ → Type 0) (count : ℕ) (order : List ℕ) (i s t : ℕ) → IsOrderOf Edge count order → i < length order → node_at order i ≡ s → Edge s t → StandsBefore order i t
target-before Edge count order i s t o lt at edge =
    stands-before order i t (o.after i t lt (subst (λ x. Edge x t) (sym at) edge))

-- if a list goes on to a node, beginning with the one at place i, that node is at a place before i
goes-before : (Edge : ℕ → ℕ → Type 0) (count : ℕ) (order : List ℕ) (i a : ℕ) (rest : List ℕ) (first : ℕ) → IsOrderOf Edge count order → i < length order → node_at order i ≡ a → GoesTo Edge first (a ∷ rest) → StandsBefore order i first
goes-before Edge count order i a [] first o lt at goes = target-before Edge count order i a first o lt at goes
goes-before Edge count order i a (b ∷ rest) first o lt at goes =
    let next = target-before Edge count order i a b o lt at goes.0 in
    let last = goes-before Edge count order next.place b rest first o next.within next.is goes.1 in
    record { place = last.place; before = omega (arith, last.before, next.before); within = last.within; is = last.is }

-- a node of the graph has a place in the order
place-of : (Edge : ℕ → ℕ → Type 0) (count : ℕ) (order : List ℕ) (s : ℕ) → IsOrderOf Edge count order → s < count → StandsBefore order (length order) s
place-of Edge count order s o lt =
    let found = o.every s lt in
    record { place = found.0; before = found.1; within = found.1; is = get_or_default order found.0 0 s found.1 ∙ found.2 }

-- a graph that has an order has no ring
pub no_ring : (Edge : ℕ → ℕ → Type 0) (count : ℕ) (order ring : List ℕ) → IsOrderOf Edge count order → ¬ IsRing Edge count ring
no_ring Edge count order [] o r = r.round
no_ring Edge count order (first ∷ rest) o r =
    let at = place-of Edge count order first o (r.nodes 0 (omega arith)) in
    let earlier = goes-before Edge count order at.place first rest first o at.within at.is r.round in
    o.once earlier.place at.place 0 earlier.before at.within (earlier.is ∙ sym at.is)

-- ---- chains

pub IsChain-push : (Edge : ℕ → ℕ → Type 0) (xs : List ℕ) (s t : ℕ) → IsChain Edge (xs ++ s ∷ []) → Edge s t → IsChain Edge ((xs ++ s ∷ []) ++ t ∷ [])
IsChain-push Edge [] s t chain edge = (edge, tt)
IsChain-push Edge (a ∷ []) s t chain edge = (chain.0, (edge, tt))
IsChain-push Edge (a ∷ b ∷ rest) s t chain edge = (chain.0, IsChain-push Edge (b ∷ rest) s t chain.1 edge)

pub IsChain-pop : (Edge : ℕ → ℕ → Type 0) (xs : List ℕ) (s : ℕ) → IsChain Edge (xs ++ s ∷ []) → IsChain Edge xs
IsChain-pop Edge [] s chain = tt
IsChain-pop Edge (a ∷ []) s chain = tt
IsChain-pop Edge (a ∷ b ∷ rest) s chain = (chain.0, IsChain-pop Edge (b ∷ rest) s chain.1)

IsChain-rest : (Edge : ℕ → ℕ → Type 0) (a : ℕ) (xs : List ℕ) → IsChain Edge (a ∷ xs) → IsChain Edge xs
IsChain-rest Edge a [] chain = tt
IsChain-rest Edge a (b ∷ rest) chain = chain.1

IsChain-drop : (Edge : ℕ → ℕ → Type 0) (k : ℕ) (xs : List ℕ) → IsChain Edge xs → IsChain Edge (drop k xs)
IsChain-drop Edge zero xs chain = chain
IsChain-drop Edge (suc k) [] chain = tt
IsChain-drop Edge (suc k) (a ∷ xs) chain = IsChain-drop Edge k xs (IsChain-rest Edge a xs chain)

GoesTo-chain : (Edge : ℕ → ℕ → Type 0) (xs : List ℕ) (s first : ℕ) → IsChain Edge (xs ++ s ∷ []) → Edge s first → GoesTo Edge first (xs ++ s ∷ [])
GoesTo-chain Edge [] s first chain edge = edge
GoesTo-chain Edge (a ∷ []) s first chain edge = (chain.0, edge)
GoesTo-chain Edge (a ∷ b ∷ rest) s first chain edge = (chain.0, GoesTo-chain Edge (b ∷ rest) s first chain.1 edge)

-- if the last node of a path has an edge to a node on it, the path from that node on goes round
pub GoesRound-end : (Edge : ℕ → ℕ → Type 0) (xs : List ℕ) (s first k : ℕ) → IsChain Edge (xs ++ s ∷ []) → Edge s first → k < length (xs ++ s ∷ []) → get_or (xs ++ s ∷ []) k first ≡ first → GoesRound Edge (drop k (xs ++ s ∷ []))
GoesRound-end Edge xs s first k chain edge lt is =
    let path = xs ++ s ∷ [] in
    let cut : drop k path ≡ drop k xs ++ s ∷ [] = drop-append-le k xs (s ∷ []) (omega (arith, lt, length-append xs (s ∷ []))) in
    let begins : drop k path ≡ first ∷ drop (k + 1) path = drop_more path k first lt ∙ ap (λ (a : ℕ). a ∷ drop (k + 1) path) is in
    let goes : GoesTo Edge first (drop k path) =
    subst (GoesTo Edge first) (sym cut) (GoesTo-chain Edge (drop k xs) s first (subst (IsChain Edge) cut (IsChain-drop Edge k path chain)) edge) in
    subst (GoesRound Edge) (sym begins) (subst (GoesTo Edge first) begins goes)

-- a list of different nodes has different nodes from place k on
pub once-drop : (k : ℕ) (xs : List ℕ) → AllPairs (λ a b. a ≢ b) xs → AllPairs (λ a b. a ≢ b) (drop k xs)
once-drop k xs once i j d lt within same =
    once (k + i) (k + j) d (omega arith) (omega (arith, within, length-drop k xs)) (sym (get_or-drop k xs i d) ∙ same ∙ get_or-drop k xs j d)
