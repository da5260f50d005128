-- A ring that begins at another of its nodes is a ring.
use Rattle.std.proofs.Common.{◌≡◌, ◌≢◌, ℕ, ◌+◌, ◌-◌, ◌<◌, ◌≤◌, List, [], ◌∷◌, ◌++◌, length, get_or, take, drop, refl, sym, ◌∙◌, subst, inl, inr, arith, length-append}
use Rattle.std.specs.Prelude.{AllPairs}
use Rattle.std.proofs.lemmas.Bool.{cases_lt}
use Rattle.std.proofs.lemmas.List.{append-nil, take-append-drop, get_or_append_left, get_or-append-add, get_or-append_right}
use Rattle.gg_graph.specs.Graph.{node_at, GoesTo, GoesRound, IsRing}

-- ---- edges from each node to the next

goes-split : (Edge : ℕ → ℕ → Type 0) (first a : ℕ) (xs : List ℕ) (b : ℕ) (ys : List ℕ) → GoesTo Edge first ((a ∷ xs) ++ b ∷ ys) → GoesTo Edge b (a ∷ xs) × GoesTo Edge first (b ∷ ys)
goes-split Edge first a [] b ys goes = (goes.0, goes.1)
goes-split Edge first a (c ∷ xs) b ys goes =
    let rest = goes-split Edge first c xs b ys goes.1 in
    ((goes.0, rest.0), rest.1)

goes-join : (Edge : ℕ → ℕ → Type 0) (first a : ℕ) (xs : List ℕ) (b : ℕ) (ys : List ℕ) → GoesTo Edge b (a ∷ xs) → GoesTo Edge first (b ∷ ys) → GoesTo Edge first ((a ∷ xs) ++ b ∷ ys)
goes-join Edge first a [] b ys start goes = (start, goes)
goes-join Edge first a (c ∷ xs) b ys start goes = (start.0, goes-join Edge first c xs b ys start.1 goes)

round-swap : (Edge : ℕ → ℕ → Type 0) (xs ys : List ℕ) → GoesRound Edge (xs ++ ys) → GoesRound Edge (ys ++ xs)
round-swap Edge [] ys round = subst (GoesRound Edge) (sym (append-nil ys)) round
round-swap Edge (a ∷ xs) [] round = subst (GoesRound Edge) (append-nil (a ∷ xs)) round
round-swap Edge (a ∷ xs) (b ∷ ys) round =
    let parts = goes-split Edge a a xs b ys round in
    goes-join Edge b b ys a xs parts.1 parts.0

-- ---- the same nodes

-- a node of the swapped list, and its place in the list before: at-front for the first part, at-back for the second
at-front : (xs ys : List ℕ) (i d : ℕ) → i < length ys → get_or (ys ++ xs) i d ≡ get_or (xs ++ ys) (length xs + i) d
at-front xs ys i d lt = get_or_append_left ys xs d i lt ∙ sym (get_or-append-add xs ys i d)

at-back : (xs ys : List ℕ) (i d : ℕ) → length ys ≤ i → i < length (ys ++ xs) → get_or (ys ++ xs) i d ≡ get_or (xs ++ ys) (i - length ys) d
at-back xs ys i d ge lt =
    get_or-append_right ys xs (length ys) i d refl ge
    ∙ sym (get_or_append_left xs ys d (i - length ys) (omega (arith, ge, lt, length-append ys xs)))

nodes-swap : (count : ℕ) (xs ys : List ℕ) → ((i : ℕ) → i < length (xs ++ ys) → node_at (xs ++ ys) i < count) → (i : ℕ) → i < length (ys ++ xs) → node_at (ys ++ xs) i < count
nodes-swap count xs ys nodes i lt =
    elim (cases_lt i (length ys)) [
      | inl less ↦ omega (arith, at-front xs ys i 0 less, nodes (length xs + i) (omega (arith, less, length-append xs ys)))
      | inr ge ↦ omega (arith, at-back xs ys i 0 ge lt, nodes (i - length ys) (omega (arith, ge, lt, length-append ys xs, length-append xs ys)))
    ]

once-swap : (xs ys : List ℕ) → AllPairs (λ a b. a ≢ b) (xs ++ ys) → AllPairs (λ a b. a ≢ b) (ys ++ xs)
once-swap xs ys once i j d lt within same =
    elim (cases_lt j (length ys)) [
      | inl less ↦
          once (length xs + i) (length xs + j) d (omega (arith, lt)) (omega (arith, less, length-append xs ys))
          (sym (at-front xs ys i d (omega (arith, lt, less))) ∙ same ∙ at-front xs ys j d less)
      | inr ge ↦ elim (cases_lt i (length ys)) [
        | inl less ↦
            once (j - length ys) (length xs + i) d (omega (arith, ge, within, length-append ys xs)) (omega (arith, less, length-append xs ys))
            (sym (at-back xs ys j d ge within) ∙ sym same ∙ at-front xs ys i d less)
        | inr le ↦
            once (i - length ys) (j - length ys) d (omega (arith, lt, le, ge)) (omega (arith, ge, within, length-append ys xs, length-append xs ys))
            (sym (at-back xs ys i d le (omega (arith, lt, within))) ∙ same ∙ at-back xs ys j d ge within)
      ]
    ]

ring-swap : (Edge : ℕ → ℕ → Type 0) (count : ℕ) (xs ys : List ℕ) → IsRing Edge count (xs ++ ys) → IsRing Edge count (ys ++ xs)
ring-swap Edge count xs ys r = record {
  nodes = nodes-swap count xs ys r.nodes;
  once = once-swap xs ys r.once;
  round = round-swap Edge xs ys r.round;
}

-- a ring that `rotate_left` has turned is a ring
pub IsRing-rotate : (Edge : ℕ → ℕ → Type 0) (count : ℕ) (ring : List ℕ) (k : ℕ) → IsRing Edge count ring → IsRing Edge count (drop k ring ++ take k ring)
IsRing-rotate Edge count ring k r =
    ring-swap Edge count (take k ring) (drop k ring) (subst (IsRing Edge count) (sym (take-append-drop k ring)) r)
