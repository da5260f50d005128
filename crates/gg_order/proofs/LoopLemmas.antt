-- A ring of signals is a loop, however it is turned; and the place of its least path.
use Rattle.std.proofs.Common.{◌≡◌, ℕ, ◌+◌, ◌-◌, ◌<◌, List, [], ◌∷◌, ◌++◌, length, take, drop, refl, ap, ◌∙◌, subst, inl, inr, arith, below_more, length-append, length-drop}
use Rattle.std.specs.Ordering.{nat_cmp, ordering_reverse}
use Rattle.std.specs.Cmp.Lexicographic.{slice_cmp, nat_list_cmp_total}
use Rattle.std.specs.declared.cmp.Ordering.{Ordering}
use Rattle.std.specs.declared.cmp.Ordering.TheVariants.{Less, Equal, Greater}
use Rattle.std.proofs.lemmas.Bool.{cases_lt}
use Rattle.std.proofs.lemmas.List.{get_or-take, get_or-drop, length-take, get_or_append_left, get_or-append_right}
use Rattle.gg_flat.specs.Line.{value_at}
use Rattle.gg_flat.specs.Circuit.{FlatCircuit}
use Rattle.gg_flat.specs.Reads.{Reads, ReadsInTurn, IsLoop}
use Rattle.gg_flat.specs.Order.{IsOrder}
use Rattle.gg_flat_tree.specs.Tree.{path_at}
use Rattle.gg_graph.specs.Graph.{GoesTo, IsRing}
use Rattle.gg_graph.specs.inside.Graph.{IsOrderOf}
use Rattle.gg_graph.proofs.RotationLemmas.{IsRing-rotate}
use Rattle.gg_order.specs.Loop.{IsBefore, IsToldLoop}

-- ---- an order of the graph is an order of the circuit, and a ring is a loop

pub IsOrder-walk : (circuit : FlatCircuit) (order : List ℕ) → IsOrderOf (Reads circuit) (length circuit.signals) order → IsOrder circuit order
IsOrder-walk circuit order o = record { signals = o.nodes; once = o.once; every = o.every; after = o.after }

in-turn : (circuit : FlatCircuit) (first : ℕ) (signals : List ℕ) → GoesTo (Reads circuit) first signals → ReadsInTurn circuit first signals
in-turn circuit first [] goes = goes
in-turn circuit first (a ∷ []) goes = goes
in-turn circuit first (a ∷ b ∷ rest) goes = (goes.0, in-turn circuit first (b ∷ rest) goes.1)

pub IsLoop-ring : (circuit : FlatCircuit) (count : ℕ) (ring : List ℕ) → IsRing (Reads circuit) count ring → IsLoop circuit ring
IsLoop-ring circuit count [] r = r.round
IsLoop-ring circuit count (first ∷ rest) r = (r.once, in-turn circuit first (first ∷ rest) r.round)

-- ---- a ring that is turned

-- the place in the ring of the signal at place i of the turned list
record StoodAt (ring turned : List ℕ) (i : ℕ) : Type 0 where
  place : ℕ
  within : place < length ring
  is : value_at turned i ≡ value_at ring place

stood-at : (ring : List ℕ) (k i : ℕ) → k < length ring → i < length (drop k ring ++ take k ring) → StoodAt ring (drop k ring ++ take k ring) i
stood-at ring k i within lt =
    elim (cases_lt i (length (drop k ring))) [
      | inl less ↦ record {
        place = k + i;
        within = omega (arith, less, length-drop k ring);
        is = get_or_append_left (drop k ring) (take k ring) 0 i less ∙ get_or-drop k ring i 0;
      }
      | inr ge ↦
          let behind : i - length (drop k ring) < k = omega (arith, ge, lt, length-append (drop k ring) (take k ring), length-take k ring) in
          record {
            place = i - length (drop k ring);
            within = omega (arith, behind, within);
            is = get_or-append_right (drop k ring) (take k ring) (length (drop k ring)) i 0 refl ge ∙ get_or-take k ring (i - length (drop k ring)) 0 behind;
          }
    ]

first-at : (ring : List ℕ) (k : ℕ) → k < length ring → value_at (drop k ring ++ take k ring) 0 ≡ value_at ring k
first-at ring k within =
    get_or_append_left (drop k ring) (take k ring) 0 0 (omega (arith, within, length-drop k ring))
    ∙ get_or-drop k ring 0 0
    ∙ ap (value_at ring) (let same : k + 0 ≡ k = omega arith in same)

pub IsToldLoop-turned : (circuit : FlatCircuit) (count : ℕ) (ring : List ℕ) (k : ℕ) → IsRing (Reads circuit) count ring → k < length ring → ((i : ℕ) → i < length ring → ¬ IsBefore (path_at circuit.paths (value_at ring i)) (path_at circuit.paths (value_at ring k))) → IsToldLoop circuit (drop k ring ++ take k ring)
IsToldLoop-turned circuit count ring k r within least = record {
  loop = IsLoop-ring circuit count (drop k ring ++ take k ring) (IsRing-rotate (Reads circuit) count ring k r);
  least = λ i lt before.
      let at = stood-at ring k i within lt in
      least at.place at.within (subst (λ (x : ℕ). IsBefore (path_at circuit.paths x) (path_at circuit.paths (value_at ring k))) at.is
      (subst (λ (x : ℕ). IsBefore (path_at circuit.paths (value_at (drop k ring ++ take k ring) i)) (path_at circuit.paths x)) (first-at ring k within) before));
}

-- ---- the least

never-less : (r : Ordering) → r ≡ ordering_reverse r → r ≡ Less → ⊥
never-less Less same is = absurd (cc)
never-less Equal same is = absurd (cc)
never-less Greater same is = absurd (cc)

not-before_itself : (a : List ℕ) → ¬ IsBefore a a
not-before_itself a h = never-less (slice_cmp nat_cmp a a) (nat_list_cmp_total.antisymm a a) h

-- among the signals at the first k places the one at place `least` has the least path
abbrev pub IsLeastBelow : List (List ℕ) → List ℕ → ℕ → ℕ → Type 0
IsLeastBelow paths signals k least = (least < k) × ((j : ℕ) → j < k → ¬ IsBefore (path_at paths (value_at signals j)) (path_at paths (value_at signals least)))

pub least-first : (paths : List (List ℕ)) (signals : List ℕ) → IsLeastBelow paths signals 1 0
least-first paths signals = (
  omega arith,
  λ j lt before.
      let same : j ≡ 0 = omega arith in
      not-before_itself (path_at paths (value_at signals 0)) (subst (λ (k : ℕ). IsBefore (path_at paths (value_at signals k)) (path_at paths (value_at signals 0))) same before),
)

-- a signal whose path is before the least so far becomes the least
pub least-moved : (paths : List (List ℕ)) (signals : List ℕ) (i least : ℕ) → IsBefore (path_at paths (value_at signals i)) (path_at paths (value_at signals least)) → IsLeastBelow paths signals i least → IsLeastBelow paths signals (i + 1) i
least-moved paths signals i least less h =
    let path = λ (k : ℕ). path_at paths (value_at signals k) in (
      omega arith,
      below_more (λ (j : ℕ). ¬ IsBefore (path j) (path i)) i
          (λ j lt before. h.1 j lt (nat_list_cmp_total.trans (path j) (path i) (path least) before less))
          (not-before_itself (path i)),
    )

-- otherwise the least stays
pub least-kept : (paths : List (List ℕ)) (signals : List ℕ) (i least : ℕ) → ¬ IsBefore (path_at paths (value_at signals i)) (path_at paths (value_at signals least)) → IsLeastBelow paths signals i least → IsLeastBelow paths signals (i + 1) least
least-kept paths signals i least not h =
    let path = λ (k : ℕ). path_at paths (value_at signals k) in
    (omega (arith, h.0), below_more (λ (j : ℕ). ¬ IsBefore (path j) (path least)) i h.1 not)
