-- Rings of one, two and five modules, and circuits without a ring.
use Rattle.std.proofs.Common.{◌≡◌, ℕ, zero, suc, ◌<◌, List, [], ◌∷◌, codes, get_or, take, refl, arith, lit<}
use Rattle.std.specs.Prelude.{Contains}
use Rattle.std.specs.List.{IsDistinct}
use Rattle.gg_ast.specs.Tree.{ModuleTree, CircuitTree}
use Rattle.gg_shape_names.specs.Modules.{Holds}
use Rattle.gg_graph.specs.Graph.{node_at}
use Rattle.gg_graph.specs.inside.Graph.{IsOrderOf}
use Rattle.gg_graph.proofs.RingLemmas.{no_ring}
use Rattle.gg_graph.proofs.WorkedRows.{one, two, five, distinct}
use Rattle.gg_shape.specs.Rings.{HasNoRing, IsRingOf, ring_names}
use Rattle.gg_shape.proofs.WorkedCircuits.{instance, module_with, circuit_with, family_with, inst_i, wired}

-- a module with one instance, which is of this module
abbrev holder : List ℕ → List ℕ → ModuleTree
holder name held = module_with 2 name [] (instance 3 (codes "i") held ∷ [])

-- ---- rings

-- the top has an instance of itself
abbrev alone : CircuitTree
alone = circuit_with (codes "A") (holder (codes "A") (codes "A") ∷ [])

ring_alone : IsRingOf alone (0 ∷ [])
unfolding IsDistinct
ring_alone = record {
  nodes = one _ (lit< tt);
  once = distinct (0 ∷ []) (tt, tt);
  round = (0, lit< tt, refl);
}

told_alone : ring_names alone (0 ∷ []) ≡ codes "A" ∷ codes "A" ∷ []
told_alone = refl

-- a module has an instance of the top, which has one of it
abbrev pair : CircuitTree
pair = circuit_with (codes "A") (holder (codes "A") (codes "B") ∷ (holder (codes "B") (codes "A") ∷ []))

ring_pair : IsRingOf pair (1 ∷ 0 ∷ [])
unfolding IsDistinct
ring_pair = record {
  nodes = two _ (lit< tt) (lit< tt);
  once = distinct (1 ∷ 0 ∷ []) ((refl, tt), (tt, tt));
  round = ((0, lit< tt, refl), (0, lit< tt, refl));
}

told_pair : ring_names pair (1 ∷ 0 ∷ []) ≡ codes "B" ∷ codes "A" ∷ codes "B" ∷ []
told_pair = refl

-- five modules in a ring that the top doesn't reach
abbrev five_around : CircuitTree
five_around =
    circuit_with (codes "T")
    (holder (codes "A") (codes "B") ∷ (holder (codes "B") (codes "C") ∷ (holder (codes "C") (codes "D") ∷ (holder (codes "D") (codes "E") ∷ (holder (codes "E") (codes "A") ∷ (module_with 30 (codes "T") [] [] ∷ []))))))

ring_five : IsRingOf five_around (2 ∷ 3 ∷ 4 ∷ 0 ∷ 1 ∷ [])
unfolding IsDistinct
ring_five = record {
  nodes = five _ (lit< tt) (lit< tt) (lit< tt) (lit< tt) (lit< tt);
  once = distinct (2 ∷ 3 ∷ 4 ∷ 0 ∷ 1 ∷ []) ((refl, (refl, (refl, (refl, tt)))), ((refl, (refl, (refl, tt))), ((refl, (refl, tt)), ((refl, tt), (tt, tt)))));
  round = ((0, lit< tt, refl), ((0, lit< tt, refl), ((0, lit< tt, refl), ((0, lit< tt, refl), (0, lit< tt, refl)))));
}

told_five : ring_names five_around (2 ∷ 3 ∷ 4 ∷ 0 ∷ 1 ∷ []) ≡ codes "C" ∷ codes "D" ∷ codes "E" ∷ codes "A" ∷ codes "B" ∷ codes "C" ∷ []
told_five = refl

-- ---- near misses

-- A has an instance of B, the module at place 1, and none of itself
abbrev held_by_A : List ℕ
held_by_A = 1 ∷ []

not_alone : ¬ IsRingOf pair (0 ∷ [])
not_alone r = at r.round.0 r.round.1 r.round.2
  where
    at : (k : ℕ) → k < 1 → get_or held_by_A k 0 ≡ 0 → ⊥
    at zero lt is = absurd (omega (arith, is))
    at (suc k) lt is = absurd (omega (arith, lt))

-- the parent has an instance of the child, which has none: the way doesn't come back
not_closed : ¬ IsRingOf (family_with (inst_i ∷ wired)) (1 ∷ 0 ∷ [])
not_closed r = absurd (omega (arith, r.round.1.1))

-- a module that comes twice
too_long : ¬ IsRingOf pair (0 ∷ 1 ∷ 0 ∷ [])
too_long r = r.once 0 2 0 (lit< tt) (lit< tt) refl

-- no module at all
no_module : ¬ IsRingOf pair []
no_module r = r.round

-- an order in which each module comes after those that it has instances of: the child, the parent
family_order : IsOrderOf (Holds (family_with (inst_i ∷ wired)).modules) 2 (0 ∷ 1 ∷ [])
unfolding IsDistinct
family_order = record {
  nodes = two _ (lit< tt) (lit< tt);
  once = distinct (0 ∷ 1 ∷ []) ((refl, tt), (tt, tt));
  every = two _ (0, lit< tt, refl) (1, lit< tt, refl);
  after = λ i t lt. two (λ i. Holds (family_with (inst_i ∷ wired)).modules (node_at (0 ∷ 1 ∷ []) i) t → Contains (take i (0 ∷ 1 ∷ [])) t)
      (λ edge. absurd (omega (arith, edge.1)))
      (λ edge. held edge.0 t edge.1 edge.2)
      i lt;
}
  where
    none_held : List ℕ
    none_held = 0 ∷ []

    held : (k t : ℕ) → k < 1 → get_or none_held k t ≡ t → Contains (0 ∷ []) t
    held zero t lt is = (0, lit< tt, is)
    held (suc k) t lt is = absurd (omega (arith, lt))

-- so this circuit has no ring
family_ringless : HasNoRing (family_with (inst_i ∷ wired))
family_ringless ring = no_ring (Holds (family_with (inst_i ∷ wired)).modules) 2 (0 ∷ 1 ∷ []) ring family_order
