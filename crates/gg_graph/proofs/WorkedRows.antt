-- Small graphs, with their orders and rings, and lists that are neither.
use Rattle.std.proofs.Common.{◌≡◌, ◌≢◌, ℕ, zero, suc, ◌<◌, List, [], ◌∷◌, length, get_or, take, drop, eqb, eq-eqb, false, true≢false, refl, sym, ap, ◌∙◌, subst, arith, lit<}
use Rattle.std.specs.Prelude.{Contains, AllPairs}
use Rattle.std.specs.List.{IsDistinct, AllByRecursion}
use Rattle.std.proofs.lemmas.Bool.Decides.{Decides-eqb}
use Rattle.std.proofs.lemmas.Map.Made.{AllPairs-from_IsDistinct}
use Rattle.gg_graph.specs.Graph.{node_at, IsRing}
use Rattle.gg_graph.specs.inside.Graph.{IsOrderOf}
use Rattle.gg_graph.specs.inside.Lists.{HasTarget}
use Rattle.gg_graph.specs.inside.Walk.{IsEndFrom}
use Rattle.gg_graph.proofs.RingLemmas.{no_ring}

-- a fact that is shown at each place of a list of one, two, four or five elements holds at every place below its length
pub one : (P : ℕ → Type 0) → P 0 → (k : ℕ) → k < 1 → P k
one P a zero lt = a
one P a (suc k) lt = absurd (omega arith)

pub two : (P : ℕ → Type 0) → P 0 → P 1 → (k : ℕ) → k < 2 → P k
two P a b zero lt = a
two P a b (suc k) lt = one (λ i. P (suc i)) b k (omega arith)

four : (P : ℕ → Type 0) → P 0 → P 1 → P 2 → P 3 → (k : ℕ) → k < 4 → P k
four P a b c d zero lt = a
four P a b c d (suc zero) lt = b
four P a b c d (suc (suc k)) lt = two (λ i. P (suc (suc i))) c d k (omega arith)

pub five : (P : ℕ → Type 0) → P 0 → P 1 → P 2 → P 3 → P 4 → (k : ℕ) → k < 5 → P k
five P a b c d e zero lt = a
five P a b c d e (suc k) lt = four (λ i. P (suc i)) b c d e k (omega arith)

-- what holds of each number in a list holds of any number that is in it
each-at : (P : ℕ → Type 0) (xs : List ℕ) (t k : ℕ) → AllByRecursion P xs → k < length xs → get_or xs k t ≡ t → P t
each-at P [] t k all lt is = absurd (omega (arith, lt))
each-at P (x ∷ xs) t zero all lt is = subst P is all.0
each-at P (x ∷ xs) t (suc k) all lt is = each-at P xs t k all.1 (omega arith) is

each : (P : ℕ → Type 0) (xs : List ℕ) → AllByRecursion P xs → (t : ℕ) → Contains xs t → P t
each P xs all t h = each-at P xs t h.0 all h.1 h.2

-- a number that differs from each number in a list isn't in it
absent : (xs : List ℕ) (t : ℕ) → AllByRecursion (λ x. eqb x t ≡ false) xs → ¬ Contains xs t
absent xs t none h = true≢false (sym (eq-eqb t t refl) ∙ each-at (λ x. eqb x t ≡ false) xs t h.0 none h.1 h.2)

pub distinct : (xs : List ℕ) → IsDistinct eqb xs → AllPairs (λ a b. a ≢ b) xs
distinct xs h = AllPairs-from_IsDistinct Decides-eqb xs h

-- ---- rings

-- a node that is its own target
abbrev alone : List (List ℕ)
alone = (0 ∷ []) ∷ []

ring-alone : IsRing (HasTarget alone) 1 (0 ∷ [])
unfolding IsDistinct
ring-alone = record {
  nodes = one _ (lit< tt);
  once = distinct (0 ∷ []) (tt, tt);
  round = ((0, lit< tt, refl), lit< tt);
}

-- two nodes, each a target of the other; the first has it at two places, and a place without a target between them
abbrev pair : List (List ℕ)
pair = (1 ∷ 2 ∷ 1 ∷ []) ∷ (0 ∷ []) ∷ []

ring-pair : IsRing (HasTarget pair) 2 (0 ∷ 1 ∷ [])
unfolding IsDistinct
ring-pair = record {
  nodes = two _ (lit< tt) (lit< tt);
  once = distinct (0 ∷ 1 ∷ []) ((refl, tt), (tt, tt));
  round = (((0, lit< tt, refl), lit< tt), ((0, lit< tt, refl), lit< tt));
}

-- five nodes, each with the next as its target, and the last with the first; the third also has node 0 as a target
abbrev five_around : List (List ℕ)
five_around = (1 ∷ []) ∷ (2 ∷ []) ∷ (0 ∷ 3 ∷ 3 ∷ []) ∷ (4 ∷ []) ∷ (0 ∷ []) ∷ []

ring-five : IsRing (HasTarget five_around) 5 (2 ∷ 3 ∷ 4 ∷ 0 ∷ 1 ∷ [])
unfolding IsDistinct
ring-five = record {
  nodes = five _ (lit< tt) (lit< tt) (lit< tt) (lit< tt) (lit< tt);
  once = distinct (2 ∷ 3 ∷ 4 ∷ 0 ∷ 1 ∷ []) ((refl, (refl, (refl, (refl, tt)))), ((refl, (refl, (refl, tt))), ((refl, (refl, tt)), ((refl, tt), (tt, tt)))));
  round = (((1, lit< tt, refl), lit< tt), (((0, lit< tt, refl), lit< tt), (((0, lit< tt, refl), lit< tt), (((0, lit< tt, refl), lit< tt), ((0, lit< tt, refl), lit< tt)))));
}

-- ---- an order

-- a node with two targets, one of them at two places, which have the same target
abbrev diamond : List (List ℕ)
diamond = (1 ∷ 2 ∷ 1 ∷ []) ∷ (3 ∷ []) ∷ (3 ∷ []) ∷ [] ∷ []

order-diamond : IsOrderOf (HasTarget diamond) 4 (3 ∷ 1 ∷ 2 ∷ 0 ∷ [])
unfolding IsDistinct
order-diamond = record {
  nodes = four _ (lit< tt) (lit< tt) (lit< tt) (lit< tt);
  once = distinct (3 ∷ 1 ∷ 2 ∷ 0 ∷ []) ((refl, (refl, (refl, tt))), ((refl, (refl, tt)), ((refl, tt), (tt, tt))));
  every = four _ (3, lit< tt, refl) (1, lit< tt, refl) (2, lit< tt, refl) (0, lit< tt, refl);
  after = λ i t lt. four (λ i. HasTarget diamond (node_at (3 ∷ 1 ∷ 2 ∷ 0 ∷ []) i) t → Contains (take i (3 ∷ 1 ∷ 2 ∷ 0 ∷ [])) t)
      (λ edge. absurd (omega (arith, edge.0.1)))
      (λ edge. each (Contains (3 ∷ [])) (3 ∷ []) ((0, lit< tt, refl), tt) t edge.0)
      (λ edge. each (Contains (3 ∷ 1 ∷ [])) (3 ∷ []) ((0, lit< tt, refl), tt) t edge.0)
      (λ edge. each (Contains (3 ∷ 1 ∷ 2 ∷ [])) (1 ∷ 2 ∷ 1 ∷ []) ((1, lit< tt, refl), ((2, lit< tt, refl), ((1, lit< tt, refl), tt))) t edge.0)
      i lt;
}

-- the diamond has no ring
acyclic-diamond : (ring : List ℕ) → ¬ IsRing (HasTarget diamond) 4 ring
acyclic-diamond ring = no_ring (HasTarget diamond) 4 (3 ∷ 1 ∷ 2 ∷ 0 ∷ []) ring order-diamond

-- ---- near misses

-- node 0 comes before its target 1
early : ¬ IsOrderOf (HasTarget diamond) 4 (3 ∷ 0 ∷ 1 ∷ 2 ∷ [])
early o = absent (3 ∷ []) 1 (refl, tt) (o.after 1 1 (lit< tt) ((0, lit< tt, refl), lit< tt))

-- node 0 is missing
missed : ¬ IsOrderOf (HasTarget diamond) 4 (3 ∷ 1 ∷ 2 ∷ [])
missed o = absent (3 ∷ 1 ∷ 2 ∷ []) 0 (refl, (refl, (refl, tt))) (o.every 0 (lit< tt))

-- node 3 comes twice
twice : ¬ IsOrderOf (HasTarget diamond) 4 (3 ∷ 1 ∷ 3 ∷ 2 ∷ 0 ∷ [])
twice o = o.once 0 2 0 (lit< tt) (lit< tt) refl

-- a graph with a ring has no order
no_order-pair : (order : List ℕ) → ¬ IsOrderOf (HasTarget pair) 2 order
no_order-pair order o = no_ring (HasTarget pair) 2 order (0 ∷ 1 ∷ []) o ring-pair

-- the last node has no edge to the first
not_closed : ¬ IsRing (HasTarget diamond) 4 (0 ∷ 1 ∷ 3 ∷ [])
not_closed r = absent [] 0 tt r.round.1.1.0

-- node 0 comes twice
too_long : ¬ IsRing (HasTarget pair) 2 (0 ∷ 1 ∷ 0 ∷ [])
too_long r = r.once 0 2 0 (lit< tt) (lit< tt) refl

-- no node at all
no_node : ¬ IsRing (HasTarget pair) 2 []
no_node r = r.round

-- a graph whose only node is its own target has no order
no_order-alone : (order : List ℕ) → ¬ IsOrderOf (HasTarget alone) 1 order
no_order-alone order o = no_ring (HasTarget alone) 1 order (0 ∷ []) o ring-alone

-- the end of the path 0, 1, 2 from 1 on doesn't begin one node earlier
one_early : ¬ IsEndFrom (0 ∷ 1 ∷ 2 ∷ []) 1 (0 ∷ 1 ∷ 2 ∷ [])
one_early e = by e.start e.within e.is e.end_is where
  by : (start : ℕ) → start < 3 → ◌≡◌ {A = ℕ} (get_or (0 ∷ 1 ∷ 2 ∷ []) start 1) 1 → ◌≡◌ {A = List ℕ} (0 ∷ 1 ∷ 2 ∷ []) (drop start (0 ∷ 1 ∷ 2 ∷ [])) → ⊥
  by zero lt is end = let clash : 0 ≡ 1 = is in absurd (omega (arith, clash))
  by (suc zero) lt is end = let longer : 3 ≡ 2 = ap (λ (l : List ℕ). length l) end in absurd (omega (arith, longer))
  by (suc (suc zero)) lt is end = let clash : 2 ≡ 1 = is in absurd (omega (arith, clash))
  by (suc (suc (suc start))) lt is end = absurd (omega (arith, lt))

-- nor is it the last node alone
last_alone : ¬ IsEndFrom (0 ∷ 1 ∷ 2 ∷ []) 1 (2 ∷ [])
last_alone e = by e.start e.within e.is e.end_is where
  by : (start : ℕ) → start < 3 → ◌≡◌ {A = ℕ} (get_or (0 ∷ 1 ∷ 2 ∷ []) start 1) 1 → ◌≡◌ {A = List ℕ} (2 ∷ []) (drop start (0 ∷ 1 ∷ 2 ∷ [])) → ⊥
  by zero lt is end = let clash : 0 ≡ 1 = is in absurd (omega (arith, clash))
  by (suc zero) lt is end = let shorter : 1 ≡ 2 = ap (λ (l : List ℕ). length l) end in absurd (omega (arith, shorter))
  by (suc (suc zero)) lt is end = let clash : 2 ≡ 1 = is in absurd (omega (arith, clash))
  by (suc (suc (suc start))) lt is end = absurd (omega (arith, lt))
