-- The place of a module in an order in which each comes after those that it holds, as its rank.
use Rattle.std.proofs.Common.{◌≡◌, ℕ, zero, suc, ◌<◌, ◌≤◌, List, [], ◌∷◌, length, take, get_or, Bool, true, false, cond, refl, sym, ◌∙◌, subst, arith, inl, inr, ◌⊎◌, eqb}
use Rattle.std.specs.Prelude.{Contains, ◌==◌}
use Rattle.std.proofs.lemmas.Bool.{cases_lt, ne_eqb, eqb-true}
use Rattle.std.proofs.lemmas.Map.Steps.{length-le_from_distinct_below}
use Rattle.std.proofs.lemmas.Map.Keys.{IsDistinct-from_apart}
use Rattle.std.proofs.lemmas.Map.Views.{Contains-from_any}
use Rattle.std.proofs.lemmas.Bool.Decides.{nat_tests}
use Rattle.std.proofs.lemmas.List.{get_or_default, get_or_past}
use Rattle.gg_ast.specs.inside.Names.{AreNamesOfCircuit}
use Rattle.gg_ast.specs.Tree.{CircuitTree, ModuleTree, empty_module}
use Rattle.gg_flat.proofs.ListLemmas.{Contains-map, Contains-cases}
use Rattle.gg_elab_sites.specs.Sites.{Held, held_at, held_by, module_at}
use Rattle.gg_elab_sites.specs.inside.Sites.{HoldsModule}
use Rattle.gg_elab_tree.proofs.NamesLemmas.CauseLemmas.{name-some, statements-named}
use Rattle.gg_elab_tree.proofs.NamesLemmas.WordLemmas.{held-word}
use Rattle.gg_graph.specs.inside.Graph.{IsOrderOf}
use Rattle.gg_front.proofs.CopyLemmas.{HasSomeNames}
use Rattle.gg_front.proofs.CopyPlaceLemmas.{AreRanked}

-- the place at which a number first stands in a list; the length if it doesn't
abbrev pub place_in : List ℕ → ℕ → ℕ
place_in [] k = 0
place_in (x ∷ xs) k = cond (x == k) 0 (suc (place_in xs k))

pub place-most : (xs : List ℕ) (k : ℕ) → place_in xs k ≤ length xs
place-most [] k = omega arith
place-most (x ∷ xs) k = go (x == k) (place-most xs k)
  where
    go : (b : Bool) → place_in xs k ≤ length xs → cond b 0 (suc (place_in xs k)) ≤ length (x ∷ xs)
    go true le = omega arith
    go false le = omega (arith, le)

place-before : (xs : List ℕ) (i k : ℕ) → Contains (take i xs) k → place_in xs k < i
place-before [] zero k c = absurd (omega (arith, c.1))
place-before [] (suc i) k c = absurd (omega (arith, c.1))
place-before (x ∷ xs) zero k c = absurd (omega (arith, c.1))
place-before (x ∷ xs) (suc i) k c = go (x == k) refl (Contains-cases x k (take i xs) c) (place-before xs i k)
  where
    go : (b : Bool) → (x == k) ≡ b → (x ≡ k) ⊎ Contains (take i xs) k → (Contains (take i xs) k → place_in xs k < i) → cond b 0 (suc (place_in xs k)) < suc i
    go true e c next = omega arith
    go false e (inl same) next = absurd (grind (arith, nat_tests))
    go false e (inr later) next = omega (arith, next later)

place-is : (xs : List ℕ) (k : ℕ) → Contains xs k → (place_in xs k < length xs) × (get_or xs (place_in xs k) 0 ≡ k)
place-is [] k c = absurd (omega (arith, c.1))
place-is (x ∷ xs) k c = go (x == k) refl (Contains-cases x k xs c) (place-is xs k)
  where
    go : (b : Bool) → (x == k) ≡ b → (x ≡ k) ⊎ Contains xs k → (Contains xs k → (place_in xs k < length xs) × (get_or xs (place_in xs k) 0 ≡ k)) → (cond b 0 (suc (place_in xs k)) < length (x ∷ xs)) × (get_or (x ∷ xs) (cond b 0 (suc (place_in xs k))) 0 ≡ k)
    go true e c next = (omega arith, grind (arith, nat_tests))
    go false e (inl same) next = absurd (grind (arith, nat_tests))
    go false e (inr later) next = let n = next later in (omega (arith, n.0), n.1)

-- a module that holds something is one of the circuit's
holder-below : (modules : List ModuleTree) (k : ℕ) (h : Held) → Contains (held_at modules k) h → k < length modules
holder-below modules k h c = go (cases_lt k (length modules))
  where
    go : (k < length modules) ⊎ (length modules ≤ k) → k < length modules
    go (inl lt) = lt
    go (inr le) =
        let none : Contains (held_by modules []) h = subst (λ (m : ModuleTree). Contains (held_by modules m.statements) h) (get_or_past modules k (empty_module 0 []) le) c in
        absurd (omega (arith, none.1))

pub order-ranked : (modules : List ModuleTree) (order : List ℕ) → IsOrderOf (HoldsModule modules) (length modules) order → AreRanked modules (λ k. place_in order k)
order-ranked modules order o k h c =
    let at = place-is order k (o.every k (holder-below modules k h c)) in
    place-before order (place_in order k) h.number
    (o.after (place_in order k) h.number at.0
    (subst (λ (n : ℕ). HoldsModule modules n h.number) (sym at.1) (Contains-map (λ (x : Held). x.number) (held_at modules k) h c)))

pub some-names : (circuit : CircuitTree) → AreNamesOfCircuit circuit → HasSomeNames circuit.modules
some-names circuit are k h c = name-some h.name (held-word circuit.modules (module_at circuit.modules k).statements h (statements-named circuit.modules k are.of_modules) c)

-- an order has no more places than there are modules
pub rank-most : (modules : List ModuleTree) (order : List ℕ) → IsOrderOf (HoldsModule modules) (length modules) order → (k : ℕ) → place_in order k ≤ length modules
rank-most modules order o k =
    let few = length-le_from_distinct_below order (length modules)
    (IsDistinct-from_apart eqb order (λ i j d lt within. ne_eqb (get_or order i d) (get_or order j d) (o.once i j d lt within)))
    (λ q any. below q (Contains-from_any eqb-true q order any)) in
    omega (arith, few, place-most order k)
  where
    below : (q : ℕ) → Contains order q → q < length modules
    below q (k, lt, is) = subst (λ (m : ℕ). m < length modules) (get_or_default order k 0 q lt ∙ is) (o.nodes k lt)
