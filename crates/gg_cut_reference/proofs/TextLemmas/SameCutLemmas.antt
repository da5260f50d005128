-- The text of a cut is the same for all designs that are alike.
use Rattle.std.proofs.Common.{◌≡◌, ℕ, zero, suc, ◌+◌, ◌<◌, ◌≤◌, List, [], ◌∷◌, ◌++◌, length, refl, sym, ◌∙◌, ap, subst, inl, inr, ◌⊎◌, arith}
use Rattle.std.specs.Prelude.{flat_map, Contains, AllPairs, slice_index_or}
use Rattle.std.specs.List.{range_with_len}
use Rattle.gg_flat.specs.Circuit.{FlatCircuit}
use Rattle.gg_flat_tree.specs.Tree.{InstanceTree}
use Rattle.gg_flat.proofs.ListLemmas.{Contains-cases}
use Rattle.gg_order.specs.Design.{Ordered}
use Rattle.gg_partfile.specs.declared.request.Request.{Request}
use Rattle.gg_cut_plan.specs.Bridges.{Models}
use Rattle.gg_cut_plan.specs.Ports.{machine_end, plan_bridges}
use Rattle.gg_cut_plan.specs.Direct.{plan_wires}
use Rattle.gg_cut_plan.specs.Listed.{listed_of}
use Rattle.gg_cut_plan.specs.declared.listed.Listed.{Listed}
use Rattle.gg_cut_plan.specs.declared.wires.Wire.{Wire}
use Rattle.gg_cut_plan.specs.Fault.{first_fault, first_fault_with}
use Rattle.gg_cut_reference.specs.inside.Alike.{AreAlike}
use Rattle.gg_cut_reference.specs.text.CheckText.{AreChannelNeeds, IsCutText, IsTextOfCut, channel_text, machine_text}

-- ---- ascending lists of the same numbers are equal

-- the first of an ascending list is less than the others
head-least : (x : ℕ) (xs : List ℕ) (d : ℕ) → AllPairs (λ a b. a < b) (x ∷ xs) → Contains xs d → x < d
head-least x xs d up (k, lt, is) = subst (λ y. x < y) is (up 0 (suc k) d (omega arith) (omega (arith, lt)))

-- an ascending list without its first is ascending
tail-up : (x : ℕ) (xs : List ℕ) → AllPairs (λ a b. a < b) (x ∷ xs) → AllPairs (λ a b. a < b) xs
tail-up x xs up i j d lt within = up (suc i) (suc j) d (omega (arith, lt)) (omega (arith, within))

-- if a list has all of an ascending list and both begin with the same number, this holds of the rests too
others : (x y : ℕ) (xs ys : List ℕ) → x ≡ y → AllPairs (λ a b. a < b) (x ∷ xs) → ((d : ℕ) → Contains (x ∷ xs) d → Contains (y ∷ ys) d) → (d : ℕ) → Contains xs d → Contains ys d
others x y xs ys e up into d has = by (Contains-cases y d ys (into d (suc has.0, omega (arith, has.1), has.2)))
  where
    by : (y ≡ d) ⊎ Contains ys d → Contains ys d
    by (inl same) = let less = head-least x xs d up has in absurd (omega (arith, less, e, same))
    by (inr found) = found

heads-same : (x y : ℕ) (xs ys : List ℕ) → AllPairs (λ a b. a < b) (x ∷ xs) → AllPairs (λ a b. a < b) (y ∷ ys) → (y ≡ x) ⊎ Contains ys x → (x ≡ y) ⊎ Contains xs y → x ≡ y
heads-same x y xs ys up up' (inl e) q = sym e
heads-same x y xs ys up up' (inr h) (inl e) = e
heads-same x y xs ys up up' (inr h) (inr k) = let a = head-least y ys x up' h in let b = head-least x xs y up k in absurd (omega (arith, a, b))

pub ascending-same : (xs ys : List ℕ) → AllPairs (λ a b. a < b) xs → AllPairs (λ a b. a < b) ys → ((d : ℕ) → Contains xs d → Contains ys d) → ((d : ℕ) → Contains ys d → Contains xs d) → xs ≡ ys
ascending-same [] [] up up' into back = refl
ascending-same [] (y ∷ ys) up up' into back = let h = back y (0, omega arith, refl) in absurd (omega (arith, h.1))
ascending-same (x ∷ xs) [] up up' into back = let h = into x (0, omega arith, refl) in absurd (omega (arith, h.1))
ascending-same (x ∷ xs) (y ∷ ys) up up' into back =
    let e : x ≡ y = heads-same x y xs ys up up' (Contains-cases y x ys (into x (0, omega arith, refl))) (Contains-cases x y xs (back y (0, omega arith, refl))) in
    let es : xs ≡ ys = ascending-same xs ys (tail-up x xs up) (tail-up y ys up') (others x y xs ys e up into) (others y x ys xs (sym e) up' back) in cc

pub needs-same : (circuit : FlatCircuit) (listed : Listed) (wires : List Wire) (c : ℕ) (one other : List ℕ) → AreChannelNeeds circuit listed wires c one → AreChannelNeeds circuit listed wires c other → one ≡ other
needs-same circuit listed wires c one other a b =
    ascending-same one other a.ascending b.ascending (λ d h. (b.each d).1 ((a.each d).0 h)) (λ d h. (a.each d).1 ((b.each d).0 h))

-- ---- a cut of a design has one text

-- f and g make the same of the numbers from a on if they agree on them
pub lines-same : (f g : ℕ → List ℕ) (a n : ℕ) → ((k : ℕ) → a ≤ k → k < a + n → f k ≡ g k) → flat_map f (range_with_len a n) ≡ flat_map g (range_with_len a n)
lines-same f g a zero h = refl
lines-same f g a (suc n) h =
    ap (λ l. l ++ flat_map f (range_with_len (a + 1) n)) (h a (omega arith) (omega arith)) ∙ ap (λ l. g a ++ l) (lines-same f g (a + 1) n (λ k le lt. h k (omega (arith, le)) (omega (arith, lt))))

cut-text-once : (design : Ordered) (request : Request) (default : ℕ) (listed : Listed) (wires : List Wire) (text other : List ℕ)
    → IsCutText design request default listed wires text → IsCutText design request default listed wires other → text ≡ other
cut-text-once design request default listed wires text other a b =
    let machines = flat_map (machine_text design request listed) (range_with_len 0 (machine_end (plan_bridges design.circuit design.tree request))) in
    a.is
    ∙ ap (λ l. machines ++ l)
    (lines-same (λ c. channel_text design request default listed wires c (slice_index_or a.needs c [])) (λ c. channel_text design request default listed wires c (slice_index_or b.needs c [])) 0 (length wires)
    (λ c le lt. ap (λ l. channel_text design request default listed wires c l)
    (needs-same design.circuit listed wires c (slice_index_or a.needs c []) (slice_index_or b.needs c []) (a.are c (omega (arith, lt))) (b.are c (omega (arith, lt))))))
    ∙ sym b.is

-- ---- designs that are alike have the same text

-- a design is that of another that is alike, but for its order
pub alike-is : (one other : Ordered) → AreAlike one other → one ≡ record other { order = one.order }
alike-is one other s =
    ap (λ (f : FlatCircuit). record one { circuit = f }) s.circuit ∙ ap (λ (t : InstanceTree). record one { circuit = other.circuit; tree = t }) s.tree

-- a text of a request's cut of one design is a text of its cut of any that is alike
text-of-cut-carried : (one other : Ordered) → AreAlike one other → (request : Request) (default : ℕ) (text : List ℕ) → IsTextOfCut one request default text → IsTextOfCut other request default text
text-of-cut-carried one other s request default text a =
    let b = subst (λ (design : Ordered). IsTextOfCut design request default text) (alike-is one other s) a in
    record { needs = b.needs; count = b.count; are = b.are; is = b.is }

pub text-once : (one other : Ordered) (request : Request) (default : ℕ) (text others : List ℕ) → AreAlike one other → IsTextOfCut one request default text → IsTextOfCut other request default others → text ≡ others
text-once one other request default text others s a b =
    cut-text-once other request default (listed_of other.tree request) (plan_wires other.circuit other.tree request) text others
    (text-of-cut-carried one other s request default text a) b

-- for all designs that are alike, a request has the same first fault
pub fault-same : (one other : Ordered) → AreAlike one other → (request : Request) → first_fault one request ≡ first_fault other request
fault-same one other s request = ap (λ (design : Ordered). first_fault design request) (alike-is one other s)

pub whole-fault-same : (one other : Ordered) → AreAlike one other → (models : Models) (request : Request) → first_fault_with one models request ≡ first_fault_with other models request
whole-fault-same one other s models request = ap (λ (design : Ordered). first_fault_with design models request) (alike-is one other s)
