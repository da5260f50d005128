-- The names of a cut, with one more machine.
use Rattle.std.proofs.Common.{◌≡◌, ℕ, zero, suc, ◌+◌, ◌<◌, List, [], ◌∷◌, ◌++◌, length, map, take, get_or, refl, sym, ap, ◌∙◌, arith, append_assoc}
use Rattle.std.specs.List.{range_with_len}
use Rattle.gg_replay.specs.steps_file.Naming.{Naming}

-- what a function makes of the first items of a list, and of one more
map-more : {A B : Type 0} (f : A → B) (xs : List A) (m : ℕ) (d : A) → m < length xs → map f (take m xs) ++ f (get_or xs m d) ∷ [] ≡ map f (take (suc m) xs)
map-more f [] m d lt = absurd (omega arith)
map-more f (x ∷ xs) zero d lt = refl
map-more f (x ∷ xs) (suc m) d lt = ap (λ l. f x ∷ l) (map-more f xs m d (omega (arith, lt)))

-- what a function makes of some numbers in order, and of one more
pub range-more : {B : Type 0} (g : ℕ → B) (a m : ℕ) → map g (range_with_len a m) ++ g (a + m) ∷ [] ≡ map g (range_with_len a (suc m))
range-more g a zero = ap (λ k. g k ∷ []) (let e : a + 0 ≡ a = omega arith in e)
range-more g a (suc m) =
    ap (λ l. g a ∷ l) (ap (λ k. map g (range_with_len (a + 1) m) ++ g k ∷ []) (let e : a + suc m ≡ a + 1 + m = omega arith in e) ∙ range-more g (a + 1) m)

pub named-more : {A : Type 0} (f : A → List ℕ) (g : ℕ → List (List ℕ)) (xs : List A) (m : ℕ) (it d : A) (name : List ℕ) (ports : List (List ℕ)) (old now new : Naming)
    → m < length xs → get_or xs m d ≡ it → name ≡ f it → ports ≡ g m
    → now ≡ record old { machines = old.machines ++ map f (take m xs); ports = old.ports ++ map g (range_with_len 0 m) }
    → new ≡ record now { machines = now.machines ++ name ∷ []; ports = now.ports ++ ports ∷ [] }
    → new ≡ record old { machines = old.machines ++ map f (take (m + 1) xs); ports = old.ports ++ map g (range_with_len 0 (m + 1)) }
named-more f g xs m it d name ports old now new lt at is own so more =
    let next : suc m ≡ m + 1 = omega arith in
    let machines : (old.machines ++ map f (take m xs)) ++ name ∷ [] ≡ old.machines ++ map f (take (m + 1) xs) =
    append_assoc old.machines (map f (take m xs)) (name ∷ [])
    ∙ ap (λ x. old.machines ++ (map f (take m xs) ++ x ∷ [])) (is ∙ ap f (sym at))
    ∙ ap (λ l. old.machines ++ l) (map-more f xs m d lt)
    ∙ ap (λ k. old.machines ++ map f (take k xs)) next in
    let named : (old.ports ++ map g (range_with_len 0 m)) ++ ports ∷ [] ≡ old.ports ++ map g (range_with_len 0 (m + 1)) =
    append_assoc old.ports (map g (range_with_len 0 m)) (ports ∷ [])
    ∙ ap (λ x. old.ports ++ (map g (range_with_len 0 m) ++ x ∷ [])) (own ∙ ap g (let e : m ≡ 0 + m = omega arith in e))
    ∙ ap (λ l. old.ports ++ l) (range-more g 0 m)
    ∙ ap (λ k. old.ports ++ map g (range_with_len 0 k)) next in
    more
    ∙ ap (λ (x : Naming). record x { machines = x.machines ++ name ∷ []; ports = x.ports ++ ports ∷ [] }) so
    ∙ ap (λ l. record old { machines = l; ports = (old.ports ++ map g (range_with_len 0 m)) ++ ports ∷ [] }) machines
    ∙ ap (λ l. record old { machines = old.machines ++ map f (take (m + 1) xs); ports = l }) named
