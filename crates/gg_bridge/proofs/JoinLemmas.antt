-- The lists of a circuit with a model grow item by item.
use Rattle.std.proofs.Common.{◌≡◌, ◌≢◌, ℕ, suc, ◌+◌, ◌<◌, List, [], ◌∷◌, ◌++◌, length, take, drop, get_or, false, Option, Some, None, refl, sym, ◌∙◌, ap, ap₂, subst, add-one, drop-cons, eq-eqb, arith}
use Rattle.std.specs.Prelude.{◌==◌, if◌then◌else◌, option_map, AllPairs, Contains}
use Rattle.std.specs.List.{range_with_len}
use Rattle.std.proofs.Math.Seq.{take-append-add}
use Rattle.std.proofs.lemmas.List.{take_more, map-id, length-take-le, length-append, append_assoc, get_or_default, get_or-take, get_or-append-add}
use Rattle.std.proofs.lemmas.List.FromFn.{map-range_with_len_more}
use Rattle.gg_flat.specs.declared.piece.Signal.{Signal}
use Rattle.gg_flat.specs.declared.piece.Register.{Register}
use Rattle.gg_flat.specs.declared.memory.Memory.{Memory}
use Rattle.gg_flat.specs.Circuit.{FlatCircuit}
use Rattle.gg_flat.specs.Line.{value_at}
use Rattle.gg_bridge.specs.Joined.{place_among}
use Rattle.gg_bits.specs.Lists.{by_number}

-- ---- numbers

pub range-more : (a n : ℕ) → range_with_len a (n + 1) ≡ range_with_len a n ++ (a + n) ∷ []
range-more a n = sym (map-id (range_with_len a (n + 1))) ∙ map-range_with_len_more (λ x. x) a n (a + n) refl ∙ ap (λ l. l ++ (a + n) ∷ []) (map-id (range_with_len a n))

-- a place that is counted from place i on
abbrev pub shifted : ℕ → Option ℕ → Option ℕ
shifted i place = option_map (λ k. i + k) place

pub shifted-first : (place : Option ℕ) → place ≡ shifted 0 place
shifted-first None = refl
shifted-first (Some k) = ap Some (let same : k ≡ 0 + k = omega arith in same)

shifted-next : (i : ℕ) (place : Option ℕ) → shifted i (option_map suc place) ≡ shifted (i + 1) place
shifted-next i None = refl
shifted-next i (Some k) = ap Some (let same : i + suc k ≡ i + 1 + k = omega arith in same)

at-place : (list : List ℕ) (i : ℕ) → i < length list → drop i list ≡ value_at list i ∷ drop (i + 1) list
at-place list i lt = drop-cons list i 0 lt ∙ ap (λ n. value_at list i ∷ drop n list) (sym (add-one i))

-- the number stands at place i
pub place-hit : (list : List ℕ) (s i : ℕ) → i < length list → value_at list i ≡ s → place_among list s ≡ shifted i (place_among (drop i list) s) → Some i ≡ place_among list s
place-hit list s i lt is so_far =
    sym (so_far ∙ ap (λ l. shifted i (place_among l s)) (at-place list i lt) ∙ ap (λ b. shifted i (if b then Some 0 else option_map suc (place_among (drop (i + 1) list) s))) (eq-eqb (value_at list i) s is)
    ∙ ap Some (let same : i + 0 ≡ i = omega arith in same))

-- another number stands at place i
pub place-next : (list : List ℕ) (s i : ℕ) → i < length list → (value_at list i == s) ≡ false → place_among list s ≡ shifted i (place_among (drop i list) s) → place_among list s ≡ shifted (i + 1) (place_among (drop (i + 1) list) s)
place-next list s i lt other so_far =
    so_far ∙ ap (λ l. shifted i (place_among l s)) (at-place list i lt) ∙ ap (λ b. shifted i (if b then Some 0 else option_map suc (place_among (drop (i + 1) list) s))) other
    ∙ shifted-next i (place_among (drop (i + 1) list) s)

-- ---- items by number

number-push : {A B : Type 0} (f : ℕ → A → B) (n : ℕ) (xs : List A) (x : A) → by_number f n (xs ++ x ∷ []) ≡ by_number f n xs ++ f (n + length xs) x ∷ []
number-push f n [] x = ap (λ k. f k x ∷ []) (let same : n ≡ n + 0 = omega arith in same)
number-push f n (y ∷ xs) x = ap (λ l. f n y ∷ l) (number-push f (suc n) xs x ∙ ap (λ k. by_number f (suc n) xs ++ f k x ∷ []) (let same : suc n + length xs ≡ n + suc (length xs) = omega arith in same))

-- the items by number up to one more
pub number-more : {A B : Type 0} (f : ℕ → A → B) (xs : List A) (i : ℕ) (d : A) → i < length xs → by_number f 0 (take (i + 1) xs) ≡ by_number f 0 (take i xs) ++ f i (get_or xs i d) ∷ []
number-more f xs i d lt =
    ap (by_number f 0) (take_more xs i d lt)
    ∙ number-push f 0 (take i xs) (get_or xs i d)
    ∙ ap (λ k. by_number f 0 (take i xs) ++ f k (get_or xs i d) ∷ []) (let long = length-take-le i xs (omega (arith, lt)) in let same : 0 + length (take i xs) ≡ i = omega (arith, long) in same)

-- ---- paths

-- an item of a list without repeats isn't among those before it
pub fresh-at : (paths : List (List ℕ)) (k : ℕ) → AllPairs (λ a b. a ≢ b) paths → k < length paths → ¬ Contains (take k paths) (get_or paths k [])
fresh-at paths k once lt h =
    let long = length-take-le k paths (omega (arith, lt)) in
    let low : h.0 < k = (let inside = h.1 in omega (arith, inside, long)) in
    once h.0 k [] low lt (sym (get_or-take k paths h.0 [] low) ∙ get_or_default (take k paths) h.0 [] (get_or paths k []) h.1 ∙ h.2)

-- the same behind another list
pub fresh-behind : (before paths : List (List ℕ)) (k : ℕ) → AllPairs (λ a b. a ≢ b) (before ++ paths) → k < length paths → ¬ Contains (before ++ take k paths) (get_or paths k [])
fresh-behind before paths k once lt h =
    let long = length-append before paths in
    fresh-at (before ++ paths) (length before + k) once (omega (arith, lt, long))
    (subst (λ path. Contains (take (length before + k) (before ++ paths)) path) (sym (get_or-append-add before paths k []))
    (subst (λ (l : List (List ℕ)). Contains l (get_or paths k [])) (sym (take-append-add before paths k)) h))

-- ---- a circuit that grows

pub registers-grow : (one old new : FlatCircuit) (front more : List Register) (x y : Register) → new ≡ record old { registers = old.registers ++ x ∷ [] } → old ≡ record one { registers = one.registers ++ front } → x ≡ y → more ≡ front ++ y ∷ [] → new ≡ record one { registers = one.registers ++ more }
registers-grow one old new front more x y is before same grown =
    is
    ∙ ap₂ (λ (p : FlatCircuit) z. let d : FlatCircuit = record p { registers = p.registers ++ z ∷ [] } in d) before same
    ∙ ap (λ l. let d : FlatCircuit = record one { registers = l } in d) (append_assoc one.registers front (y ∷ []) ∙ ap (λ l. one.registers ++ l) (sym grown))

pub memories-grow : (one old new : FlatCircuit) (front more : List Memory) (x y : Memory) → new ≡ record old { memories = old.memories ++ x ∷ [] } → old ≡ record one { memories = one.memories ++ front } → x ≡ y → more ≡ front ++ y ∷ [] → new ≡ record one { memories = one.memories ++ more }
memories-grow one old new front more x y is before same grown =
    is
    ∙ ap₂ (λ (p : FlatCircuit) z. let d : FlatCircuit = record p { memories = p.memories ++ z ∷ [] } in d) before same
    ∙ ap (λ l. let d : FlatCircuit = record one { memories = l } in d) (append_assoc one.memories front (y ∷ []) ∙ ap (λ l. one.memories ++ l) (sym grown))

pub signals-grow : (one old new : FlatCircuit) (paths more_paths : List (List ℕ)) (front more : List Signal) (path : List ℕ) (x y : Signal) → new ≡ record old { paths = old.paths ++ path ∷ []; signals = old.signals ++ x ∷ [] } → old ≡ record one { paths = one.paths ++ paths; signals = one.signals ++ front } → x ≡ y → more_paths ≡ paths ++ path ∷ [] → more ≡ front ++ y ∷ [] → new ≡ record one { paths = one.paths ++ more_paths; signals = one.signals ++ more }
signals-grow one old new paths more_paths front more path x y is before same grown_paths grown =
    is
    ∙ ap₂ (λ (p : FlatCircuit) z. let d : FlatCircuit = record p { paths = p.paths ++ path ∷ []; signals = p.signals ++ z ∷ [] } in d) before same
    ∙ ap₂ (λ l m. let d : FlatCircuit = record one { paths = l; signals = m } in d) (append_assoc one.paths paths (path ∷ []) ∙ ap (λ l. one.paths ++ l) (sym grown_paths)) (append_assoc one.signals front (y ∷ []) ∙ ap (λ l. one.signals ++ l) (sym grown))
