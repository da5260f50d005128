-- Lists that are joined from what is made of each item.
use Rattle.std.proofs.Common.{◌≡◌, ◌≢◌, ℕ, zero, suc, ◌+◌, ◌<◌, List, [], ◌∷◌, ◌++◌, length, map, get_or, Bool, true, false, refl, sym, ◌∙◌, ap, ap₂, arith}
use Rattle.std.specs.Prelude.{flat_map, filter, cond, Contains}
use Rattle.std.proofs.lemmas.List.{map-append, append-nil}
use Rattle.std.proofs.lemmas.List.Concat.{flat_map-append}
use Rattle.std.proofs.lemmas.List.Folds.{flat_map-map}
use Rattle.gg_flat.proofs.ListLemmas.{here, further}
use Rattle.gg_cut_plan.specs.Channels.{flattened, numbered}

pub flat-same : {A B : Type 0} (f g : A → List B) (xs : List A) → ((x : A) → Contains xs x → f x ≡ g x) → flat_map f xs ≡ flat_map g xs
flat-same f g [] same = refl
flat-same f g (x ∷ xs) same = ap₂ (λ a b. a ++ b) (same x (here x xs)) (flat-same f g xs (λ y h. same y (further x xs y h)))

pub flat-nothing : {A B : Type 0} (f : A → List B) (xs : List A) → ((x : A) → f x ≡ []) → flat_map f xs ≡ []
flat-nothing f [] none = refl
flat-nothing f (x ∷ xs) none = ap (λ l. l ++ flat_map f xs) (none x) ∙ flat-nothing f xs none

-- what is made of the items that pass a test
pub flat-filter : {A B : Type 0} (f : A → List B) (test : A → Bool) (xs : List A) → flat_map f (filter test xs) ≡ flat_map (λ x. cond (test x) (f x) []) xs
flat-filter f test [] = refl
flat-filter f test (x ∷ xs) = by (test x) ∙ ap (λ l. cond (test x) (f x) [] ++ l) (flat-filter f test xs)
  where
    by : (b : Bool) → flat_map f (cond b (x ∷ filter test xs) (filter test xs)) ≡ cond b (f x) [] ++ flat_map f (filter test xs)
    by true = refl
    by false = refl

pub flat-flattened : {A B C : Type 0} (h : B → List C) (f : A → List B) (xs : List A) → flat_map h (flattened f xs) ≡ flat_map (λ x. flat_map h (f x)) xs
flat-flattened h f [] = refl
flat-flattened h f (x ∷ xs) = flat_map-append h (f x) (flattened f xs) ∙ ap (λ l. flat_map h (f x) ++ l) (flat-flattened h f xs)

map-flat : {A B C : Type 0} (to : B → C) (f : A → List B) (xs : List A) → map to (flat_map f xs) ≡ flat_map (λ x. map to (f x)) xs
map-flat to f [] = refl
map-flat to f (x ∷ xs) = map-append to (f x) (flat_map f xs) ∙ ap (λ l. map to (f x) ++ l) (map-flat to f xs)

-- ---- numbered items

pub flat-numbered : {A B C : Type 0} (h : B → List C) (f : ℕ → A → List B) (g : A → List C) (n : ℕ) (xs : List A) (d : A) → ((i : ℕ) → i < length xs → flat_map h (f (n + i) (get_or xs i d)) ≡ g (get_or xs i d)) → flat_map h (numbered f n xs) ≡ flat_map g xs
flat-numbered h f g n [] d each = refl
flat-numbered h f g n (x ∷ xs) d each =
    flat_map-append h (f n x) (numbered f (suc n) xs)
    ∙ ap₂ (λ a b. a ++ b) (ap (λ k. flat_map h (f k x)) (let same : n ≡ n + 0 = omega arith in same) ∙ each 0 (omega arith))
    (flat-numbered h f g (suc n) xs d
    (λ i lt. ap (λ k. flat_map h (f k (get_or xs i d))) (let same : suc n + i ≡ n + suc i = omega arith in same) ∙ each (suc i) (omega (arith, lt))))

-- nothing is made of all items but one
pub flat-one : {A B C : Type 0} (h : B → List C) (f : ℕ → A → List B) (n : ℕ) (xs : List A) (i : ℕ) (d : A) → i < length xs → ((k : ℕ) → k < length xs → k ≢ i → flat_map h (f (n + k) (get_or xs k d)) ≡ []) → flat_map h (numbered f n xs) ≡ flat_map h (f (n + i) (get_or xs i d))
flat-one h f n [] i d lt none = absurd (omega (arith, lt))
flat-one {A = A} {C = C} h f n (x ∷ xs) zero d lt none =
    flat_map-append h (f n x) (numbered f (suc n) xs)
    ∙ ap₂ (λ a b. a ++ b) (ap (λ k. flat_map h (f k x)) (let same : n ≡ n + 0 = omega arith in same))
    (flat-numbered h f nothing (suc n) xs d
    (λ i inside. ap (λ k. flat_map h (f k (get_or xs i d))) (let same : suc n + i ≡ n + suc i = omega arith in same) ∙ none (suc i) (omega (arith, inside)) (λ e. absurd (omega (arith, e))))
    ∙ flat-nothing nothing xs (λ y. refl))
    ∙ append-nil (flat_map h (f (n + 0) x))
  where
    nothing : A → List C
    nothing y = []
flat-one h f n (x ∷ xs) (suc i) d lt none =
    flat_map-append h (f n x) (numbered f (suc n) xs)
    ∙ ap (λ l. l ++ flat_map h (numbered f (suc n) xs))
    (ap (λ k. flat_map h (f k x)) (let same : n ≡ n + 0 = omega arith in same) ∙ none 0 (omega arith) (λ e. absurd (omega (arith, e))))
    ∙ flat-one h f (suc n) xs i d (omega (arith, lt))
    (λ k inside other. ap (λ j. flat_map h (f j (get_or xs k d))) (let same : suc n + k ≡ n + suc k = omega arith in same) ∙ none (suc k) (omega (arith, inside)) (λ e. other (let same : k ≡ i = omega (arith, e) in same)))
    ∙ ap (λ k. flat_map h (f k (get_or xs i d))) (let same : suc n + i ≡ n + suc i = omega arith in same)

-- ---- items that are moved

-- what is made of moved items is what is made of the items, moved
pub flat-moved : {A B C D : Type 0} (f : A → List C) (g : B → List D) (moved : A → B) (to : C → D) (xs : List A) → ((x : A) → Contains xs x → g (moved x) ≡ map to (f x)) → flat_map g (map moved xs) ≡ map to (flat_map f xs)
flat-moved f g moved to xs moves = flat_map-map g moved xs ∙ flat-same (λ x. g (moved x)) (λ x. map to (f x)) xs moves ∙ sym (map-flat to f xs)

-- the same where the items are moved but for what `plain` takes away, which doesn't count
pub flat-alike : {A C : Type 0} (f : A → List C) (plain moved : A → A) (to : C → C) (xs ys : List A) → ((x : A) → f (plain x) ≡ f x) → ((x : A) → f (moved x) ≡ map to (f x)) → map plain ys ≡ map plain (map moved xs) → flat_map f ys ≡ map to (flat_map f xs)
flat-alike {A = A} f plain moved to xs ys same moves alike =
    sym (without ys) ∙ ap (flat_map f) alike ∙ without (map moved xs) ∙ flat-moved f f moved to xs (λ x h. moves x)
  where
    without : (zs : List A) → flat_map f (map plain zs) ≡ flat_map f zs
    without zs = flat_map-map f plain zs ∙ flat-same (λ z. f (plain z)) f zs (λ z h. same z)
