-- Lists of words that all differ, made of other such lists; and words by the name that they begin with.
use Rattle.std.proofs.Common.{◌≡◌, ◌⊎◌, inl, inr, ℕ, ◌+◌, ◌-◌, ◌<◌, ◌≤◌, List, [], ◌∷◌, ◌++◌, Option, Some, None, option_to_list, length, get_or, map, refl, sym, ap, ◌∙◌, subst, arith, length-append}
use Rattle.std.specs.Prelude.{Contains, flat_map, filter_map}
use Rattle.std.specs.List.{cons_option}
use Rattle.std.proofs.lemmas.Bool.{cases_lt}
use Rattle.std.proofs.lemmas.List.{length-map, get_or-map, map-append}
use Rattle.std.proofs.lemmas.List.Elements.{Contains-append_left, Contains-append_right, Contains-append_cases}
use Rattle.std.proofs.Math.Seq.{get_or-append_right}
use Rattle.gg_elab_sites.proofs.FreshLemmas.{Differ-front}
use Rattle.gg_elab_sites.proofs.NameLemmas.{Differ}
use Rattle.gg_elab_tree.proofs.NamesLemmas.DeclaredLemmas.{Differ-behind, Differ-parts}
use Rattle.gg_elab_tree.proofs.NamesLemmas.JoinLemmas.{dot-within}
use Rattle.gg_elab_tree.proofs.OwnLemmas.{front}
use Rattle.gg_elab_sites.proofs.AmongLemmas.{element-at, MadeOf, in-flat_map, from-flat_map}
use Rattle.gg_flat.proofs.ListLemmas.{further}

-- ---- words that differ

pub Differ-none : Differ []
Differ-none i j d lt within = absurd (omega (arith, within))

pub Differ-one : (w : List ℕ) → Differ (w ∷ [])
Differ-one w i j d lt within = absurd (omega (arith, lt, within))

-- two lists of words that differ, with no word in common, differ together
pub Differ-append : (xs ys : List (List ℕ)) → Differ xs → Differ ys → ((w : List ℕ) → Contains xs w → ¬ Contains ys w) → Differ (xs ++ ys)
Differ-append xs ys one other apart i j d lt within same = go (cases_lt i (length xs)) (cases_lt j (length xs))
  where
    size : length (xs ++ ys) ≡ length xs + length ys
    size = length-append xs ys

    go : (i < length xs) ⊎ (length xs ≤ i) → (j < length xs) ⊎ (length xs ≤ j) → ⊥
    go (inl a) (inl b) = one i j d lt b (sym (front xs ys i d a) ∙ same ∙ front xs ys j d b)
    go (inl a) (inr b) =
        let x = element-at xs i a in
        let y = element-at ys (j - length xs) (omega (arith, b, within, size)) in
        let equal : x.element ≡ y.element = sym (x.is d) ∙ sym (front xs ys i d a) ∙ same ∙ get_or-append_right xs ys j d b ∙ y.is d in
        apart x.element x.among (subst (Contains ys) (sym equal) y.among)
    go (inr a) (inl b) = absurd (omega (arith, lt, a, b))
    go (inr a) (inr b) = other (i - length xs) (j - length xs) d (omega (arith, lt, a, b)) (omega (arith, b, within, size)) (sym (get_or-append_right xs ys i d a) ∙ same ∙ get_or-append_right xs ys j d b)

pub Differ-map : (f : List ℕ → List ℕ) (xs : List (List ℕ)) → ((a b : List ℕ) → f a ≡ f b → a ≡ b) → Differ xs → Differ (map f xs)
Differ-map f xs once differ i j d lt within same =
    let inside : j < length xs = omega (arith, within, length-map xs f) in
    differ i j [] lt inside (once (get_or xs i []) (get_or xs j []) (sym (get_or-map f xs i [] d (omega (arith, lt, inside))) ∙ same ∙ get_or-map f xs j [] d inside))

-- the first two of three lists of words that differ may change places
pub Differ-turned : (xs ys zs : List (List ℕ)) → Differ (xs ++ (ys ++ zs)) → Differ (ys ++ (xs ++ zs))
Differ-turned xs ys zs differ =
    let behind = Differ-behind xs (ys ++ zs) differ in
    Differ-append ys (xs ++ zs) (Differ-front ys zs behind)
    (Differ-append xs zs (Differ-front xs (ys ++ zs) differ) (Differ-behind ys zs behind) (λ w a b. Differ-parts xs (ys ++ zs) w differ a (Contains-append_right ys zs w b)))
    (λ w a b. go w a (Contains-append_cases xs zs w b))
  where
    go : (w : List ℕ) → Contains ys w → Contains xs w ⊎ Contains zs w → ⊥
    go w a (inl b) = Differ-parts xs (ys ++ zs) w differ b (Contains-append_left ys zs w a)
    go w a (inr b) = Differ-parts ys zs w (Differ-behind xs (ys ++ zs) differ) a b

-- ---- words with dots

abbrev tail_of : List ℕ → List ℕ
tail_of [] = []
tail_of (b ∷ bs) = bs

abbrev pub head_of : List ℕ → ℕ
head_of [] = 0
head_of (b ∷ bs) = b

-- in equal words, what follows the dot is the same if what comes before it is
pub behind-once : (a r s : List ℕ) → a ++ 46 ∷ r ≡ a ++ 46 ∷ s → r ≡ s
behind-once [] r s e = ap tail_of e
behind-once (b ∷ bs) r s e = behind-once bs r s (ap tail_of e)

abbrev pub IsDotless : List ℕ → Type 0
IsDotless w = ¬ Contains w 46

-- in equal words, the name before the first dot is the same
pub first-once : (a b r s : List ℕ) → IsDotless a → IsDotless b → a ++ 46 ∷ r ≡ b ++ 46 ∷ s → a ≡ b
first-once [] [] r s plain other e = refl
first-once [] (y ∷ ys) r s plain other e = absurd (other (0, omega arith, sym (ap head_of e)))
first-once (x ∷ xs) [] r s plain other e = absurd (plain (0, omega arith, ap head_of e))
first-once (x ∷ xs) (y ∷ ys) r s plain other e =
    ap (λ h. h ∷ xs) (ap head_of e) ∙ ap (λ l. y ∷ l) (first-once xs ys r s (λ c. plain (further x xs 46 c)) (λ c. other (further y ys 46 c)) (ap tail_of e))

-- A word is one of these names, or begins with one and a dot.
pub record BeginsIn (names : List (List ℕ)) (w : List ℕ) : Type 0 where
  pub first : List ℕ
  pub among : Contains names first
  pub is : (w ≡ first) ⊎ ((r : List ℕ) × (w ≡ first ++ 46 ∷ r))

pub begins-more : (xs ys : List (List ℕ)) (w : List ℕ) → ((n : List ℕ) → Contains xs n → Contains ys n) → BeginsIn xs w → BeginsIn ys w
begins-more xs ys w more b = record { first = b.first; among = more b.first b.among; is = b.is }

same-first : (w a b : List ℕ) → IsDotless a → IsDotless b → (w ≡ a) ⊎ ((r : List ℕ) × (w ≡ a ++ 46 ∷ r)) → (w ≡ b) ⊎ ((r : List ℕ) × (w ≡ b ++ 46 ∷ r)) → a ≡ b
same-first w a b plain other (inl x) (inl y) = sym x ∙ y
same-first w a b plain other (inl x) (inr y) = absurd (plain (subst (λ l. Contains l 46) (sym y.1 ∙ x) (dot-within b y.0)))
same-first w a b plain other (inr x) (inl y) = absurd (other (subst (λ l. Contains l 46) (sym x.1 ∙ y) (dot-within a x.0)))
same-first w a b plain other (inr x) (inr y) = first-once a b x.0 y.0 plain other (sym x.1 ∙ y.1)

-- no word begins with a name of each of two lists, if all their names differ
pub begins-apart : (xs ys : List (List ℕ)) (w : List ℕ) → Differ (xs ++ ys) → ((n : List ℕ) → Contains (xs ++ ys) n → IsDotless n) → BeginsIn xs w → BeginsIn ys w → ⊥
begins-apart xs ys w differ plain a b =
    let same = same-first w a.first b.first (plain a.first (Contains-append_left xs ys a.first a.among)) (plain b.first (Contains-append_right xs ys b.first b.among)) a.is b.is in
    Differ-parts xs ys a.first differ a.among (subst (Contains ys) (sym same) b.among)

-- the words of all parts differ, if those of each part do and begin with the part's names, and all names differ
pub parts-differ : {A : Type 0} (names words : A → List (List ℕ)) (xs : List A) → Differ (flat_map names xs) → ((n : List ℕ) → Contains (flat_map names xs) n → IsDotless n) → ((x : A) → Contains xs x → Differ (words x)) → ((x : A) (w : List ℕ) → Contains xs x → Contains (words x) w → BeginsIn (names x) w) → Differ (flat_map words xs)
parts-differ names words [] differ plain each begins = Differ-none
parts-differ names words (x ∷ xs) differ plain each begins =
    Differ-append (words x) (flat_map words xs) (each x (0, omega arith, refl))
    (parts-differ names words xs (Differ-behind (names x) (flat_map names xs) differ) (λ n c. plain n (Contains-append_right (names x) (flat_map names xs) n c)) (λ y c. each y (further x xs y c)) (λ y w c. begins y w (further x xs y c)))
    (λ w a b. begins-apart (names x) (flat_map names xs) w differ plain (begins x w (0, omega arith, refl) a) (later w (from-flat_map words xs w b)))
  where
    later : (w : List ℕ) → MadeOf (λ y z. Contains (words y) z) xs w → BeginsIn (flat_map names xs) w
    later w m = begins-more (names m.of) (flat_map names xs) w (λ n c. in-flat_map names xs m.of n m.among c) (begins m.of w (further x xs m.of m.among) m.made)

-- the names of what `filter_map` keeps, element by element
pub filter_map-parts : {A B : Type 0} (f : A → Option B) (name : B → List ℕ) (xs : List A) → map name (filter_map f xs) ≡ flat_map (λ x. map name (option_to_list (f x))) xs
filter_map-parts f name [] = refl
filter_map-parts f name (x ∷ xs) = go (f x) (filter_map-parts f name xs)
  where
    go : (o : Option _) → map name (filter_map f xs) ≡ flat_map (λ y. map name (option_to_list (f y))) xs → map name (cons_option o (filter_map f xs)) ≡ map name (option_to_list o) ++ flat_map (λ y. map name (option_to_list (f y))) xs
    go None e = e
    go (Some y) e = ap (λ l. name y ∷ l) e

pub flat_map-parts : {A B : Type 0} (f : A → List B) (name : B → List ℕ) (xs : List A) → map name (flat_map f xs) ≡ flat_map (λ x. map name (f x)) xs
flat_map-parts f name [] = refl
flat_map-parts f name (x ∷ xs) = map-append name (f x) (flat_map f xs) ∙ ap (λ l. map name (f x) ++ l) (flat_map-parts f name xs)
