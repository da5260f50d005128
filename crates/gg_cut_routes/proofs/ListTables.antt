-- Lists that are filled item by item, and what they contain.
use Rattle.std.proofs.Common.{◌≡◌, ℕ, zero, suc, ◌+◌, ◌<◌, List, [], ◌∷◌, ◌++◌, length, map, take, drop, get_or, Bool, true, false, Option, Some, None, refl, sym, ◌∙◌, ap, ap₂, subst, eq-eqb, arith}
use Rattle.std.specs.Prelude.{◌↔◌, ◌==◌, cond, if◌then◌else◌, filter, flat_map, Contains}
use Rattle.std.specs.List.{list_any}
use Rattle.std.specs.Option.{option_to_list}
use Rattle.std.proofs.lemmas.Bool.{eqb-true}
use Rattle.std.proofs.lemmas.List.{map-append, flat_map_more, take_more}
use Rattle.std.proofs.Math.Seq.{take-append_seam}
use Rattle.std.proofs.lemmas.List.Elements.{filter_more, Contains-get_or}
use Rattle.gg_flat.proofs.ListLemmas.{some-item, here, further}
use Rattle.gg_cut_split.proofs.ClosedLemmas.ListLemmas.{flattened-cases, flat_map-is}
use Rattle.gg_cut_plan.proofs.OriginLemmas.{any-finds, finds-any, clash}

pub filter-next : {A : Type 0} (test : A → Bool) (xs : List A) (i : ℕ) (d : A) → i < length xs → filter test (take (i + 1) xs) ≡ filter test (take i xs) ++ (if test (get_or xs i d) then get_or xs i d ∷ [] else [])
filter-next {A = A} test xs i d lt = filter_more test xs i d lt ∙ ap (λ (l : List A). filter test (take i xs) ++ l) (by (test (get_or xs i d)))
  where
    by : (b : Bool) → cond b (get_or xs i d ∷ []) [] ≡ (if b then get_or xs i d ∷ [] else [])
    by true = refl
    by false = refl

-- lists with the same items pass a test alike
pub any-same : {A : Type 0} (test : A → Bool) (xs ys : List A) → ((x : A) → Contains xs x ↔ Contains ys x) → list_any test xs ≡ list_any test ys
any-same test xs ys same = by (list_any test xs) (list_any test ys) refl refl
  where
    by : (a b : Bool) → list_any test xs ≡ a → list_any test ys ≡ b → a ≡ b
    by true true e f = refl
    by false false e f = refl
    by true false e f = let h = any-finds test xs e in absurd (clash (list_any test ys) (finds-any test ys h.item ((same h.item).0 h.among) h.passes) f)
    by false true e f = let h = any-finds test ys f in absurd (clash (list_any test xs) (finds-any test xs h.item ((same h.item).1 h.among) h.passes) e)

-- an item is among what f makes of an item of the list
pub record IsMadeOf {A B : Type 0} (f : A → List B) (xs : List A) (y : B) : Type 0 where
  pub item : A
  pub among : Contains xs item
  pub has : Contains (f item) y

pub flat-out : {A B : Type 0} (f : A → List B) (xs : List A) (y : B) → Contains (flat_map f xs) y → IsMadeOf f xs y
flat-out {B = B} f xs y h =
    let at = flattened-cases f xs y (subst (λ (l : List B). Contains l y) (flat_map-is f xs) h) in
    let any = some-item xs at.place at.within in
    record { item = get_or xs at.place any; among = Contains-get_or xs at.place any at.within; has = at.holds any }

pub some-is : (o : Option ℕ) (x : ℕ) → Contains (option_to_list o) x → o ≡ Some x
some-is None x h = absurd (omega (arith, h.1))
some-is (Some y) x (zero, lt, e) = ap Some e
some-is (Some y) x (suc k, lt, e) = absurd (omega (arith, lt))

pub is-some : (o : Option ℕ) (x : ℕ) → o ≡ Some x → Contains (option_to_list o) x
is-some o x e = subst (λ (p : Option ℕ). Contains (option_to_list p) x) (sym e) (here x [])

pub listed-any : (xs : List ℕ) (s : ℕ) → Contains xs s → list_any (λ t. s == t) xs ≡ true
listed-any xs s h = finds-any (λ t. s == t) xs s h (eq-eqb s s refl)

pub any-listed : (xs : List ℕ) (s : ℕ) → list_any (λ t. s == t) xs ≡ true → Contains xs s
any-listed xs s e = let h = any-finds (λ t. s == t) xs e in subst (λ t. Contains xs t) (sym (eqb-true s h.item h.passes)) h.among

pub map-filter-same : {A B : Type 0} (f g : A → B) (p q : A → Bool) (xs : List A) → ((x : A) → Contains xs x → p x ≡ q x) → ((x : A) → Contains xs x → f x ≡ g x) → map f (filter p xs) ≡ map g (filter q xs)
map-filter-same f g p q [] tests items = refl
map-filter-same {A = A} {B = B} f g p q (x ∷ xs) tests items =
    ap (λ b. map f (cond b (x ∷ filter p xs) (filter p xs))) (tests x (here x xs))
    ∙ by (q x) (items x (here x xs)) (map-filter-same f g p q xs (λ y h. tests y (further x xs y h)) (λ y h. items y (further x xs y h)))
  where
    by : (b : Bool) → f x ≡ g x → map f (filter p xs) ≡ map g (filter q xs) → map f (cond b (x ∷ filter p xs) (filter p xs)) ≡ map g (cond b (x ∷ filter q xs) (filter q xs))
    by true same rest = ap₂ (λ (y : B) (ys : List B). y ∷ ys) same rest
    by false same rest = rest

pub map-filter-next : {A B : Type 0} (f : A → B) (test : A → Bool) (xs : List A) (i : ℕ) (d : A) → i < length xs → map f (filter test (take (i + 1) xs)) ≡ map f (filter test (take i xs)) ++ (if test (get_or xs i d) then f (get_or xs i d) ∷ [] else [])
map-filter-next {A = A} {B = B} f test xs i d lt =
    ap (map f) (filter-next test xs i d lt)
    ∙ map-append f (filter test (take i xs)) (if test (get_or xs i d) then get_or xs i d ∷ [] else [])
    ∙ ap (λ (l : List B). map f (filter test (take i xs)) ++ l) (by (test (get_or xs i d)))
  where
    by : (b : Bool) → map f (if b then get_or xs i d ∷ [] else []) ≡ (if b then f (get_or xs i d) ∷ [] else [])
    by true = refl
    by false = refl

-- what one more element of a list gives
pub flat-next : {A B : Type 0} (f : A → List B) (old now new : List B) (xs : List A) (i : ℕ) (d : A) → i < length xs → now ≡ old ++ flat_map f (take i xs) → new ≡ now ++ f (get_or xs i d) → new ≡ old ++ flat_map f (take (i + 1) xs)
flat-next f old now new xs i d lt was is =
    is ∙ ap (λ l. l ++ f (get_or xs i d)) was ∙ flat_map_more f old (take i xs) (get_or xs i d) ∙ ap (λ l. old ++ flat_map f l) (sym (take_more xs i d lt))

-- a list that replaces all of a vector's elements
pub written-back : {A : Type 0} (n : ℕ) (new old : List A) → n ≡ length old → length new ≡ length old → take n (new ++ drop (length new) old) ≡ new
written-back n new old is same = ap (λ k. take k (new ++ drop (length new) old)) (is ∙ sym same) ∙ take-append_seam new (drop (length new) old)
