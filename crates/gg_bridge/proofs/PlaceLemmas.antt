-- A table of the first place of each number in a list.
use Rattle.std.proofs.Common.{◌≡◌, ℕ, suc, ◌+◌, ◌<◌, ◌≤◌, List, [], ◌∷◌, ◌++◌, length, take, get_or, set, replicate, Bool, true, false, true≢false, true-eqb, eq-eqb, Option, Some, None, refl, sym, ◌∙◌, ap, subst, inl, inr, ◌⊎◌, arith}
use Rattle.std.specs.Prelude.{◌==◌, ◌||◌, ◌&&◌, not, nat_lt, cond, if◌then◌else◌, option_map, is_none}
use Rattle.std.specs.List.{list_any}
use Rattle.std.proofs.lemmas.Bool.{cases_lt, lt-ltb, le-ltb}
use Rattle.std.proofs.lemmas.Grind.{get_or-set_at}
use Rattle.std.proofs.lemmas.List.Elements.{filter-append}
use Rattle.std.proofs.lemmas.List.{take_more, append-nil, length-take-le, length-replicate, length-set, get_or-replicate, get_or-set_other}
use Rattle.gg_flat.specs.Line.{value_at}
use Rattle.gg_bridge.specs.Joined.{place_among, without}
use Rattle.gg_bridge.specs.inside.Joined.{place_at, is_free, HasPlaces}

-- the first of two places
abbrev first_of : Option ℕ → Option ℕ → Option ℕ
first_of None other = other
first_of (Some k) other = Some k

next-first : (o : Option ℕ) (b : Bool) (n : ℕ) → option_map suc (first_of o (if b then Some n else None)) ≡ first_of (option_map suc o) (if b then Some (suc n) else None)
next-first (Some k) b n = refl
next-first None true n = refl
next-first None false n = refl

-- the place of a number in a list with one more
place-push : (xs : List ℕ) (x s : ℕ) → place_among (xs ++ x ∷ []) s ≡ first_of (place_among xs s) (if x == s then Some (length xs) else None)
place-push [] x s = refl
place-push (y ∷ xs) x s = by (y == s) (place-push xs x s)
  where
    by : (b : Bool) → place_among (xs ++ x ∷ []) s ≡ first_of (place_among xs s) (if x == s then Some (length xs) else None)
        → (if b then Some 0 else option_map suc (place_among (xs ++ x ∷ []) s)) ≡ first_of (if b then Some 0 else option_map suc (place_among xs s)) (if x == s then Some (suc (length xs)) else None)
    by true rest = refl
    by false rest = ap (option_map suc) rest ∙ next-first (place_among xs s) (x == s) (length xs)

place-more : (list : List ℕ) (i s : ℕ) → i < length list → place_among (take (i + 1) list) s ≡ first_of (place_among (take i list) s) (if value_at list i == s then Some i else None)
place-more list i s lt =
    ap (λ l. place_among l s) (take_more list i 0 lt)
    ∙ place-push (take i list) (value_at list i) s
    ∙ ap (λ k. first_of (place_among (take i list) s) (if value_at list i == s then Some k else None)) (length-take-le i list (omega (arith, lt)))

-- a place that is there stays the first
stays : (o other : Option ℕ) → is_none o ≡ false → o ≡ first_of o other
stays None other is = absurd (true≢false is)
stays (Some k) other is = refl

is-none : (o : Option ℕ) → is_none o ≡ true → o ≡ None
is-none None is = refl
is-none (Some k) is = absurd (true≢false (sym is))

first-none : (o : Option ℕ) → o ≡ first_of o None
first-none None = refl
first-none (Some k) = refl

both : (t u : Bool) → (t && u) ≡ true → (t ≡ true) × (u ≡ true)
both true true is = (refl, refl)
both true false is = absurd (true≢false (sym is))
both false u is = absurd (true≢false (sym is))

low-free : (places : List (Option ℕ)) (x : ℕ) → is_free places x ≡ true → x < length places
low-free places x is = by (cases_lt x (length places))
  where
    by : (x < length places) ⊎ (length places ≤ x) → x < length places
    by (inl low) = low
    by (inr high) = absurd (true≢false (sym (both (nat_lt x (length places)) (is_none (place_at places x)) is).0 ∙ le-ltb x (length places) high))

-- the table for one item more is the same, if the item isn't in the table or has a place
pub places_kept : (list : List ℕ) (count i : ℕ) (places : List (Option ℕ)) → HasPlaces (take i list) count places → i < length list → is_free places (value_at list i) ≡ false → HasPlaces (take (i + 1) list) count places
places_kept list count i places has lt taken =
    record {
      many = has.many;
      each = λ s low. has.each s low ∙ by s low (value_at list i == s) refl ∙ sym (place-more list i s lt);
    }
  where
    by : (s : ℕ) → s < count → (b : Bool) → (value_at list i == s) ≡ b → place_among (take i list) s ≡ first_of (place_among (take i list) s) (if b then Some i else None)
    by s low false e = first-none (place_among (take i list) s)
    by s low true e =
        let same : value_at list i ≡ s = true-eqb (value_at list i) s (sym e) in
        let less : nat_lt s (length places) ≡ true = lt-ltb s (length places) (omega (arith, low, has.many)) in
        let free : (nat_lt s (length places) && is_none (place_at places s)) ≡ false = subst (λ n. is_free places n ≡ false) same taken in
        stays (place_among (take i list) s) (Some i)
        (subst (λ (o : Option ℕ). is_none o ≡ false) (has.each s low) (subst (λ (b : Bool). (b && is_none (place_at places s)) ≡ false) less free))

-- otherwise it gets its place
pub places_set : (list : List ℕ) (count i : ℕ) (places : List (Option ℕ)) → HasPlaces (take i list) count places → i < length list → is_free places (value_at list i) ≡ true → HasPlaces (take (i + 1) list) count (set places (value_at list i) (Some i))
places_set list count i places has lt free =
    record {
      many = length-set places (value_at list i) (Some i) ∙ has.many;
      each = λ s inside. by s inside (value_at list i == s) refl ∙ sym (place-more list i s lt);
    }
  where
    none : is_none (place_at places (value_at list i)) ≡ true
    none = (both (nat_lt (value_at list i) (length places)) (is_none (place_at places (value_at list i))) free).1

    by : (s : ℕ) → s < count → (b : Bool) → (value_at list i == s) ≡ b → get_or (set places (value_at list i) (Some i)) s None ≡ first_of (place_among (take i list) s) (if b then Some i else None)
    by s inside true e =
        let same : value_at list i ≡ s = true-eqb (value_at list i) s (sym e) in
        get_or-set_at places (value_at list i) s (Some i) None (sym same) (low-free places (value_at list i) free)
        ∙ ap (λ (o : Option ℕ). first_of o (Some i)) (sym (sym (has.each s inside) ∙ ap (place_at places) (sym same) ∙ is-none (place_at places (value_at list i)) none))
    by s inside false e =
        get_or-set_other places (value_at list i) s (Some i) None (λ same. true≢false (sym (eq-eqb (value_at list i) s (sym same)) ∙ e)) ∙ has.each s inside ∙ first-none (place_among (take i list) s)

-- the empty list has no places
pub places_none : (count : ℕ) → HasPlaces [] count (replicate count None)
places_none count = record { many = length-replicate count None; each = λ s lt. get_or-replicate count s None None lt }

-- ---- what is left

-- a number has no place where it isn't in the list
none-any : (xs : List ℕ) (s : ℕ) → is_none (place_among xs s) ≡ not (list_any (λ t. t == s) xs)
none-any [] s = refl
none-any (x ∷ xs) s = by (x == s) (place_among xs s) (none-any xs s)
  where
    by : (b : Bool) (o : Option ℕ) → is_none o ≡ not (list_any (λ t. t == s) xs) → is_none (if b then Some 0 else option_map suc o) ≡ not (b || list_any (λ t. t == s) xs)
    by true o rest = refl
    by false None rest = rest
    by false (Some k) rest = rest

left-more : (gone list : List ℕ) (k : ℕ) (b : Bool) → k < length list → is_none (place_among gone (value_at list k)) ≡ b → without gone (take (k + 1) list) ≡ without gone (take k list) ++ cond b (value_at list k ∷ []) []
left-more gone list k b lt is =
    ap (without gone) (take_more list k 0 lt)
    ∙ filter-append (λ s. not (list_any (λ t. t == s) gone)) (take k list) (value_at list k ∷ [])
    ∙ ap (λ (t : Bool). without gone (take k list) ++ cond t (value_at list k ∷ []) []) (sym (none-any gone (value_at list k)) ∙ is)

pub left-taken : (gone list : List ℕ) (k : ℕ) → k < length list → is_none (place_among gone (value_at list k)) ≡ true → without gone (take (k + 1) list) ≡ without gone (take k list) ++ value_at list k ∷ []
left-taken gone list k lt is = left-more gone list k true lt is

pub left-skipped : (gone list : List ℕ) (k : ℕ) → k < length list → is_none (place_among gone (value_at list k)) ≡ false → without gone (take (k + 1) list) ≡ without gone (take k list)
left-skipped gone list k lt is = left-more gone list k false lt is ∙ append-nil (without gone (take k list))
