-- Two items of a list, one before the other.
use Rattle.std.proofs.Common.{◌≡◌, ℕ, zero, suc, ◌+◌, ◌<◌, List, [], ◌∷◌, ◌++◌, length, map, get_or, Bool, true, false, sym, ◌∙◌, ap, subst, arith}
use Rattle.std.specs.Prelude.{cond, filter}
use Rattle.std.proofs.lemmas.List.{length-append, length-map, get_or_append_left, get_or-map, get_or_default}
use Rattle.gg_flat.proofs.ListLemmas.{Contains-filter}
use Rattle.gg_cut_plan.specs.Channels.{flattened, numbered}

-- u comes before v
pub record IsBefore {A : Type 0} (u v : A) (xs : List A) : Type 0 where
  pub first : ℕ
  pub second : ℕ
  pub less : first < second
  pub within : second < length xs
  pub is_first : (d : A) → get_or xs first d ≡ u
  pub is_second : (d : A) → get_or xs second d ≡ v

pub before-left : {A : Type 0} (u v : A) (xs ys : List A) → IsBefore u v xs → IsBefore u v (xs ++ ys)
before-left u v xs ys b =
    let inside = b.within in
    let low : b.first < length xs = omega (arith, b.less, inside) in
    record {
      first = b.first;
      second = b.second;
      less = b.less;
      within = omega (arith, inside, length-append xs ys);
      is_first = λ d. get_or_append_left xs ys d b.first low ∙ b.is_first d;
      is_second = λ d. get_or_append_left xs ys d b.second inside ∙ b.is_second d;
    }

later : {A : Type 0} (u v x : A) (xs : List A) → IsBefore u v xs → IsBefore u v (x ∷ xs)
later u v x xs b = record { first = suc b.first; second = suc b.second; less = omega (arith, b.less); within = omega (arith, b.within); is_first = b.is_first; is_second = b.is_second }

pub before-right : {A : Type 0} (u v : A) (xs ys : List A) → IsBefore u v ys → IsBefore u v (xs ++ ys)
before-right u v [] ys b = b
before-right u v (x ∷ xs) ys b = later u v x (xs ++ ys) (before-right u v xs ys b)

pub flattened-before : {A B : Type 0} (u v : B) (f : A → List B) (xs : List A) (i : ℕ) (d : A) → i < length xs → IsBefore u v (f (get_or xs i d)) → IsBefore u v (flattened f xs)
flattened-before u v f [] i d lt b = absurd (omega (arith, lt))
flattened-before u v f (x ∷ xs) zero d lt b = before-left u v (f x) (flattened f xs) b
flattened-before u v f (x ∷ xs) (suc i) d lt b = before-right u v (f x) (flattened f xs) (flattened-before u v f xs i d (omega (arith, lt)) b)

pub numbered-before : {A B : Type 0} (u v : B) (f : ℕ → A → List B) (n : ℕ) (xs : List A) (i : ℕ) (d : A) → i < length xs → IsBefore u v (f (n + i) (get_or xs i d)) → IsBefore u v (numbered f n xs)
numbered-before u v f n [] i d lt b = absurd (omega (arith, lt))
numbered-before u v f n (x ∷ xs) zero d lt b =
    before-left u v (f n x) (numbered f (suc n) xs) (subst (λ k. IsBefore u v (f k x)) (let same : n + 0 ≡ n = omega arith in same) b)
numbered-before u v f n (x ∷ xs) (suc i) d lt b =
    before-right u v (f n x) (numbered f (suc n) xs)
    (numbered-before u v f (suc n) xs i d (omega (arith, lt)) (subst (λ k. IsBefore u v (f k (get_or xs i d))) (let same : n + suc i ≡ suc n + i = omega arith in same) b))

pub map-before : {A B : Type 0} (u v : A) (f : A → B) (xs : List A) → IsBefore u v xs → IsBefore (f u) (f v) (map f xs)
map-before u v f xs b =
    let inside = b.within in
    let low : b.first < length xs = omega (arith, b.less, inside) in
    record {
      first = b.first;
      second = b.second;
      less = b.less;
      within = omega (arith, inside, length-map xs f);
      is_first = λ d. get_or-map f xs b.first u d low ∙ ap f (b.is_first u);
      is_second = λ d. get_or-map f xs b.second v d inside ∙ ap f (b.is_second v);
    }

-- of the items that pass a test the order stays
pub filter-before : {A : Type 0} (u v : A) (test : A → Bool) (xs : List A) → test u ≡ true → test v ≡ true → IsBefore u v xs → IsBefore u v (filter test xs)
filter-before {A = A} u v test xs first second b = go xs b.first b.second b.less b.within b.is_first b.is_second
  where
    go : (xs : List A) (i k : ℕ) → i < k → k < length xs → ((d : A) → get_or xs i d ≡ u) → ((d : A) → get_or xs k d ≡ v) → IsBefore u v (filter test xs)
    go [] i k less lt at other = absurd (omega (arith, lt))
    go (x ∷ xs) i zero less lt at other = absurd (omega (arith, less))
    go (x ∷ xs) zero (suc k) less lt at other =
        let rest = Contains-filter test xs v (k, omega (arith, lt), other v) second in
        subst (λ b. IsBefore u v (cond b (x ∷ filter test xs) (filter test xs))) (sym (ap test (at x) ∙ first))
        (record { first = 0; second = suc rest.0; less = omega arith; within = omega (arith, rest.1); is_first = at; is_second = λ d. get_or_default (filter test xs) rest.0 d v rest.1 ∙ rest.2 })
    go (x ∷ xs) (suc i) (suc k) less lt at other = by (test x) (go xs i k (omega (arith, less)) (omega (arith, lt)) at other)
      where
        by : (b : Bool) → IsBefore u v (filter test xs) → IsBefore u v (cond b (x ∷ filter test xs) (filter test xs))
        by true rest = later u v x (filter test xs) rest
        by false rest = rest
