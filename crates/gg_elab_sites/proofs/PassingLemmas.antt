-- The places of a list where a test passes, in order, each at as many as pass before it.
use Rattle.std.proofs.Common.{◌≡◌, ℕ, zero, suc, ◌+◌, ◌<◌, Bool, true, false, cond, if◌then◌else◌, List, [], ◌∷◌, ◌++◌, length, take, get_or, map, refl, sym, ap, ◌∙◌, arith}
use Rattle.std.specs.Prelude.{count_by}
use Rattle.std.proofs.lemmas.List.Sums.{sum_by-cons}

-- the places where the test passes, counted from k
abbrev pub passing : {A : Type 0} → (A → Bool) → ℕ → List A → List ℕ
passing p k [] = []
passing p k (x ∷ xs) = if p x then k ∷ passing p (suc k) xs else passing p (suc k) xs

-- a place where the test passes is listed after as many as pass before it
pub passed-at : {A : Type 0} (p : A → Bool) (xs : List A) (k s : ℕ) (d : A) (e : ℕ) → s < length xs → p (get_or xs s d) ≡ true → (count_by p (take s xs) < length (passing p k xs)) × (get_or (passing p k xs) (count_by p (take s xs)) e ≡ k + s)
passed-at p [] k s d e lt h = absurd (omega (arith, lt))
passed-at p (x ∷ xs) k zero d e lt h = rw h (omega arith, omega arith)
passed-at p (x ∷ xs) k (suc s) d e lt h = go (p x) (passed-at p xs (suc k) s d e (omega (arith, lt)) h) (count_by p (x ∷ take s xs)) (sum_by-cons (λ y. cond (p y) 1 0) x (take s xs))
  where
    go : (b : Bool) → (count_by p (take s xs) < length (passing p (suc k) xs)) × (get_or (passing p (suc k) xs) (count_by p (take s xs)) e ≡ suc k + s) → (c : ℕ) → c ≡ cond b 1 0 + count_by p (take s xs) → (c < length (if b then k ∷ passing p (suc k) xs else passing p (suc k) xs)) × (get_or (if b then k ∷ passing p (suc k) xs else passing p (suc k) xs) c e ≡ k + suc s)
    go true n c is =
        let same : c ≡ suc (count_by p (take s xs)) = omega (arith, is) in
        (omega (arith, same, n.0), ap (λ i. get_or (k ∷ passing p (suc k) xs) i e) same ∙ n.1 ∙ omega arith)
    go false n c is =
        let same : c ≡ count_by p (take s xs) = omega (arith, is) in
        (omega (arith, same, n.0), ap (λ i. get_or (passing p (suc k) xs) i e) same ∙ n.1 ∙ omega arith)

-- The entry at place j of the list: a place where the test passes, with j such places before it.
pub record Passes {A : Type 0} (p : A → Bool) (xs : List A) (k j value : ℕ) : Type 0 where
  pub place : ℕ
  pub inside : place < length xs
  pub is : value ≡ k + place
  pub passes : (d : A) → p (get_or xs place d) ≡ true
  pub before : count_by p (take place xs) ≡ j

pub passing-at : {A : Type 0} (p : A → Bool) (xs : List A) (k j e : ℕ) → j < length (passing p k xs) → Passes p xs k j (get_or (passing p k xs) j e)
passing-at p [] k j e lt = absurd (omega (arith, lt))
passing-at p (x ∷ xs) k j e lt = go (p x) refl j lt (λ i. passing-at p xs (suc k) i e)
  where
    further : (i v : ℕ) (b : Bool) → p x ≡ b → Passes p xs (suc k) i v → Passes p (x ∷ xs) k (cond b 1 0 + i) v
    further i v b is r = record {
      place = suc r.place;
      inside = omega (arith, r.inside);
      is = r.is ∙ omega arith;
      passes = r.passes;
      before = sum_by-cons (λ y. cond (p y) 1 0) x (take r.place xs) ∙ ap (λ c. cond c 1 0 + count_by p (take r.place xs)) is ∙ ap (λ c. cond b 1 0 + c) r.before;
    }

    other : (i j v : ℕ) → i ≡ j → Passes p (x ∷ xs) k i v → Passes p (x ∷ xs) k j v
    other i j v is r = record { place = r.place; inside = r.inside; is = r.is; passes = r.passes; before = r.before ∙ is }

    go : (b : Bool) → p x ≡ b → (j : ℕ) → j < length (if b then k ∷ passing p (suc k) xs else passing p (suc k) xs) → ((i : ℕ) → i < length (passing p (suc k) xs) → Passes p xs (suc k) i (get_or (passing p (suc k) xs) i e)) → Passes p (x ∷ xs) k j (get_or (if b then k ∷ passing p (suc k) xs else passing p (suc k) xs) j e)
    go true is zero lt next = record { place = 0; inside = omega arith; is = omega arith; passes = λ d. is; before = refl }
    go true is (suc j) lt next = other (1 + j) (suc j) (get_or (passing p (suc k) xs) j e) (omega arith) (further j (get_or (passing p (suc k) xs) j e) true is (next j (omega (arith, lt))))
    go false is j lt next = other (0 + j) j (get_or (passing p (suc k) xs) j e) (omega arith) (further j (get_or (passing p (suc k) xs) j e) false is (next j lt))

pub passing-append : {A : Type 0} (p : A → Bool) (xs ys : List A) (k : ℕ) → passing p k (xs ++ ys) ≡ passing p k xs ++ passing p (k + length xs) ys
passing-append p [] ys k = let same : k ≡ k + 0 = omega arith in ap (λ i. passing p i ys) same
passing-append p (x ∷ xs) ys k = go (p x) (passing-append p xs ys (suc k) ∙ ap (λ i. passing p (suc k) xs ++ passing p i ys) (omega arith))
  where
    go : (b : Bool) → passing p (suc k) (xs ++ ys) ≡ passing p (suc k) xs ++ passing p (k + suc (length xs)) ys → (if b then k ∷ passing p (suc k) (xs ++ ys) else passing p (suc k) (xs ++ ys)) ≡ (if b then k ∷ passing p (suc k) xs else passing p (suc k) xs) ++ passing p (k + suc (length xs)) ys
    go true n = ap (λ l. k ∷ l) n
    go false n = n

-- if no element passes, the list is empty
pub passing-none : {A : Type 0} (p : A → Bool) (xs : List A) (k : ℕ) → ((i : ℕ) (d : A) → i < length xs → p (get_or xs i d) ≡ false) → passing p k xs ≡ []
passing-none p [] k h = refl
passing-none p (x ∷ xs) k h = rw (h 0 x (omega arith)) (passing-none p xs (suc k) (λ i d lt. h (suc i) d (omega (arith, lt))))

pub passing-map : {A B : Type 0} (p : B → Bool) (f : A → B) (xs : List A) (k : ℕ) → passing p k (map f xs) ≡ passing (λ x. p (f x)) k xs
passing-map p f [] k = refl
passing-map p f (x ∷ xs) k = ap (λ l. if p (f x) then k ∷ l else l) (passing-map p f xs (suc k))

-- there are as many as pass
pub passing-count : {A : Type 0} (p : A → Bool) (xs : List A) (k : ℕ) → length (passing p k xs) ≡ count_by p xs
passing-count p [] k = refl
passing-count p (x ∷ xs) k = go (p x) (passing-count p xs (suc k)) ∙ sym (sum_by-cons (λ y. cond (p y) 1 0) x xs)
  where
    go : (b : Bool) → length (passing p (suc k) xs) ≡ count_by p xs → length (if b then k ∷ passing p (suc k) xs else passing p (suc k) xs) ≡ cond b 1 0 + count_by p xs
    go true n = omega (arith, n)
    go false n = omega (arith, n)
