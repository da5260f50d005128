-- The machine of each instance, in one pass over the tree.
use Rattle.std.proofs.Common.{◌≡◌, ◌≢◌, ℕ, zero, suc, ◌+◌, ◌<◌, ◌≤◌, List, [], ◌∷◌, ◌++◌, length, set, take, Bool, true, false, true-eqb, eq-eqb, nat_lt, ltb-true, lt-ltb, le-ltb, true≢false, refl, sym, ◌∙◌, ap, ap₂, Some, None, inl, inr, ◌⊎◌, arith, below_more}
use Rattle.std.specs.Prelude.{Option, ◌||◌, ◌==◌, if◌then◌else◌, option_map}
use Rattle.std.proofs.lemmas.Bool.{cases_lt}
use Rattle.std.proofs.lemmas.List.{take_more, length-take-le, get_or-set_same, get_or-set_other, length-set}
use Rattle.gg_flat.specs.Line.{value_at}
use Rattle.gg_flat_tree.specs.Tree.{InstanceTree, instance_at}
use Rattle.gg_cut_plan.specs.Listed.{lies, first_place, unit_or_hub, owner_of_instance}
use Rattle.gg_cut_plan.specs.inside.Listed.{ParentsBefore}
use Rattle.gg_cut_plan.specs.inside.Owners.{earlier, above_by, above}
use Rattle.gg_cut_plan.proofs.ChainLemmas.{lies-parent, lies-alone}

lt-suc : (a b : ℕ) → nat_lt (suc a) (suc b) ≡ nat_lt a b
lt-suc a b = by (cases_lt a b)
  where
    by : (a < b) ⊎ (b ≤ a) → nat_lt (suc a) (suc b) ≡ nat_lt a b
    by (inl lt) = lt-ltb (suc a) (suc b) (omega arith) ∙ sym (lt-ltb a b lt)
    by (inr le) = le-ltb (suc a) (suc b) (omega arith) ∙ sym (le-ltb a b le)

-- ---- the first place of two tests

pub first-of-two : {A : Type 0} (p q : A → Bool) (xs : List A) → unit_or_hub (first_place (λ x. p x || q x) xs) ≡ earlier (unit_or_hub (first_place p xs)) (unit_or_hub (first_place q xs))
first-of-two p q [] = refl
first-of-two p q (x ∷ xs) = by (p x) (q x) (first_place (λ x. p x || q x) xs) (first_place p xs) (first_place q xs) (first-of-two p q xs)
  where
    here : (n : ℕ) → earlier 1 n ≡ 1
    here zero = refl
    here (suc zero) = refl
    here (suc (suc n)) = least (nat_lt 0 (suc n)) refl
      where
        least : (t : Bool) → nat_lt 0 (suc n) ≡ t → (if t then 1 else suc (suc n)) ≡ 1
        least true e = refl
        least false e = absurd (true≢false (sym (lt-ltb 0 (suc n) (omega arith)) ∙ e))

    next : (o a b : Option ℕ) → unit_or_hub o ≡ earlier (unit_or_hub a) (unit_or_hub b) → unit_or_hub (option_map suc o) ≡ earlier (unit_or_hub (option_map suc a)) (unit_or_hub (option_map suc b))
    next None None None e = refl
    next None None (Some b) e = absurd (omega (arith, e))
    next None (Some a) None e = absurd (omega (arith, e))
    next None (Some a) (Some b) e = absurd (positive a b (nat_lt a b) e)
      where
        positive : (a b : ℕ) (t : Bool) → 0 ≡ (if t then suc a else suc b) → ⊥
        positive a b true e = omega (arith, e)
        positive a b false e = omega (arith, e)
    next (Some o) None None e = absurd (omega (arith, e))
    next (Some o) None (Some b) e = ap suc e
    next (Some o) (Some a) None e = ap suc e
    next (Some o) (Some a) (Some b) e = ap suc e ∙ push (nat_lt a b) ∙ ap (λ t. if t then suc (suc a) else suc (suc b)) (sym (lt-suc a b))
      where
        push : (t : Bool) → suc (if t then suc a else suc b) ≡ (if t then suc (suc a) else suc (suc b))
        push true = refl
        push false = refl

    by : (a b : Bool) → (o l r : Option ℕ) → unit_or_hub o ≡ earlier (unit_or_hub l) (unit_or_hub r)
        → unit_or_hub (if (a || b) then Some 0 else option_map suc o) ≡ earlier (unit_or_hub (if a then Some 0 else option_map suc l)) (unit_or_hub (if b then Some 0 else option_map suc r))
    by true b o l r e = sym (here (unit_or_hub (if b then Some 0 else option_map suc r)))
    by false true o l r e = sym (second (option_map suc l))
      where
        second : (l : Option ℕ) → earlier (unit_or_hub l) 1 ≡ 1
        second None = refl
        second (Some zero) = refl
        second (Some (suc n)) = least (nat_lt (suc n) 0) refl
          where
            least : (t : Bool) → nat_lt (suc n) 0 ≡ t → (if t then suc (suc n) else 1) ≡ 1
            least false e = refl
            least true e = let lt : suc n < 0 = ltb-true (suc n) 0 e in absurd (omega (arith, lt))
    by false false o l r e = next o l r e

pub place-same : {A : Type 0} (p q : A → Bool) (xs : List A) → ((x : A) → p x ≡ q x) → first_place p xs ≡ first_place q xs
place-same p q [] same = refl
place-same p q (x ∷ xs) same = ap₂ (λ b rest. if b then Some 0 else option_map suc rest) (same x) (place-same p q xs same)

-- ---- units by number

-- the first place where an item passes, with one more item at place n
abbrev pub push-place : Option ℕ → ℕ → Bool → Option ℕ
push-place (Some i) n b = Some i
push-place None n true = Some n
push-place None n false = None

pub first_place-push : {A : Type 0} (test : A → Bool) (xs : List A) (x : A) → first_place test (xs ++ x ∷ []) ≡ push-place (first_place test xs) (length xs) (test x)
first_place-push test [] x = by (test x)
  where
    by : (b : Bool) → (if b then Some 0 else option_map suc None) ≡ push-place None 0 b
    by true = refl
    by false = refl
first_place-push test (y ∷ ys) x = by (test y) (first_place test ys) (test x) (first_place-push test ys x)
  where
    by : (a : Bool) (found : Option ℕ) (b : Bool) → first_place test (ys ++ x ∷ []) ≡ push-place found (length ys) b → (if a then Some 0 else option_map suc (first_place test (ys ++ x ∷ []))) ≡ push-place (if a then Some 0 else option_map suc found) (suc (length ys)) b
    by true found b e = refl
    by false (Some i) b e = ap (option_map suc) e
    by false None true e = ap (option_map suc) e
    by false None false e = ap (option_map suc) e

-- each instance has the number of the first unit before place i that it is, else the hub's
pub record Numbered (units : List ℕ) (i : ℕ) (old owners : List ℕ) : Type 0 where
  pub count : length owners ≡ length old
  pub numbers : (k : ℕ) → value_at owners k ≡ unit_or_hub (first_place (λ unit. k == unit) (take i units))

module _ (units : List ℕ) (i : ℕ) (old owners : List ℕ) (lt : i < length units) (before : Numbered units i old owners) where
  first-now : (k : ℕ) → first_place (λ u. k == u) (take (i + 1) units) ≡ push-place (first_place (λ u. k == u) (take i units)) i (k == value_at units i)
  first-now k =
      ap (first_place (λ u. k == u)) (take_more units i 0 lt)
      ∙ first_place-push (λ u. k == u) (take i units) (value_at units i)
      ∙ ap (λ n. push-place (first_place (λ u. k == u) (take i units)) n (k == value_at units i)) (length-take-le i units (omega arith))

  kept : (k : ℕ) → (found : Option ℕ) → first_place (λ u. k == u) (take i units) ≡ found → (b : Bool) → (k == value_at units i) ≡ b → ((b ≡ true) → value_at owners k ≢ 0) → value_at owners k ≡ unit_or_hub (push-place found i b)
  kept k (Some j) e b f taken = before.numbers k ∙ ap unit_or_hub e
  kept k None e true f taken = absurd (taken refl (before.numbers k ∙ ap unit_or_hub e))
  kept k None e false f taken = before.numbers k ∙ ap unit_or_hub e

  -- a unit that has a number keeps it
  pub Numbered-kept : value_at owners (value_at units i) ≢ 0 → Numbered units (i + 1) old owners
  Numbered-kept taken =
      record {
        count = before.count;
        numbers = λ k.
            kept k (first_place (λ u. k == u) (take i units)) refl (k == value_at units i) refl
            (λ same none. taken (ap (value_at owners) (sym (true-eqb k (value_at units i) (sym same))) ∙ none))
            ∙ ap unit_or_hub (sym (first-now k));
      }

  -- a unit that has none gets the number of its place
  pub Numbered-new : value_at units i < length owners → value_at owners (value_at units i) ≡ 0 → Numbered units (i + 1) old (set owners (value_at units i) (i + 1))
  Numbered-new within free =
      record {
        count = length-set owners (value_at units i) (i + 1) ∙ before.count;
        numbers = λ k. at k (k == value_at units i) refl (first_place (λ u. k == u) (take i units)) refl ∙ ap unit_or_hub (sym (first-now k));
      }
    where
      at : (k : ℕ) (b : Bool) → (k == value_at units i) ≡ b → (found : Option ℕ) → first_place (λ u. k == u) (take i units) ≡ found → value_at (set owners (value_at units i) (i + 1)) k ≡ unit_or_hub (push-place (first_place (λ u. k == u) (take i units)) i (k == value_at units i))
      at k true f found e =
          let same : k ≡ value_at units i = true-eqb k (value_at units i) (sym f) in
          let none : unit_or_hub found ≡ 0 = sym (ap unit_or_hub e) ∙ sym (before.numbers k) ∙ ap (value_at owners) same ∙ free in
          ap (value_at (set owners (value_at units i) (i + 1))) same
          ∙ get_or-set_same owners (value_at units i) (i + 1) 0 within
          ∙ fresh found none
          ∙ ap₂ (λ found b. unit_or_hub (push-place found i b)) (sym e) (sym f)
        where
          fresh : (found : Option ℕ) → unit_or_hub found ≡ 0 → i + 1 ≡ unit_or_hub (push-place found i true)
          fresh None none = omega arith
          fresh (Some j) none = absurd (omega (arith, none))
      at k false f found e =
          let other : k ≢ value_at units i = λ same. true≢false (sym (eq-eqb k (value_at units i) same) ∙ f) in
          get_or-set_other owners (value_at units i) k (i + 1) 0 other
          ∙ before.numbers k ∙ ap unit_or_hub e ∙ still found ∙ ap₂ (λ found b. unit_or_hub (push-place found i b)) (sym e) (sym f)
        where
          still : (found : Option ℕ) → unit_or_hub found ≡ unit_or_hub (push-place found i false)
          still None = refl
          still (Some j) = refl

-- ---- instances so far

-- the instances before place k have their machines' numbers; any other has the number of the unit that it is, else the hub's
pub record OwnersSoFar (tree : InstanceTree) (units : List ℕ) (k : ℕ) (owners : List ℕ) : Type 0 where
  pub count : length owners ≡ length tree.instances
  pub done : (j : ℕ) → j < k → value_at owners j ≡ owner_of_instance tree units j
  pub rest : (j : ℕ) → k ≤ j → value_at owners j ≡ unit_or_hub (first_place (λ unit. j == unit) units)

pub OwnersSoFar-more : (tree : InstanceTree) (units : List ℕ) (k : ℕ) (owners : List ℕ) → ParentsBefore tree → k < length tree.instances → OwnersSoFar tree units k owners → OwnersSoFar tree units (k + 1) (set owners k (earlier (value_at owners k) (above tree owners k)))
OwnersSoFar-more tree units k owners parents lt before =
    let value = earlier (value_at owners k) (above tree owners k) in
    record {
      count = length-set owners k value ∙ before.count;
      done = below_more (λ j. value_at (set owners k value) j ≡ owner_of_instance tree units j) k
          (λ j less. get_or-set_other owners k j value 0 (let ne : j ≢ k = omega arith in ne) ∙ before.done j less)
          (get_or-set_same owners k value 0 (omega (arith, lt, before.count)) ∙ ap (λ a. earlier a (above tree owners k)) (before.rest k (omega arith)) ∙ here (instance_at tree k).parent refl);
      rest = λ j le. get_or-set_other owners k j value 0 (let ne : j ≢ k = omega arith in ne) ∙ before.rest j (omega arith);
    }
  where
    none : (b : ℕ) → earlier b 0 ≡ b
    none zero = refl
    none (suc b) = refl

    here : (parent : Option ℕ) → (instance_at tree k).parent ≡ parent → earlier (unit_or_hub (first_place (λ unit. k == unit) units)) (above_by owners (instance_at tree k).parent) ≡ owner_of_instance tree units k
    here None e =
        ap (λ p. earlier (unit_or_hub (first_place (λ unit. k == unit) units)) (above_by owners p)) e
        ∙ none (unit_or_hub (first_place (λ unit. k == unit) units))
        ∙ ap unit_or_hub (place-same (λ unit. k == unit) (lies tree k) units (λ unit. sym (lies-alone tree parents k unit lt e)))
    here (Some p) e =
        ap (λ p. earlier (unit_or_hub (first_place (λ unit. k == unit) units)) (above_by owners p)) e
        ∙ ap (earlier (unit_or_hub (first_place (λ unit. k == unit) units))) (before.done p (parents k p lt e))
        ∙ sym (first-of-two (λ unit. k == unit) (lies tree p) units)
        ∙ ap unit_or_hub (place-same (λ unit. (k == unit) || lies tree p unit) (lies tree k) units (λ unit. sym (lies-parent tree parents k p unit lt e)))
