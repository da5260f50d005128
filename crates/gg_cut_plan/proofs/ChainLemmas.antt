-- What an instance lies in, step by step; and units that lie in one another.
use Rattle.std.proofs.Common.{◌≡◌, ◌≢◌, ℕ, zero, suc, ◌+◌, ◌<◌, ◌≤◌, List, [], ◌∷◌, ◌++◌, length, map, set, get_or, take, drop, Bool, true, false, true-eqb, eq-eqb, refl, sym, ◌∙◌, ap, ap₂, subst, Some, None, nat_eq, arith, true≢false}
use Rattle.std.specs.Prelude.{Option, ◌||◌, ◌==◌, if◌then◌else◌}
use Rattle.std.specs.List.{list_any}
use Rattle.std.proofs.lemmas.Bool.Decides.{Decides-eqb}
use Rattle.std.proofs.lemmas.List.{take_more, get_or-set_same, get_or-set_other, length-set, map-append}
use Rattle.std.proofs.lemmas.List.Folds.{list_any-append}
use Rattle.std.proofs.Math.Bool.{or-false, or_assoc, or-true}
use Rattle.std.proofs.lemmas.Bool.{or_left, or_right, ne_eqb}
use Rattle.gg_flat_tree.specs.Tree.{InstanceTree, instance_at}
use Rattle.gg_order.specs.Marks.{is_marked}
use Rattle.gg_cut_plan.specs.Listed.{lies_within, lies, of_parent, instance_of}
use Rattle.gg_cut_plan.specs.inside.Listed.{ParentsBefore, AreMarks}
use Rattle.gg_cut_plan.specs.Fault.{overlap, overlapping, first_clash}
use Rattle.gg_cut_plan.proofs.FindLemmas.{rest-at}

-- ---- tests on lists

pub any-or : {A : Type 0} (p q : A → Bool) (xs : List A) → list_any (λ x. p x || q x) xs ≡ (list_any p xs || list_any q xs)
any-or p q [] = refl
any-or p q (x ∷ xs) = ap (λ b. (p x || q x) || b) (any-or p q xs) ∙ shuffle (p x) (q x) (list_any p xs) (list_any q xs)
  where
    shuffle : (a b c d : Bool) → ((a || b) || (c || d)) ≡ ((a || c) || (b || d))
    shuffle true b c d = refl
    shuffle false true true d = refl
    shuffle false true false d = refl
    shuffle false false c d = refl

pub any-same : {A : Type 0} (p q : A → Bool) (xs : List A) → ((x : A) → p x ≡ q x) → list_any p xs ≡ list_any q xs
any-same p q [] same = refl
any-same p q (x ∷ xs) same = ap₂ (λ a b. a || b) (same x) (any-same p q xs same)

pub any-map : {A B : Type 0} (p : B → Bool) (f : A → B) (xs : List A) → list_any p (map f xs) ≡ list_any (λ x. p (f x)) xs
any-map p f [] = refl
any-map p f (x ∷ xs) = ap (λ b. p (f x) || b) (any-map p f xs)

-- ---- the chain of an instance

module _ (tree : InstanceTree) (before : ParentsBefore tree) where
  fuel-same : (f g k i : ℕ) → k ≤ f → k ≤ g → k < length tree.instances → lies_within tree f k i ≡ lies_within tree g k i
  fuel-same zero zero k i lf lg lt = refl
  fuel-same zero (suc g) k i lf lg lt = sym (by-none (instance_at tree k).parent refl)
    where
      by-none : (p : Option ℕ) → (instance_at tree k).parent ≡ p → ((k == i) || of_parent (λ parent. lies_within tree g parent i) p) ≡ (k == i)
      by-none None e = or-false (k == i)
      by-none (Some p) e = absurd (omega (arith, before k p lt e, lf))
  fuel-same (suc f) zero k i lf lg lt = by-none (instance_at tree k).parent refl
    where
      by-none : (p : Option ℕ) → (instance_at tree k).parent ≡ p → ((k == i) || of_parent (λ parent. lies_within tree f parent i) p) ≡ (k == i)
      by-none None e = or-false (k == i)
      by-none (Some p) e = absurd (omega (arith, before k p lt e, lg))
  fuel-same (suc f) (suc g) k i lf lg lt = by (instance_at tree k).parent refl (λ p q r s. fuel-same f g p i q r s)
    where
      by : (p : Option ℕ) → (instance_at tree k).parent ≡ p → ((p : ℕ) → p ≤ f → p ≤ g → p < length tree.instances → lies_within tree f p i ≡ lies_within tree g p i)
          → ((k == i) || of_parent (λ parent. lies_within tree f parent i) p) ≡ ((k == i) || of_parent (λ parent. lies_within tree g parent i) p)
      by None e rest = refl
      by (Some p) e rest = let lower = before k p lt e in ap (λ b. (k == i) || b) (rest p (omega (arith, lower, lf)) (omega (arith, lower, lg)) (omega (arith, lower, lt)))

  -- an instance lies in itself and in what its parent lies in
  pub lies-parent : (k p i : ℕ) → k < length tree.instances → (instance_at tree k).parent ≡ Some p → lies tree k i ≡ ((k == i) || lies tree p i)
  lies-parent k p i lt parent =
      let lower = before k p lt parent in
      fuel-same k (suc k) k i (omega arith) (omega arith) lt
      ∙ ap (λ above. (k == i) || of_parent (λ parent. lies_within tree k parent i) above) parent
      ∙ ap (λ b. (k == i) || b) (fuel-same k p p i (omega (arith, lower)) (omega arith) (omega (arith, lower, lt)))

  pub lies-alone : (k i : ℕ) → k < length tree.instances → (instance_at tree k).parent ≡ None → lies tree k i ≡ (k == i)
  lies-alone k i lt parent =
      fuel-same k (suc k) k i (omega arith) (omega arith) lt
      ∙ ap (λ above. (k == i) || of_parent (λ parent. lies_within tree k parent i) above) parent
      ∙ or-false (k == i)

  pub lies-self : (k : ℕ) → k < length tree.instances → lies tree k k ≡ true
  lies-self k lt =
      fuel-same k (suc k) k k (omega arith) (omega arith) lt
      ∙ ap (λ b. b || of_parent (λ parent. lies_within tree k parent k) (instance_at tree k).parent) (eq-eqb k k refl)

  -- ---- marks

  -- an instance that is marked lies in one of the units; one that isn't lies in one exactly if its parent does
  pub marked-here : (units : List ℕ) (marks : List Bool) (node : ℕ) → AreMarks units marks → node < length tree.instances → is_marked marks node ≡ true → true ≡ list_any (lies tree node) units
  marked-here units marks node are lt marked = sym (any-weaker units (sym (are node) ∙ marked))
    where
      any-weaker : (xs : List ℕ) → list_any (λ unit. node == unit) xs ≡ true → list_any (lies tree node) xs ≡ true
      any-weaker [] e = absurd (cc)
      any-weaker (x ∷ xs) e = by (node == x) refl e (any-weaker xs)
        where
          by : (b : Bool) → (node == x) ≡ b → (b || list_any (λ unit. node == unit) xs) ≡ true → (list_any (λ unit. node == unit) xs ≡ true → list_any (lies tree node) xs ≡ true) → (lies tree node x || list_any (lies tree node) xs) ≡ true
          by true same e rest = or_left (lies tree node x) (list_any (lies tree node) xs) (subst (λ y. lies tree node y ≡ true) (true-eqb node x (sym same)) (lies-self node lt))
          by false same e rest = or_right (lies tree node x) (list_any (lies tree node) xs) (rest e)

  pub unmarked-up : (units : List ℕ) (marks : List Bool) (node p : ℕ) → AreMarks units marks → node < length tree.instances → is_marked marks node ≡ false → (instance_at tree node).parent ≡ Some p → list_any (lies tree node) units ≡ list_any (lies tree p) units
  unmarked-up units marks node p are lt unmarked parent =
      any-same (lies tree node) (λ unit. (node == unit) || lies tree p unit) units (λ unit. lies-parent node p unit lt parent)
      ∙ any-or (λ unit. node == unit) (lies tree p) units
      ∙ ap (λ b. b || list_any (lies tree p) units) (sym (are node) ∙ unmarked)

  pub unmarked-top : (units : List ℕ) (marks : List Bool) (node : ℕ) → AreMarks units marks → node < length tree.instances → is_marked marks node ≡ false → (instance_at tree node).parent ≡ None → false ≡ list_any (lies tree node) units
  unmarked-top units marks node are lt unmarked parent =
      sym (any-same (lies tree node) (λ unit. node == unit) units (λ unit. lies-alone node unit lt parent) ∙ sym (are node) ∙ unmarked)

-- setting the mark of an instance adds just this mark
pub marked-more : (marks : List Bool) (node k : ℕ) → node < length marks → is_marked (set marks node true) k ≡ (is_marked marks k || (node == k))
marked-more marks node k lt = by (nat_eq k node) refl
  where
    by : (b : Bool) → nat_eq k node ≡ b → is_marked (set marks node true) k ≡ (is_marked marks k || (node == k))
    by true e =
        let same : k ≡ node = (Decides-eqb k node).0 e in
        ap (is_marked (set marks node true)) same ∙ get_or-set_same marks node true false lt ∙ sym (or-true (is_marked marks k)) ∙ ap (λ b. is_marked marks k || b) (sym (eq-eqb node k (sym same)))
    by false e =
        let other : k ≢ node = λ same. true≢false (sym ((Decides-eqb k node).1 same) ∙ e) in
        get_or-set_other marks node k true false other ∙ sym (or-false (is_marked marks k)) ∙ ap (λ b. is_marked marks k || b) (sym (ne_eqb node k (λ same. other (sym same))))

-- ---- what is marked above

-- setting an instance's mark, and then those of all that its parent lies in, marks all that the instance lies in
pub above-more : (tree : InstanceTree) → ParentsBefore tree → (marks : List Bool) (node p k : ℕ) → node < length tree.instances → node < length marks → (instance_at tree node).parent ≡ Some p → (is_marked (set marks node true) k || lies tree p k) ≡ (is_marked marks k || lies tree node k)
above-more tree before marks node p k lt room parent =
    ap (λ b. b || lies tree p k) (marked-more marks node k room)
    ∙ or_assoc (is_marked marks k) (node == k) (lies tree p k)
    ∙ ap (λ b. is_marked marks k || b) (sym (lies-parent tree before node p k lt parent))

-- where there is no parent, setting the mark is enough
pub above-end : (tree : InstanceTree) → ParentsBefore tree → (marks : List Bool) (node k : ℕ) → node < length tree.instances → node < length marks → (instance_at tree node).parent ≡ None → is_marked (set marks node true) k ≡ (is_marked marks k || lies tree node k)
above-end tree before marks node k lt room parent =
    marked-more marks node k room ∙ ap (λ b. is_marked marks k || b) (sym (lies-alone tree before node k lt parent))

-- ---- units so far

-- The units before place i don't overlap; they are marked in `own`, and what they lie in is marked in `above`.
pub record Apart (tree : InstanceTree) (units : List (List ℕ)) (i : ℕ) (own above : List Bool) : Type 0 where
  pub clash : overlapping tree units ≡ first_clash (overlap tree) (take i units) (drop i units)
  pub marks : AreMarks (map (instance_of tree) (take i units)) own
  pub higher : (k : ℕ) → is_marked above k ≡ list_any (λ unit. lies tree unit k) (map (instance_of tree) (take i units))
  pub own_count : length own ≡ length tree.instances
  pub above_count : length above ≡ length tree.instances

module _ (tree : InstanceTree) (units : List (List ℕ)) (i : ℕ) (own above : List Bool) (path : List ℕ) (lt : i < length units) (read : path ≡ get_or units i path) (apart : Apart tree units i own above) where
  -- a unit overlaps an earlier one exactly if it lies in one, or one lies in it
  clash-is : list_any (overlap tree path) (take i units) ≡ (list_any (lies tree (instance_of tree path)) (map (instance_of tree) (take i units)) || is_marked above (instance_of tree path))
  clash-is =
      any-or (λ other. lies tree (instance_of tree path) (instance_of tree other)) (λ other. lies tree (instance_of tree other) (instance_of tree path)) (take i units)
      ∙ ap₂ (λ a b. a || b) (sym (any-map (lies tree (instance_of tree path)) (instance_of tree) (take i units)))
      (sym (any-map (λ unit. lies tree unit (instance_of tree path)) (instance_of tree) (take i units)) ∙ sym (apart.higher (instance_of tree path)))

  rest-is : overlapping tree units ≡ (if list_any (overlap tree path) (take i units) then Some path else first_clash (overlap tree) (take i units ++ path ∷ []) (drop (i + 1) units))
  rest-is = apart.clash ∙ ap (first_clash (overlap tree) (take i units)) (rest-at units i path lt read)

  pub Apart-stop : (list_any (lies tree (instance_of tree path)) (map (instance_of tree) (take i units)) || is_marked above (instance_of tree path)) ≡ true → overlapping tree units ≡ Some path
  Apart-stop clashes = rest-is ∙ ap (λ b. if b then Some path else first_clash (overlap tree) (take i units ++ path ∷ []) (drop (i + 1) units)) (clash-is ∙ clashes)

  now-is : take (i + 1) units ≡ take i units ++ path ∷ []
  now-is = take_more units i path lt ∙ ap (λ p. take i units ++ p ∷ []) (sym read)

  units-are : map (instance_of tree) (take (i + 1) units) ≡ map (instance_of tree) (take i units) ++ instance_of tree path ∷ []
  units-are = ap (map (instance_of tree)) now-is ∙ map-append (instance_of tree) (take i units) (path ∷ [])

  any-push : (test : ℕ → Bool) (xs : List ℕ) (x : ℕ) → list_any test (xs ++ x ∷ []) ≡ (list_any test xs || test x)
  any-push test xs x = list_any-append test xs (x ∷ []) ∙ ap (λ b. list_any test xs || b) (or-false (test x))

  flip : (a b : ℕ) → (a == b) ≡ (b == a)
  flip a b = by (a == b) refl (b == a) refl
    where
      by : (p : Bool) → (a == b) ≡ p → (q : Bool) → (b == a) ≡ q → p ≡ q
      by true e true f = refl
      by false e false f = refl
      by true e false f = absurd (true≢false (sym (eq-eqb b a (sym (true-eqb a b (sym e)))) ∙ f))
      by false e true f = absurd (true≢false (sym (eq-eqb a b (sym (true-eqb b a (sym f)))) ∙ e))

  pub Apart-more : (higher : List Bool) → instance_of tree path < length tree.instances → (list_any (lies tree (instance_of tree path)) (map (instance_of tree) (take i units)) || is_marked above (instance_of tree path)) ≡ false → ((k : ℕ) → is_marked higher k ≡ (is_marked above k || lies tree (instance_of tree path) k)) → length higher ≡ length above → Apart tree units (i + 1) (set own (instance_of tree path) true) higher
  Apart-more higher within none marked count =
      let place = instance_of tree path in
      record {
        clash = rest-is ∙ ap (λ b. if b then Some path else first_clash (overlap tree) (take i units ++ path ∷ []) (drop (i + 1) units)) (clash-is ∙ none) ∙ ap (λ l. first_clash (overlap tree) l (drop (i + 1) units)) (sym now-is);
        marks = λ k.
            marked-more own place k (omega (arith, within, apart.own_count))
            ∙ ap₂ (λ a b. a || b) (apart.marks k) (flip place k)
            ∙ sym (any-push (λ unit. k == unit) (map (instance_of tree) (take i units)) place)
            ∙ ap (list_any (λ unit. k == unit)) (sym units-are);
        higher = λ k.
            marked k
            ∙ ap (λ a. a || lies tree place k) (apart.higher k)
            ∙ sym (any-push (λ unit. lies tree unit k) (map (instance_of tree) (take i units)) place)
            ∙ ap (list_any (λ unit. lies tree unit k)) (sym units-are);
        own_count = length-set own place true ∙ apart.own_count;
        above_count = count ∙ apart.above_count;
      }
