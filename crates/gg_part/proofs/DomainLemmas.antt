-- What Clock inputs follow inside of a home leads on to what they follow in the circuit, and is the same in each instance of a module.
use Rattle.std.proofs.Common.{◌≡◌, ◌≢◌, ℕ, zero, suc, ◌+◌, ◌<◌, ◌≤◌, List, [], ◌∷◌, ◌++◌, Bool, true, false, Option, Some, None, length, get_or, map, refl, sym, ap, ap₂, ◌∙◌, subst, inl, inr, ◌⊎◌, append_assoc, arith}
use Rattle.std.specs.Prelude.{option_and_then, option_map, if◌then◌else◌}
use Rattle.std.proofs.lemmas.Bool.{cases_Bool, cases_lt}
use Rattle.std.proofs.lemmas.List.{get_or_append_left, get_or_push, length-map, length-append}
use Rattle.std.proofs.Math.Seq.{get_or-append_seam}
use Rattle.std.proofs.lemmas.Option.{same_Some}
use Rattle.gg_flat_tree.specs.declared.tree.Instance.{Instance}
use Rattle.gg_flat.specs.Circuit.{FlatCircuit}
use Rattle.gg_flat_tree.specs.inside.Clocked.{AreParentsBefore}
use Rattle.gg_flat_tree.specs.Clocked.{clock_at, clocks_from, through_parent, top_clocks}
use Rattle.gg_flat_tree.specs.Tree.{InstanceTree, instance_at}
use Rattle.gg_flat.specs.WellFormed.{IsClock}
use Rattle.gg_flat_tree.proofs.TopClockLemmas.{top_clocks-step}
use Rattle.gg_part.specs.Copies.{IsCopy, LiesIn, Start, above}
use Rattle.gg_part.specs.inside.Domains.{alone, apart_from, inner_clocks, tree_apart}
use Rattle.gg_part.specs.Moved.{shifted}

-- ---- lists of clocks

-- a clock that is led on twice
pub clock_at-twice : (outer inner : List (Option ℕ)) (c : Option ℕ) → clock_at (map (clock_at outer) inner) c ≡ clock_at outer (clock_at inner c)
clock_at-twice outer inner None = refl
clock_at-twice outer inner (Some n) = at inner n
  where
    at : (xs : List (Option ℕ)) (n : ℕ) → get_or (map (clock_at outer) xs) n None ≡ clock_at outer (get_or xs n None)
    at [] n = refl
    at (x ∷ xs) zero = refl
    at (x ∷ xs) (suc n) = at xs n

map-twice : (outer inner clocks : List (Option ℕ)) → map (clock_at (map (clock_at outer) inner)) clocks ≡ map (clock_at outer) (map (clock_at inner) clocks)
map-twice outer inner [] = refl
map-twice outer inner (c ∷ clocks) = ap₂ (λ x xs. x ∷ xs) (clock_at-twice outer inner c) (map-twice outer inner clocks)

-- clocks that are numbered lead to what is at their numbers
numbered : (front back : List (Option ℕ)) → map (clock_at (front ++ back)) (clocks_from (length front) (length back)) ≡ back
numbered front [] = refl
numbered front (x ∷ back) =
    ap₂ (λ y ys. y ∷ ys) (get_or-append_seam front x back None)
    (ap₂ (λ (l : List (Option ℕ)) (n : ℕ). map (clock_at l) (clocks_from n (length back))) (sym (append_assoc front (x ∷ []) back)) (sym (longer front x))
    ∙ numbered (front ++ x ∷ []) back)
  where
    longer : (l : List (Option ℕ)) (y : Option ℕ) → length (l ++ y ∷ []) ≡ suc (length l)
    longer l y = let n = length-append l (y ∷ []) in omega (arith, n)

pub itself : (clocks : List (Option ℕ)) → map (clock_at clocks) (clocks_from 0 (length clocks)) ≡ clocks
itself clocks = numbered [] clocks

-- a numbered clock is there
numbered-known : (n : ℕ) (c : Option ℕ) → IsClock n (clock_at (clocks_from 0 n) c)
numbered-known n None = tt
numbered-known n (Some k) = let same : 0 + n ≡ n = omega arith in subst (λ m. IsClock m (get_or (clocks_from 0 n) k None)) same (by 0 n k)
  where
    -- what is found among `count` clocks from a number on
    by : (a count k : ℕ) → IsClock (a + count) (get_or (clocks_from a count) k None)
    by a zero k = tt
    by a (suc count) zero = omega arith
    by a (suc count) (suc k) = let turned : suc a + count ≡ a + suc count = omega arith in subst (λ m. IsClock m (get_or (clocks_from (suc a) count) k None)) turned (by (suc a) count k)

-- ---- homes apart

apart-length : (is_home : ℕ → Bool) (k : ℕ) (l : List Instance) → length (apart_from is_home k l) ≡ length l
apart-length is_home k [] = refl
apart-length is_home k (x ∷ l) = ap suc (apart-length is_home (suc k) l)

apart-at : (is_home : ℕ → Bool) (k i n : ℕ) (l : List Instance) (d : Instance) → k + i ≡ n → i < length l → get_or (apart_from is_home k l) i d ≡ (if is_home n then alone (get_or l i d) else get_or l i d)
apart-at is_home k i n [] d e lt = absurd (omega (arith, lt))
apart-at is_home k zero n (x ∷ l) d e lt = let same : k ≡ n = omega (arith, e) in ap (λ m. if is_home m then alone x else x) same
apart-at is_home k (suc i) n (x ∷ l) d e lt = apart-at is_home (suc k) i n l d (omega (arith, e)) (omega (arith, lt))

-- an instance with a parent is there
known-by : (l : List Instance) (k p : ℕ) → (get_or l k (record { parent = None; «module» = 0; first = 0; end = 0; ports = []; memories = []; clocks = [] })).parent ≡ Some p → k < length l
known-by [] k p is = absurd (cc)
known-by (x ∷ l) zero p is = omega arith
known-by (x ∷ l) (suc k) p is = let lt = known-by l k p is in omega (arith, lt)

module _ (tree : InstanceTree) (before : AreParentsBefore tree) where
  -- an instance that lies in another is at its place or behind it
  above-before : (levels k h : ℕ) → k < length tree.instances → above tree levels k ≡ Some h → h ≤ k
  above-before zero k h lt is = let e : k ≡ h = same_Some k h is in omega (arith, e)
  above-before (suc n) k h lt is = go (instance_at tree k).parent refl (above-before n)
    where
      go : (o : Option ℕ) → (instance_at tree k).parent ≡ o → ((p h : ℕ) → p < length tree.instances → above tree n p ≡ Some h → h ≤ p) → h ≤ k
      go None e next = let never : None ≡ Some h = sym (ap (option_and_then (above tree n)) e) ∙ is in absurd (cc)
      go (Some p) e next =
          let low = before k p lt e in
          let rest = next p h (omega (arith, low, lt)) (sym (ap (option_and_then (above tree n)) e) ∙ is) in
          omega (arith, low, rest)

  -- an instance has as many clocks of the circuit as Clock inputs
  pub top-length : (k : ℕ) → k < length tree.instances → length (top_clocks tree k) ≡ length (instance_at tree k).clocks
  top-length k lt = ap (λ (l : List (Option ℕ)). length l) (top_clocks-step tree before k lt) ∙ go (instance_at tree k).parent
    where
      go : (o : Option ℕ) → length (through_parent (top_clocks tree) o (instance_at tree k).clocks) ≡ length (instance_at tree k).clocks
      go None = refl
      go (Some p) = length-map (instance_at tree k).clocks (clock_at (top_clocks tree p))

  module _ (is_home : ℕ → Bool) where
    abbrev cut : InstanceTree
    cut = tree_apart is_home tree

    at-home : (k : ℕ) → k < length tree.instances → is_home k ≡ true → instance_at cut k ≡ alone (instance_at tree k)
    at-home k lt is =
        apart-at is_home 0 k k tree.instances _ (omega arith) lt
        ∙ ap (λ b. if b then alone (instance_at tree k) else instance_at tree k) is

    at-other : (k : ℕ) → k < length tree.instances → is_home k ≡ false → instance_at cut k ≡ instance_at tree k
    at-other k lt is =
        apart-at is_home 0 k k tree.instances _ (omega arith) lt
        ∙ ap (λ b. if b then alone (instance_at tree k) else instance_at tree k) is

    before-apart : AreParentsBefore (tree_apart is_home tree)
    before-apart k p lt is = go (cases_Bool (is_home k))
      where
        inside : k < length tree.instances
        inside = omega (arith, lt, apart-length is_home 0 tree.instances)

        go : (is_home k ≡ true) ⊎ (is_home k ≡ false) → p < k
        go (inl home) = let never : None ≡ Some p = sym (ap (λ (x : Instance). x.parent) (at-home k inside home)) ∙ is in absurd (cc)
        go (inr off) = before k p inside (sym (ap (λ (x : Instance). x.parent) (at-other k inside off)) ∙ is)

    inner-made : (k : ℕ) → k < length tree.instances → inner_clocks is_home tree k ≡ through_parent (inner_clocks is_home tree) (instance_at cut k).parent (instance_at cut k).clocks
    inner-made k lt = top_clocks-step (tree_apart is_home tree) before-apart k (omega (arith, lt, apart-length is_home 0 tree.instances))

    -- the Clock inputs of a home are clocks
    pub inner-home : (k : ℕ) → k < length tree.instances → is_home k ≡ true → inner_clocks is_home tree k ≡ clocks_from 0 (length (instance_at tree k).clocks)
    inner-home k lt is = inner-made k lt ∙ ap (λ (x : Instance). through_parent (inner_clocks is_home tree) x.parent x.clocks) (at-home k lt is)

    -- those of another instance follow its parent's
    pub inner-step : (k p : ℕ) → k < length tree.instances → is_home k ≡ false → (instance_at tree k).parent ≡ Some p → inner_clocks is_home tree k ≡ map (clock_at (inner_clocks is_home tree p)) (instance_at tree k).clocks
    inner-step k p lt is parent =
        inner-made k lt
        ∙ ap (λ (x : Instance). through_parent (inner_clocks is_home tree) x.parent x.clocks) (at-other k lt is)
        ∙ ap (λ (o : Option ℕ). through_parent (inner_clocks is_home tree) o (instance_at tree k).clocks) parent

    -- one more instance, if all before it are known
    pub inner-next : (done : List (List (Option ℕ))) (i : ℕ) (instance : Instance) (next : List (Option ℕ)) → length done ≡ i → i < length tree.instances → instance ≡ instance_at tree i
        → next ≡ (if is_home i then clocks_from 0 (length instance.clocks) else through_parent (λ parent. get_or done parent []) instance.parent instance.clocks)
        → ((k : ℕ) → k < i → get_or done k [] ≡ inner_clocks is_home tree k) → (k : ℕ) → k < i + 1 → get_or (done ++ next ∷ []) k [] ≡ inner_clocks is_home tree k
    inner-next done i instance next size lt is made each k low = place (cases_lt k i)
      where
        led : (o : Option ℕ) → (instance_at tree i).parent ≡ o → through_parent (λ parent. get_or done parent []) o (instance_at tree i).clocks ≡ through_parent (inner_clocks is_home tree) o (instance_at tree i).clocks
        led None e = refl
        led (Some p) e = ap (λ (l : List (Option ℕ)). map (clock_at l) (instance_at tree i).clocks) (each p (before i p lt e))

        here : (is_home i ≡ true) ⊎ (is_home i ≡ false) → next ≡ inner_clocks is_home tree i
        here (inl home) =
            made ∙ ap (λ b. if b then clocks_from 0 (length instance.clocks) else through_parent (λ parent. get_or done parent []) instance.parent instance.clocks) home
            ∙ ap (λ (x : Instance). clocks_from 0 (length x.clocks)) is ∙ sym (inner-home i lt home)
        here (inr off) =
            made ∙ ap (λ b. if b then clocks_from 0 (length instance.clocks) else through_parent (λ parent. get_or done parent []) instance.parent instance.clocks) off
            ∙ ap (λ (x : Instance). through_parent (λ parent. get_or done parent []) x.parent x.clocks) is
            ∙ led (instance_at tree i).parent refl
            ∙ ap (λ (x : Instance). through_parent (inner_clocks is_home tree) x.parent x.clocks) (sym (at-other i lt off))
            ∙ sym (inner-made i lt)

        place : (k < i) ⊎ (i ≤ k) → get_or (done ++ next ∷ []) k [] ≡ inner_clocks is_home tree k
        place (inl lower) = get_or_append_left done (next ∷ []) [] k (omega (arith, lower, size)) ∙ each k lower
        place (inr ge) =
            let e : k ≡ i = omega (arith, ge, low) in
            get_or_push done next [] k (omega (arith, e, size)) ∙ here (cases_Bool (is_home i)) ∙ ap (inner_clocks is_home tree) (sym e)

    -- ---- from an instance to its home, and from there to the top

    pub inner-leads : (levels k h : ℕ) → k < length tree.instances → is_home h ≡ true → above tree levels k ≡ Some h → ((l x : ℕ) → l < levels → above tree l k ≡ Some x → is_home x ≡ false)
        → top_clocks tree k ≡ map (clock_at (top_clocks tree h)) (inner_clocks is_home tree k)
    inner-leads zero k h lt home is quiet =
        let e : k ≡ h = same_Some k h is in
        let own = inner-home k lt (ap is_home e ∙ home) in
        sym (itself (top_clocks tree k))
        ∙ ap (λ n. map (clock_at (top_clocks tree k)) (clocks_from 0 n)) (top-length k lt)
        ∙ ap (map (clock_at (top_clocks tree k))) (sym own)
        ∙ ap (λ n. map (clock_at (top_clocks tree n)) (inner_clocks is_home tree k)) e
    inner-leads (suc n) k h lt home is quiet = go (instance_at tree k).parent refl (inner-leads n)
      where
        go : (o : Option ℕ) → (instance_at tree k).parent ≡ o
            → ((p h : ℕ) → p < length tree.instances → is_home h ≡ true → above tree n p ≡ Some h → ((l x : ℕ) → l < n → above tree l p ≡ Some x → is_home x ≡ false) → top_clocks tree p ≡ map (clock_at (top_clocks tree h)) (inner_clocks is_home tree p))
            → top_clocks tree k ≡ map (clock_at (top_clocks tree h)) (inner_clocks is_home tree k)
        go None e next = let never : None ≡ Some h = sym (ap (option_and_then (above tree n)) e) ∙ is in absurd (cc)
        go (Some p) e next =
            let low = before k p lt e in
            let up = next p h (omega (arith, low, lt)) home (sym (ap (option_and_then (above tree n)) e) ∙ is) (λ l x less at. quiet (suc l) x (omega (arith, less)) (ap (option_and_then (above tree l)) e ∙ at)) in
            top_clocks-step tree before k lt
            ∙ ap (λ (o : Option ℕ). through_parent (top_clocks tree) o (instance_at tree k).clocks) e
            ∙ ap (λ (l : List (Option ℕ)). map (clock_at l) (instance_at tree k).clocks) up
            ∙ map-twice (top_clocks tree h) (inner_clocks is_home tree p) (instance_at tree k).clocks
            ∙ ap (map (clock_at (top_clocks tree h))) (sym (inner-step k p lt (quiet 0 k (omega arith) refl) e))

    -- they follow Clock inputs of the home that are there
    pub inner-known : (levels k h : ℕ) → k < length tree.instances → is_home h ≡ true → above tree levels k ≡ Some h → ((l x : ℕ) → l < levels → above tree l k ≡ Some x → is_home x ≡ false)
        → (c : Option ℕ) → IsClock (length (instance_at tree h).clocks) (clock_at (inner_clocks is_home tree k) c)
    inner-known zero k h lt home is quiet c =
        let e : k ≡ h = same_Some k h is in
        subst (λ (l : List (Option ℕ)). IsClock (length (instance_at tree h).clocks) (clock_at l c)) (ap (λ n. clocks_from 0 (length (instance_at tree n).clocks)) (sym e) ∙ sym (inner-home k lt (ap is_home e ∙ home)))
        (numbered-known (length (instance_at tree h).clocks) c)
    inner-known (suc n) k h lt home is quiet c = go (instance_at tree k).parent refl (inner-known n)
      where
        go : (o : Option ℕ) → (instance_at tree k).parent ≡ o
            → ((p h : ℕ) → p < length tree.instances → is_home h ≡ true → above tree n p ≡ Some h → ((l x : ℕ) → l < n → above tree l p ≡ Some x → is_home x ≡ false) → (c : Option ℕ) → IsClock (length (instance_at tree h).clocks) (clock_at (inner_clocks is_home tree p) c))
            → IsClock (length (instance_at tree h).clocks) (clock_at (inner_clocks is_home tree k) c)
        go None e next = let never : None ≡ Some h = sym (ap (option_and_then (above tree n)) e) ∙ is in absurd (cc)
        go (Some p) e next =
            let low = before k p lt e in
            subst (IsClock (length (instance_at tree h).clocks))
            (sym (ap (λ (l : List (Option ℕ)). clock_at l c) (inner-step k p lt (quiet 0 k (omega arith) refl) e) ∙ clock_at-twice (inner_clocks is_home tree p) (instance_at tree k).clocks c))
            (next p h (omega (arith, low, lt)) home (sym (ap (option_and_then (above tree n)) e) ∙ is) (λ l x less at. quiet (suc l) x (omega (arith, less)) (ap (option_and_then (above tree l)) e ∙ at)) (clock_at (instance_at tree k).clocks c))

    -- ---- two homes of one module

    module _ (circuit : FlatCircuit) (i j : ℕ) (one other : Start) (copy : IsCopy circuit tree i j one other) (i_there : i < length tree.instances) (j_there : j < length tree.instances)
        (home_i : is_home i ≡ true) (home_j : is_home j ≡ true) (none_i : (x : ℕ) → LiesIn tree i x → x ≢ i → is_home x ≡ false) (none_j : (x : ℕ) → LiesIn tree j x → x ≢ j → is_home x ≡ false) where
      -- an instance in the one, and as far behind the other
      pub record Again (levels k : ℕ) : Type 0 where
        pub there : above tree levels (shifted i j k) ≡ Some j
        pub within : shifted i j k < length tree.instances
        pub same : inner_clocks is_home tree (shifted i j k) ≡ inner_clocks is_home tree k

      pub again : (levels k : ℕ) → k < length tree.instances → above tree levels k ≡ Some i → Again levels k
      again zero k lt is =
          let e : k ≡ i = same_Some k i is in
          let turned : shifted i j k ≡ j = omega (arith, e) in
          record {
            there = ap Some turned;
            within = omega (arith, turned, j_there);
            same =
                ap (inner_clocks is_home tree) turned
                ∙ inner-home j j_there home_j
                ∙ ap (λ n. clocks_from 0 n) copy.own_clocks
                ∙ sym (inner-home i i_there home_i)
                ∙ ap (inner_clocks is_home tree) (sym e);
          }
      again (suc n) k lt is = go (instance_at tree k).parent refl (again n)
        where
          go : (o : Option ℕ) → (instance_at tree k).parent ≡ o → ((p : ℕ) → p < length tree.instances → above tree n p ≡ Some i → Again n p) → Again (suc n) k
          go None e next = let never : None ≡ Some i = sym (ap (option_and_then (above tree n)) e) ∙ is in absurd (cc)
          go (Some p) e next =
              let low = before k p lt e in
              let up : above tree n p ≡ Some i = sym (ap (option_and_then (above tree n)) e) ∙ is in
              let behind = above-before n p i (omega (arith, low, lt)) up in
              let apart : k ≢ i = λ same. omega (arith, same, behind, low) in
              let lies : LiesIn tree i k = record { levels = suc n; is = is } in
              let rest = next p (omega (arith, low, lt)) up in
              let parent : (instance_at tree (shifted i j k)).parent ≡ Some (shifted i j p) = copy.parent k lt lies apart ∙ ap (option_map (shifted i j)) e in
              let within = known-by tree.instances (shifted i j k) (shifted i j p) parent in
              let there : above tree (suc n) (shifted i j k) ≡ Some j = ap (option_and_then (above tree n)) parent ∙ rest.there in
              let less = before (shifted i j k) (shifted i j p) within parent in
              let after = above-before n (shifted i j p) j rest.within rest.there in
              let quiet = none_i k lies apart in
              let quiet' = none_j (shifted i j k) (record { levels = suc n; is = there }) (λ same. omega (arith, same, after, less)) in
              record {
                there = there;
                within = within;
                same =
                    inner-step (shifted i j k) (shifted i j p) within quiet' parent
                    ∙ ap₂ (λ (l m : List (Option ℕ)). map (clock_at l) m) rest.same (copy.clocks k lt lies apart)
                    ∙ sym (inner-step k p lt quiet e);
              }

      -- what Clock inputs follow in the one home they follow in the other
      pub inner-again : (k : ℕ) → k < length tree.instances → LiesIn tree i k → inner_clocks is_home tree (shifted i j k) ≡ inner_clocks is_home tree k
      inner-again k lt lies = (again lies.levels k lt lies.is).same
