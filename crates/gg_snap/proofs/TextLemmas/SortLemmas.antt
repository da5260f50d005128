-- Rows in the order of their paths.
use Rattle.std.proofs.Common.{◌≡◌, ◌≢◌, ℕ, zero, suc, ◌<◌, ◌≤◌, List, [], ◌∷◌, length, map, get_or, Bool, true, false, cond, Decides, refl, sym, ap, ap₂, ◌∙◌, subst, arith, ◌⊎◌, inl, inr, true≢false}
use Rattle.std.specs.Prelude.{⊤, Contains, AllPairs}
use Rattle.std.specs.List.Sorted.{IsPermutation, IsSortedBy}
use Rattle.std.specs.Ordering.{is_eq, is_lt, nat_cmp, ordering_reverse}
use Rattle.std.specs.declared.cmp.Ordering.{Ordering}
use Rattle.std.specs.declared.cmp.Ordering.TheVariants.{Less, Equal, Greater}
use Rattle.std.specs.Cmp.{IsStrictWeakOrder, unsigned_ties}
use Rattle.std.specs.Cmp.Lexicographic.{slice_cmp, nat_list_cmp_total, lists_ties, bytes_decides}
use Rattle.std.proofs.lemmas.List.{get_or-map, length-map}
use Rattle.std.proofs.lemmas.List.Sorted.{Contains-permutation, IsPermutation-map, IsPermutation-sym, sorted_far, ranks_by}
use Rattle.std.proofs.lemmas.Map.Keys.{IsDistinct-IsPermutation}
use Rattle.std.proofs.lemmas.Map.Made.{AllPairs-from_IsDistinct, IsDistinct-from_AllPairs}
use Rattle.std.proofs.lemmas.Bool.{cases_Bool, cases_lt}
use Rattle.gg_flat.proofs.ListLemmas.{Contains-cases, here, further}
use Rattle.gg_snap.specs.declared.text.row.Row.{Row}
use Rattle.gg_snap.specs.text.Table.{by_path, inserted}

-- whether a path comes before another
abbrev pub is_before : List ℕ → List ℕ → Bool
is_before a b = is_lt (slice_cmp nat_cmp a b)

pub order : IsStrictWeakOrder {X = Row} (λ x y. is_lt (slice_cmp nat_cmp x.path y.path))
order = ranks_by nat_list_cmp_total (λ (row : Row). row.path)

-- each of these rows has a property
abbrev pub Each : (Row → Type 0) → List Row → Type 0
Each P [] = ⊤
Each P (row ∷ rows) = P row × Each P rows

-- each row's path comes before those of all later rows
abbrev pub Ascend : List Row → Type 0
Ascend [] = ⊤
Ascend (row ∷ rows) = Each (λ other. is_before row.path other.path ≡ true) rows × Ascend rows

abbrev pub Among : Row → List Row → Type 0
Among row [] = ⊥
Among row (other ∷ rows) = (row ≡ other) ⊎ Among row rows

pub each-among : (P : Row → Type 0) (row : Row) (rows : List Row) → Each P rows → Among row rows → P row
each-among P row [] each among = absurd among
each-among P row (other ∷ rows) each (inl e) = subst P (sym e) each.0
each-among P row (other ∷ rows) each (inr among) = each-among P row rows each.1 among

pub each-from : (P : Row → Type 0) (rows : List Row) → ((row : Row) → Among row rows → P row) → Each P rows
each-from P [] from = tt
each-from P (row ∷ rows) from = (from row (inl refl), each-from P rows (λ other among. from other (inr among)))

among-contains : (row : Row) (rows : List Row) → Contains rows row → Among row rows
among-contains row [] c = omega (arith, c.1)
among-contains row (other ∷ rows) c = by (λ d. among-contains row rows d) (Contains-cases other row rows c)
  where
    by : (Contains rows row → Among row rows) → (other ≡ row) ⊎ Contains rows row → Among row (other ∷ rows)
    by later (inl e) = inl (sym e)
    by later (inr d) = inr (later d)

contains-among : (row : Row) (rows : List Row) → Among row rows → Contains rows row
contains-among row [] among = absurd among
contains-among row (other ∷ rows) (inl e) = subst (λ r. Contains (other ∷ rows) r) (sym e) (here other rows)
contains-among row (other ∷ rows) (inr among) = further other rows row (contains-among row rows among)

-- ---- two lists in order that have the same rows are one

not-itself : (row : Row) → is_before row.path row.path ≡ true → ⊥
not-itself row e = true≢false (sym e ∙ order.one_way row row e)

not-both : (x y : Row) → is_before x.path y.path ≡ true → is_before y.path x.path ≡ true → ⊥
not-both x y a b = true≢false (sym b ∙ order.one_way x y a)

pub before-then : (x y z : Row) → is_before x.path y.path ≡ true → is_before y.path z.path ≡ true → is_before x.path z.path ≡ true
before-then x y z a b = by (cases_Bool (is_before x.path z.path))
  where
    by : (is_before x.path z.path ≡ true) ⊎ (is_before x.path z.path ≡ false) → is_before x.path z.path ≡ true
    by (inl t) = t
    by (inr f) = absurd (true≢false (sym a ∙ order.chain x z y f (order.one_way y z b)))

-- one of two different paths comes first
same-path : (xs ys : List ℕ) → slice_cmp nat_cmp xs ys ≡ Equal → xs ≡ ys
same-path xs ys e = (bytes_decides xs ys).0 (lists_ties nat_cmp unsigned_ties xs ys ∙ ap is_eq e)

pub one-first : (x y : Row) → (x.path ≡ y.path → ⊥) → is_before y.path x.path ≡ false → is_before x.path y.path ≡ true
one-first x y differ later = by (slice_cmp nat_cmp x.path y.path) refl
  where
    by : (o : Ordering) → slice_cmp nat_cmp x.path y.path ≡ o → is_lt (slice_cmp nat_cmp x.path y.path) ≡ true
    by Less e = ap is_lt e
    by Equal e = absurd (differ (same-path x.path y.path e))
    by Greater e =
        let back : is_before y.path x.path ≡ true = ap is_lt (nat_list_cmp_total.antisymm y.path x.path ∙ ap ordering_reverse e) in
        absurd (true≢false (sym back ∙ later))

-- a first row that comes before all others, in both
ascend-same : (xs ys : List Row) → Ascend xs → Ascend ys → ((row : Row) → Among row xs → Among row ys) → ((row : Row) → Among row ys → Among row xs) → xs ≡ ys
ascend-same [] [] a b to back = refl
ascend-same [] (y ∷ ys) a b to back = absurd (back y (inl refl))
ascend-same (x ∷ xs) [] a b to back = absurd (to x (inl refl))
ascend-same (x ∷ xs) (y ∷ ys) a b to back =
    let heads : x ≡ y = heads-same (to x (inl refl)) (back y (inl refl)) in
    ap₂ (λ r rs. r ∷ rs) heads
    (ascend-same xs ys a.1 b.1
    (λ row among. past y ys row (to row (inr among)) (λ e. not-itself x (subst (λ r. is_before x.path r.path ≡ true) (e ∙ sym heads) (each-among (λ other. is_before x.path other.path ≡ true) row xs a.0 among))))
    (λ row among. past x xs row (back row (inr among)) (λ e. not-itself y (subst (λ r. is_before y.path r.path ≡ true) (e ∙ heads) (each-among (λ other. is_before y.path other.path ≡ true) row ys b.0 among)))))
  where
    heads-same : Among x (y ∷ ys) → Among y (x ∷ xs) → x ≡ y
    heads-same (inl e) other = e
    heads-same (inr among) (inl e) = sym e
    heads-same (inr among) (inr there) =
        absurd (not-both x y (each-among (λ other. is_before x.path other.path ≡ true) y xs a.0 there) (each-among (λ other. is_before y.path other.path ≡ true) x ys b.0 among))

    past : (z : Row) (zs : List Row) (row : Row) → Among row (z ∷ zs) → (row ≡ z → ⊥) → Among row zs
    past z zs row (inl e) ne = absurd (ne e)
    past z zs row (inr among) ne = among

-- ---- a row that is put among others

pub inserted-in : (r : Row) (rows : List Row) (x : Row) → Among x (inserted r rows) → (x ≡ r) ⊎ Among x rows
inserted-in r [] x (inl e) = inl e
inserted-in r [] x (inr none) = absurd none
inserted-in r (n ∷ rows) x among = by (λ a. inserted-in r rows x a) (is_before r.path n.path) among
  where
    later : (x ≡ r) ⊎ Among x rows → (x ≡ r) ⊎ Among x (n ∷ rows)
    later (inl e) = inl e
    later (inr a) = inr (inr a)

    by : (Among x (inserted r rows) → (x ≡ r) ⊎ Among x rows) → (b : Bool) → Among x (cond b (r ∷ n ∷ rows) (n ∷ inserted r rows)) → (x ≡ r) ⊎ Among x (n ∷ rows)
    by same true (inl e) = inl e
    by same true (inr a) = inr a
    by same false (inl e) = inr (inl e)
    by same false (inr a) = later (same a)

in-inserted : (r : Row) (rows : List Row) (x : Row) → (x ≡ r) ⊎ Among x rows → Among x (inserted r rows)
in-inserted r [] x (inl e) = inl e
in-inserted r [] x (inr none) = absurd none
in-inserted r (n ∷ rows) x among = by (λ a. in-inserted r rows x a) (is_before r.path n.path) among
  where
    by : ((x ≡ r) ⊎ Among x rows → Among x (inserted r rows)) → (b : Bool) → (x ≡ r) ⊎ Among x (n ∷ rows) → Among x (cond b (r ∷ n ∷ rows) (n ∷ inserted r rows))
    by same true (inl e) = inl e
    by same true (inr a) = inr a
    by same false (inl e) = inr (same (inl e))
    by same false (inr (inl e)) = inl e
    by same false (inr (inr a)) = inr (same (inr a))

pub by_path-in : (rows : List Row) (x : Row) → Among x (by_path rows) → Among x rows
by_path-in [] x none = none
by_path-in (r ∷ rows) x among = by (λ a. by_path-in rows x a) (inserted-in r (by_path rows) x among)
  where
    by : (Among x (by_path rows) → Among x rows) → (x ≡ r) ⊎ Among x (by_path rows) → Among x (r ∷ rows)
    by same (inl e) = inl e
    by same (inr a) = inr (same a)

pub in-by_path : (rows : List Row) (x : Row) → Among x rows → Among x (by_path rows)
in-by_path [] x none = none
in-by_path (r ∷ rows) x (inl e) = in-inserted r (by_path rows) x (inl e)
in-by_path (r ∷ rows) x (inr a) = in-inserted r (by_path rows) x (inr (in-by_path rows x a))

inserted-ascends : (r : Row) (rows : List Row) → Ascend rows → Each (λ other. r.path ≡ other.path → ⊥) rows → Ascend (inserted r rows)
inserted-ascends r [] up apart = (tt, tt)
inserted-ascends r (n ∷ rows) up apart = by (inserted-ascends r rows up.1 apart.1) (is_before r.path n.path) refl
  where
    by : Ascend (inserted r rows) → (b : Bool) → is_before r.path n.path ≡ b → Ascend (cond b (r ∷ n ∷ rows) (n ∷ inserted r rows))
    by more true e = ((e, each-from (λ other. is_before r.path other.path ≡ true) rows (λ row among. before-then r n row e (each-among (λ other. is_before n.path other.path ≡ true) row rows up.0 among))), up)
    by more false e =
        let first : is_before n.path r.path ≡ true = one-first n r (λ same. apart.0 (sym same)) e in (
          each-from (λ other. is_before n.path other.path ≡ true) (inserted r rows) (λ row among. past first row (inserted-in r rows row among)),
          more,
        )
      where
        past : is_before n.path r.path ≡ true → (row : Row) → (row ≡ r) ⊎ Among row rows → is_before n.path row.path ≡ true
        past first row (inl e) = subst (λ x. is_before n.path x.path ≡ true) (sym e) first
        past first row (inr a) = each-among (λ other. is_before n.path other.path ≡ true) row rows up.0 a

-- no two rows have one path
abbrev pub AreDistinct : List Row → Type 0
AreDistinct [] = ⊤
AreDistinct (row ∷ rows) = Each (λ other. row.path ≡ other.path → ⊥) rows × AreDistinct rows

pub by_path-ascends : (rows : List Row) → AreDistinct rows → Ascend (by_path rows)
by_path-ascends [] apart = tt
by_path-ascends (r ∷ rows) apart =
    inserted-ascends r (by_path rows) (by_path-ascends rows apart.1)
    (each-from (λ other. r.path ≡ other.path → ⊥) (by_path rows) (λ row among. each-among (λ other. r.path ≡ other.path → ⊥) row rows apart.0 (by_path-in rows row among)))

-- ---- what a sort leaves

-- the paths at two places differ
abbrev pub AreApart : List Row → Type 0
AreApart rows = (i j : ℕ) (d : Row) → i < length rows → j < length rows → i ≢ j → (get_or rows i d).path ≡ (get_or rows j d).path → ⊥

ascends-by : (rows : List Row) → ((i j : ℕ) (d : Row) → i < j → j < length rows → is_before (get_or rows i d).path (get_or rows j d).path ≡ true) → Ascend rows
ascends-by [] up = tt
ascends-by (r ∷ rows) up = (
  each-at rows (λ j d lt. up 0 (suc j) d (omega arith) (omega (arith, lt))),
  ascends-by rows (λ i j d less lt. up (suc i) (suc j) d (omega (arith, less)) (omega (arith, lt))),
)
  where
    each-at : (rows : List Row) → ((j : ℕ) (d : Row) → j < length rows → is_before r.path (get_or rows j d).path ≡ true) → Each (λ other. is_before r.path other.path ≡ true) rows
    each-at [] at = tt
    each-at (n ∷ rows) at = (at 0 n (omega arith), each-at rows (λ j d lt. at (suc j) d (omega (arith, lt))))

pub sorted-is : (xs ys : List Row) → IsPermutation xs ys → IsSortedBy (λ (x y : Row). is_lt (slice_cmp nat_cmp x.path y.path)) ys → AreDistinct xs → AreApart ys → ys ≡ by_path xs
sorted-is xs ys moved sorted distinct apart =
    ascend-same ys (by_path xs)
    (ascends-by ys (λ i j d less lt. one-first (get_or ys i d) (get_or ys j d) (apart i j d (omega (arith, less, lt)) lt (λ e. omega (arith, less, e))) (sorted_far (λ (x y : Row). is_lt (slice_cmp nat_cmp x.path y.path)) order ys sorted i j d (omega (arith, less)) lt)))
    (by_path-ascends xs distinct)
    (λ row among. in-by_path xs row (among-contains row xs (Contains-permutation ys xs row (IsPermutation-sym xs ys moved) (contains-among row ys among))))
    (λ row among. among-contains row ys (Contains-permutation xs ys row moved (contains-among row xs (by_path-in xs row among))))

-- ---- paths that differ go on doing so in another order

flips : {e : List ℕ → List ℕ → Bool} (same : (a b : List ℕ) → Decides (e a b) (a ≡ b)) → (x y : List ℕ) → e x y ≡ e y x
flips {e} same x y = by (e x y) (e y x) refl refl
  where
    by : (a b : Bool) → e x y ≡ a → e y x ≡ b → e x y ≡ e y x
    by true b p q = p ∙ sym ((same y x).1 (sym ((same x y).0 p)))
    by false true p q = absurd (true≢false (sym ((same x y).1 (sym ((same y x).0 q))) ∙ p))
    by false false p q = p ∙ sym q

moved-pairs : {e : List ℕ → List ℕ → Bool} (same : (a b : List ℕ) → Decides (e a b) (a ≡ b)) → (xs ys : List (List ℕ)) → IsPermutation xs ys → AllPairs (λ a b. a ≢ b) xs → AllPairs (λ a b. a ≢ b) ys
moved-pairs {e} same xs ys moved apart = AllPairs-from_IsDistinct same ys (IsDistinct-IsPermutation e (flips same) xs ys moved (IsDistinct-from_AllPairs same xs apart))

abbrev paths_of : List Row → List (List ℕ)
paths_of rows = map (λ row. row.path) rows

path-at : (rows : List Row) (i : ℕ) (d : Row) (any : List ℕ) → i < length rows → get_or (paths_of rows) i any ≡ (get_or rows i d).path
path-at rows i d any lt = get_or-map (λ (row : Row). row.path) rows i d any lt

-- no two of these rows have one path, by their places
abbrev pub HaveOwnPaths : List Row → Type 0
HaveOwnPaths rows = AllPairs (λ a b. a.path ≢ b.path) rows

own-paths : (rows : List Row) → HaveOwnPaths rows → AllPairs (λ a b. a ≢ b) (paths_of rows)
own-paths [] own i j d less lt = absurd (omega (arith, lt))
own-paths (r ∷ rows) own i j d less lt =
    let inside : j < length (r ∷ rows) = omega (arith, lt, length-map rows (λ (row : Row). row.path)) in
    let low : i < length (r ∷ rows) = omega (arith, less, inside) in
    λ e. own i j r less inside (sym (path-at (r ∷ rows) i r d low) ∙ e ∙ path-at (r ∷ rows) j r d inside)

moved-apart : (xs ys : List Row) → IsPermutation xs ys → HaveOwnPaths xs → AreApart ys
moved-apart xs ys moved own i j d low high ne e = by (cases_lt i j)
  where
    apart : AllPairs (λ a b. a ≢ b) (paths_of ys)
    apart = moved-pairs bytes_decides (paths_of xs) (paths_of ys) (IsPermutation-map (λ (row : Row). row.path) xs ys moved) (own-paths xs own)

    size : length (paths_of ys) ≡ length ys
    size = length-map ys (λ (row : Row). row.path)

    same : get_or (paths_of ys) i [] ≡ get_or (paths_of ys) j []
    same = path-at ys i d [] low ∙ e ∙ sym (path-at ys j d [] high)

    by : (i < j) ⊎ (j ≤ i) → ⊥
    by (inl less) = apart i j [] less (omega (arith, high, size)) same
    by (inr more) = apart j i [] (omega (arith, more, ne)) (omega (arith, low, size)) (sym same)

distinct-own : (rows : List Row) → HaveOwnPaths rows → AreDistinct rows
distinct-own [] own = tt
distinct-own (r ∷ rows) own = (each-at rows (λ j d lt. own 0 (suc j) d (omega arith) (omega (arith, lt))), distinct-own rows (λ i j d less lt. own (suc i) (suc j) d (omega (arith, less)) (omega (arith, lt))))
  where
    each-at : (rows : List Row) → ((j : ℕ) (d : Row) → j < length rows → r.path ≡ (get_or rows j d).path → ⊥) → Each (λ other. r.path ≡ other.path → ⊥) rows
    each-at [] at = tt
    each-at (n ∷ rows) at = (at 0 n (omega arith), each-at rows (λ j d lt. at (suc j) d (omega (arith, lt))))

pub own-distinct : (rows : List Row) → AreDistinct rows → HaveOwnPaths rows
own-distinct [] distinct i j d less lt = absurd (omega (arith, lt))
own-distinct (r ∷ rows) distinct zero zero d less lt = absurd (omega (arith, less))
own-distinct (r ∷ rows) distinct zero (suc j) d less lt = at rows j d distinct.0 (omega (arith, lt))
  where
    at : (rows : List Row) (j : ℕ) (d : Row) → Each (λ other. r.path ≡ other.path → ⊥) rows → j < length rows → r.path ≡ (get_or rows j d).path → ⊥
    at [] j d each lt = absurd (omega (arith, lt))
    at (n ∷ rows) zero d each lt = each.0
    at (n ∷ rows) (suc j) d each lt = at rows j d each.1 (omega (arith, lt))
own-distinct (r ∷ rows) distinct (suc i) zero d less lt = absurd (omega (arith, less))
own-distinct (r ∷ rows) distinct (suc i) (suc j) d less lt = own-distinct rows distinct.1 i j d (omega (arith, less)) (omega (arith, lt))

pub sorted-by_path : (xs ys : List Row) → IsPermutation xs ys → IsSortedBy (λ (x y : Row). is_lt (slice_cmp nat_cmp x.path y.path)) ys → HaveOwnPaths xs → ys ≡ by_path xs
sorted-by_path xs ys moved sorted own = sorted-is xs ys moved sorted (distinct-own xs own) (moved-apart xs ys moved own)
