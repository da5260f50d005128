-- Rows by number and in the order of paths: what holds of each, and that they differ.
use Rattle.std.proofs.Common.{◌≡◌, ◌≢◌, ℕ, zero, suc, ◌+◌, ◌<◌, ◌≤◌, List, [], ◌∷◌, ◌++◌, Bool, true, false, cond, sym, ◌∙◌, subst, arith, ◌⊎◌, inl, inr}
use Rattle.std.specs.Prelude.{All}
use Rattle.std.specs.List.{flat_map, range_with_len}
use Rattle.std.proofs.lemmas.List.Elements.{All-cons, All-nil}
use Rattle.gg_snap.specs.declared.text.row.Kind.{Kind}
use Rattle.gg_snap.specs.declared.text.row.Row.{Row}
use Rattle.gg_snap.specs.text.Known.{AllDiffer, Differ, DiffersFrom}
use Rattle.gg_snap.specs.text.Table.{by_path, inserted}
use Rattle.gg_snap.proofs.TextLemmas.LineLemmas.{elsewhere-back}
use Rattle.gg_snap.proofs.TextLemmas.SortLemmas.{Among, AreDistinct, Each, by_path-in, each-among, each-from, inserted-in, is_before}

-- ---- rows by number

-- a row of one of the numbers from a on and below b
pub record IsNumbered (Q : ℕ → Row → Type 0) (a b : ℕ) (row : Row) : Type 0 where
  pub number : ℕ
  pub low : a ≤ number
  pub high : number < b
  pub is : Q number row

pub each-append : (P : Row → Type 0) (xs ys : List Row) → Each P xs → Each P ys → Each P (xs ++ ys)
each-append P [] ys a b = b
each-append P (x ∷ xs) ys a b = (a.0, each-append P xs ys a.1 b)

pub each-map : (P Q : Row → Type 0) (rows : List Row) → ((row : Row) → P row → Q row) → Each P rows → Each Q rows
each-map P Q [] to each = tt
each-map P Q (row ∷ rows) to each = (to row each.0, each-map P Q rows to each.1)

pub all-each : (P : Row → Type 0) (rows : List Row) → Each P rows → All P rows
all-each P [] each = All-nil P
all-each P (row ∷ rows) each = All-cons P row rows each.0 (all-each P rows each.1)

pub numbered : (Q : ℕ → Row → Type 0) (f : ℕ → List Row) (a n m : ℕ) → a + n ≤ m → ((s : ℕ) → s < m → Each (Q s) (f s)) → Each (IsNumbered Q a m) (flat_map f (range_with_len a n))
numbered Q f a zero m le each = tt
numbered Q f a (suc n) m le each =
    each-append (IsNumbered Q a m) (f a) (flat_map f (range_with_len (a + 1) n))
    (each-map (Q a) (IsNumbered Q a m) (f a) (λ row is. record { number = a; low = omega arith; high = omega (arith, le); is = is }) (each a (omega (arith, le))))
    (each-map (IsNumbered Q (a + 1) m) (IsNumbered Q a m) (flat_map f (range_with_len (a + 1) n)) (λ row is. record { number = is.number; low = omega (arith, is.low); high = is.high; is = is.is }) (numbered Q f (a + 1) n m (omega (arith, le)) each))

pub differs-from : (row : Row) (rows : List Row) → Each (Differ row) rows → DiffersFrom row rows
differs-from row [] each = tt
differs-from row (other ∷ rows) each = (each.0, differs-from row rows each.1)

pub differ-append : (xs ys : List Row) → AllDiffer xs → AllDiffer ys → Each (λ x. Each (Differ x) ys) xs → AllDiffer (xs ++ ys)
differ-append [] ys a b c = b
differ-append (x ∷ xs) ys a b c = (from x xs ys a.0 c.0, differ-append xs ys a.1 b c.1)
  where
    from : (x : Row) (xs ys : List Row) → DiffersFrom x xs → Each (Differ x) ys → DiffersFrom x (xs ++ ys)
    from x [] ys a b = differs-from x ys b
    from x (z ∷ xs) ys a b = (a.0, from x xs ys a.1 b)

pub numbered-differ : (Q : ℕ → Row → Type 0) (f : ℕ → List Row) (a n m : ℕ) → a + n ≤ m → ((s : ℕ) → s < m → Each (Q s) (f s)) → ((s : ℕ) → s < m → AllDiffer (f s))
    → ((s t : ℕ) (r q : Row) → s < t → t < m → Q s r → Q t q → Differ r q) → AllDiffer (flat_map f (range_with_len a n))
numbered-differ Q f a zero m le each own apart = tt
numbered-differ Q f a (suc n) m le each own apart =
    differ-append (f a) (flat_map f (range_with_len (a + 1) n)) (own a (omega (arith, le))) (numbered-differ Q f (a + 1) n m (omega (arith, le)) each own apart)
    (each-map (Q a) (λ x. Each (Differ x) (flat_map f (range_with_len (a + 1) n))) (f a) (λ r is.
    each-map (IsNumbered Q (a + 1) m) (Differ r) (flat_map f (range_with_len (a + 1) n)) (λ q other. apart a other.number r q (omega (arith, other.low)) other.high is other.is)
    (numbered Q f (a + 1) n m (omega (arith, le)) each)) (each a (omega (arith, le))))

-- ---- in the order of paths

differ-back : (r q : Row) → Differ r q → Differ q r
differ-back r q d = record { named = back d.named; apart = elsewhere-back r.at q.at d.apart }
  where
    back : (r.kind ≢ q.kind) ⊎ (r.path ≢ q.path) → (q.kind ≢ r.kind) ⊎ (q.path ≢ r.path)
    back (inl k) = inl (λ e. k (sym e))
    back (inr p) = inr (λ e. p (sym e))

each-differs : (row : Row) (rows : List Row) → DiffersFrom row rows → Each (Differ row) rows
each-differs row [] d = tt
each-differs row (other ∷ rows) d = (d.0, each-differs row rows d.1)

inserted-differ : (r : Row) (rows : List Row) → DiffersFrom r rows → AllDiffer rows → AllDiffer (inserted r rows)
inserted-differ r [] from all = (tt, tt)
inserted-differ r (n ∷ rows) from all = by (inserted-differ r rows from.1 all.1) (is_before r.path n.path)
  where
    past : (row : Row) → (row ≡ r) ⊎ Among row rows → Differ n row
    past row (inl e) = subst (Differ n) (sym e) (differ-back r n from.0)
    past row (inr a) = each-among (Differ n) row rows (each-differs n rows all.0) a

    by : AllDiffer (inserted r rows) → (b : Bool) → AllDiffer (cond b (r ∷ n ∷ rows) (n ∷ inserted r rows))
    by more true = (from, all)
    by more false = (differs-from n (inserted r rows) (each-from (Differ n) (inserted r rows) (λ row among. past row (inserted-in r rows row among))), more)

pub by_path-differ : (rows : List Row) → AllDiffer rows → AllDiffer (by_path rows)
by_path-differ [] all = tt
by_path-differ (r ∷ rows) all =
    inserted-differ r (by_path rows) (differs-from r (by_path rows) (each-from (Differ r) (by_path rows) (λ row among. each-among (Differ r) row rows (each-differs r rows all.0) (by_path-in rows row among)))) (by_path-differ rows all.1)

pub by_path-each : (P : Row → Type 0) (rows : List Row) → Each P rows → Each P (by_path rows)
by_path-each P rows each = each-from P (by_path rows) (λ row among. each-among P row rows each (by_path-in rows row among))

-- rows of one kind that differ have different paths
pub distinct-of : (k : Kind) (rows : List Row) → Each (λ row. row.kind ≡ k) rows → AllDiffer rows → AreDistinct rows
distinct-of k [] kinds all = tt
distinct-of k (r ∷ rows) kinds all = (paths rows kinds.1 all.0, distinct-of k rows kinds.1 all.1)
  where
    by : (q : Row) → q.kind ≡ k → (r.kind ≢ q.kind) ⊎ (r.path ≢ q.path) → r.path ≡ q.path → ⊥
    by q e (inl ne) same = ne (kinds.0 ∙ sym e)
    by q e (inr ne) same = ne same

    paths : (rows : List Row) → Each (λ row. row.kind ≡ k) rows → DiffersFrom r rows → Each (λ other. r.path ≡ other.path → ⊥) rows
    paths [] own from = tt
    paths (q ∷ rows) own from = (by q own.0 from.0.named, paths rows own.1 from.1)
