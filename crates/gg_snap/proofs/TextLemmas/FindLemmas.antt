-- Going through a table for the row of a line.
use Rattle.std.proofs.Common.{◌≡◌, ◌≢◌, ℕ, zero, suc, ◌+◌, ◌-◌, ◌<◌, ◌≤◌, ◌^◌, List, [], ◌∷◌, ◌++◌, length, drop, get_or, refl, sym, ap, ◌∙◌, subst, arith, append_assoc}
use Rattle.std.specs.Prelude.{All}
use Rattle.std.proofs.lemmas.List.{append-nil, drop_more, drop_all}
use Rattle.std.proofs.lemmas.List.Elements.{All-drop, All-head, All-tail}
use Rattle.gg_flat.specs.Circuit.{FlatCircuit}
use Rattle.gg_flat.specs.State.{State}
use Rattle.gg_snap.specs.declared.text.reading.Cursor.{Cursor}
use Rattle.gg_snap.specs.declared.text.row.Row.{Row}
use Rattle.gg_snap.specs.text.Known.{AllDiffer, AreKnown, DiffersFrom, IsKnown}
use Rattle.gg_snap.specs.text.Lines.{head_of, line_of, tail_of}
use Rattle.gg_snap.specs.inside.Draft.{with_value}
use Rattle.gg_snap.specs.inside.Places.{IsLineOfNone, IsTaken, Place, Skips, behind, left, places, places_from}
use Rattle.gg_snap.proofs.TextLemmas.LineLemmas.{heads-apart}

pub left-zero : (rows : List Row) → left rows 0 ≡ places rows
left-zero [] = refl
left-zero (row ∷ rows) = let e : row.count - 0 ≡ row.count = omega arith in ap (λ n. places_from row 0 n ++ places rows) e

none-append : (line : List ℕ) (ps qs : List Place) → IsLineOfNone line ps → IsLineOfNone line qs → IsLineOfNone line (ps ++ qs)
none-append line [] qs a b = b
none-append line (p ∷ ps) qs a b = (a.0, none-append line ps qs a.1 b)

-- ---- skipping

pub skips-none : (line : List ℕ) (ps : List Place) → Skips line ps ps
skips-none line ps = record { skipped = []; is = refl; none = tt }

pub skips-then : (line : List ℕ) (ps qs rs : List Place) → Skips line ps qs → Skips line qs rs → Skips line ps rs
skips-then line ps qs rs a b = record {
  skipped = a.skipped ++ b.skipped;
  is = a.is ∙ ap (λ l. a.skipped ++ l) b.is ∙ sym (append_assoc a.skipped b.skipped rs);
  none = none-append line a.skipped b.skipped a.none b.none;
}

-- a line with another head is of none of a row's places
other-head : (line : List ℕ) (row : Row) (a n : ℕ) → ((rest : List ℕ) → line ≢ head_of row ++ rest) → IsLineOfNone line (places_from row a n)
other-head line row a zero other = tt
other-head line row a (suc n) other = (λ v some fits e. other (tail_of row a v) e, other-head line row (a + 1) n other)

pub skip-row : (rows : List Row) (line : List ℕ) (cursor next : Cursor) (any : Row) → cursor.row < length rows → ((rest : List ℕ) → line ≢ head_of (get_or rows cursor.row any) ++ rest) → next ≡ record { row = cursor.row + 1; address = 0 } → Skips line (behind rows cursor) (behind rows next)
skip-row rows line cursor next any lt other is =
    let row = get_or rows cursor.row any in
    let rest = drop (cursor.row + 1) rows in
    subst (λ c. Skips line (behind rows cursor) (behind rows c)) (sym is) (record {
      skipped = places_from row cursor.address (row.count - cursor.address);
      is = ap (λ l. left l cursor.address) (drop_more rows cursor.row any lt) ∙ ap (λ l. places_from row cursor.address (row.count - cursor.address) ++ l) (sym (left-zero rest));
      none = other-head line row cursor.address (row.count - cursor.address) other;
    })

pub skipped-all : (rows : List Row) (line : List ℕ) (old cursor : Cursor) → length rows ≤ cursor.row → Skips line (behind rows old) (behind rows cursor) → IsLineOfNone line (behind rows old)
skipped-all rows line old cursor past skips =
    let nothing : behind rows cursor ≡ [] = ap (λ l. left l cursor.address) (drop_all cursor.row rows past) in
    subst (IsLineOfNone line) (sym (skips.is ∙ ap (λ l. skips.skipped ++ l) nothing ∙ append-nil skips.skipped)) skips.none

-- ---- the row that is found

module _ (circuit : FlatCircuit) (rows : List Row) (known : AreKnown circuit rows) (cursor : Cursor) (any : Row) (lt : cursor.row < length rows) (line : List ℕ) where
  abbrev row : Row
  row = get_or rows cursor.row any

  abbrev later : List Row
  later = drop (cursor.row + 1) rows

  pub row-known : IsKnown circuit row
  row-known = All-head (IsKnown circuit) row later (subst (All (IsKnown circuit)) (drop_more rows cursor.row any lt) (All-drop (IsKnown circuit) cursor.row rows known.each))

  differ-drop : (i : ℕ) (rows : List Row) → AllDiffer rows → AllDiffer (drop i rows)
  differ-drop zero rows all = all
  differ-drop (suc i) [] all = tt
  differ-drop (suc i) (r ∷ rows) all = differ-drop i rows all.1

  here : behind rows cursor ≡ places_from row cursor.address (row.count - cursor.address) ++ places later
  here = ap (λ l. left l cursor.address) (drop_more rows cursor.row any lt)

  -- no other row has a line with this head
  others : (rest : List ℕ) (rs : List Row) → All (IsKnown circuit) rs → DiffersFrom row rs → line ≡ head_of row ++ rest → IsLineOfNone line (places rs)
  others rest [] each differ head = tt
  others rest (r ∷ rs) each differ head =
      let one = All-head (IsKnown circuit) r rs each in
      none-append line (places_from r 0 r.count) (places rs)
      (other-head line r 0 r.count (λ other e. heads-apart row r rest other row-known.plain one.plain differ.0.named (sym head ∙ e)))
      (others rest rs (All-tail (IsKnown circuit) r rs each) differ.1 head)

  later-none : (rest : List ℕ) → line ≡ head_of row ++ rest → IsLineOfNone line (places later)
  later-none rest head =
      let all = subst AllDiffer (drop_more rows cursor.row any lt) (differ-drop cursor.row rows known.differ) in
      others rest later (All-drop (IsKnown circuit) (cursor.row + 1) rows known.each) all.0 head

  none-from : (a n : ℕ) → a + n ≤ row.count → ((address value : ℕ) → a ≤ address → address < row.count → 0 < value → value < 2 ^ row.width → line ≢ line_of row address value) → IsLineOfNone line (places_from row a n)
  none-from a zero le none = tt
  none-from a (suc n) le none = (
    λ v some fits. none a v (omega arith) (omega (arith, le)) some fits,
    none-from (a + 1) n (omega (arith, le)) (λ b v low high some fits. none b v (omega (arith, low)) high some fits),
  )

  -- a line with the head of this row that is of none of its values, from the cursor on, is of none
  pub none-here : (rest : List ℕ) → line ≡ head_of row ++ rest → ((address value : ℕ) → cursor.address ≤ address → address < row.count → 0 < value → value < 2 ^ row.width → line ≢ line_of row address value) → IsLineOfNone line (behind rows cursor)
  none-here rest head none =
      subst (IsLineOfNone line) (sym here)
      (none-append line (places_from row cursor.address (row.count - cursor.address)) (places later) (from (row.count - cursor.address) refl) (later-none rest head))
    where
      from : (n : ℕ) → n ≡ row.count - cursor.address → IsLineOfNone line (places_from row cursor.address n)
      from zero e = tt
      from (suc n) e = none-from cursor.address (suc n) (omega (arith, e)) none

  split-from : (a n m : ℕ) → places_from row a (n + m) ≡ places_from row a n ++ places_from row (a + n) m
  split-from a zero m =
      let e : 0 + m ≡ m = omega arith in
      let z : a ≡ a + 0 = omega arith in
      ap (places_from row a) e ∙ ap (λ b. places_from row b m) z
  split-from a (suc n) m =
      let e : suc n + m ≡ suc (n + m) = omega arith in
      let z : (a + 1) + n ≡ a + suc n = omega arith in
      ap (places_from row a) e ∙ ap (λ l. record { row = row; address = a } ∷ l) (split-from (a + 1) n m ∙ ap (λ b. places_from row (a + 1) n ++ places_from row b m) z)

  one-from : (a n : ℕ) → 0 < n → places_from row a n ≡ record { row = row; address = a } ∷ places_from row (a + 1) (n - 1)
  one-from a zero some = absurd (omega (arith, some))
  one-from a (suc n) some = let e : n ≡ suc n - 1 = omega arith in ap (λ k. record { row = row; address = a } ∷ places_from row (a + 1) k) e

  -- a line of a value of this row is taken
  pub taken-here : (next : Cursor) (old new : State) (a v : ℕ) → cursor.address ≤ a → a < row.count → 0 < v → v < 2 ^ row.width → line ≡ line_of row a v → new ≡ with_value old row.at a v → next ≡ record { row = cursor.row; address = a + 1 }
      → IsTaken (behind rows cursor) (behind rows next) line old new
  taken-here next old new a v low high some fits reads set is =
      let n = a - cursor.address in
      let m = row.count - a in
      let all : row.count - cursor.address ≡ n + m = omega (arith, low, high) in
      let at : cursor.address + n ≡ a = omega (arith, low) in
      let last : m - 1 ≡ row.count - (a + 1) = omega (arith, high) in
      let rest : behind rows (record { row = cursor.row; address = a + 1 }) ≡ places_from row (a + 1) (row.count - (a + 1)) ++ places later = ap (λ l. left l (a + 1)) (drop_more rows cursor.row any lt) in
      let some_left : 0 < m = omega (arith, high) in
      subst (λ c. IsTaken (behind rows cursor) (behind rows c) line old new) (sym is) (record {
        skipped = places_from row cursor.address n;
        place = record { row = row; address = a };
        value = v;
        is =
            here
            ∙ ap (λ k. places_from row cursor.address k ++ places later) all
            ∙ ap (λ l. l ++ places later) (split-from cursor.address n m ∙ ap (λ b. places_from row cursor.address n ++ places_from row b m) at ∙ ap (λ l. places_from row cursor.address n ++ l) (one-from a m some_left ∙ ap (λ k. record { row = row; address = a } ∷ places_from row (a + 1) k) last))
            ∙ append_assoc (places_from row cursor.address n) (record { row = row; address = a } ∷ places_from row (a + 1) (row.count - (a + 1))) (places later)
            ∙ ap (λ l. places_from row cursor.address n ++ record { row = row; address = a } ∷ l) (sym rest);
        some = some;
        fits = fits;
        reads = reads;
        state = set;
      })

pub skips-taken : (line : List ℕ) (ps qs rs : List Place) (old new : State) → Skips line ps qs → IsTaken qs rs line old new → IsTaken ps rs line old new
skips-taken line ps qs rs old new skips taken = record {
  skipped = skips.skipped ++ taken.skipped;
  place = taken.place;
  value = taken.value;
  is = skips.is ∙ ap (λ l. skips.skipped ++ l) taken.is ∙ sym (append_assoc skips.skipped taken.skipped (taken.place ∷ rs));
  some = taken.some;
  fits = taken.fits;
  reads = taken.reads;
  state = taken.state;
}

pub skips-line : (line : List ℕ) (ps qs : List Place) → Skips line ps qs → IsLineOfNone line qs → IsLineOfNone line ps
skips-line line ps qs skips none = subst (IsLineOfNone line) (sym skips.is) (none-append line skips.skipped qs skips.none none)
