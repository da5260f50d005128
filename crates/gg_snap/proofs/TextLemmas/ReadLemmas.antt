-- Reading line by line: what was taken, and what the rest can't be.
use Rattle.std.proofs.Common.{◌≡◌, ℕ, zero, suc, ◌+◌, ◌<◌, ◌≤◌, ◌^◌, List, [], ◌∷◌, ◌++◌, length, take, get_or, Some, sym, ap, ap₂, ◌∙◌, subst, arith, append_assoc}
use Rattle.std.specs.Prelude.{⊤, All}
use Rattle.std.proofs.lemmas.List.{append-nil, length-append, nil_from_length, take_at, take-take, get_or-take, get_or_at}
use Rattle.std.proofs.lemmas.List.Elements.{All-head, All-tail}
use Rattle.gg_flat.specs.Circuit.{FlatCircuit}
use Rattle.gg_flat.specs.State.{IsState, State, opening}
use Rattle.gg_flat.proofs.StateLemmas.{IsState-opening}
use Rattle.gg_snap.specs.declared.text.reading.Cursor.{Cursor}
use Rattle.gg_snap.specs.declared.text.row.Row.{Row}
use Rattle.gg_snap.specs.text.Known.{AreKnown, IsKnown}
use Rattle.gg_snap.specs.text.Lines.{line_of, value_lines}
use Rattle.gg_snap.specs.inside.Draft.{with_value}
use Rattle.gg_snap.specs.inside.Places.{Ends, IsLineOfNone, IsTaken, Place, behind, left, places, places_from}
use Rattle.gg_snap.specs.text.Standing.{pieces}
use Rattle.gg_snap.proofs.TextLemmas.ItemLemmas.{HasLine, IsTight, none-has, one-more, texts, tight-push}
use Rattle.gg_snap.proofs.TextLemmas.PlaceLemmas.{AllTwo, AreFit, AreSame, AreZero, all-apart, are-items, fit-behind, fit-front, items, items-append, items-one, line-added, lines-append, lines-of-rows, lines-texts, lines-zero, place_lines, same-back, same-front, value_at_place, zero-behind, zero-same}
use Rattle.gg_snap.proofs.TextLemmas.DraftLemmas.{fit-places, has-value, set-here, with-value, zero-places}
use Rattle.gg_snap.proofs.TextLemmas.FindLemmas.{left-zero}
use Rattle.gg_snap.proofs.TextLemmas.LineLemmas.{places-two}

-- So many lines of a text were taken, up to a cursor; `rest` is what is left of the text.
pub record Reads (circuit : FlatCircuit) (rows : List Row) (text rest : List ℕ) (count : ℕ) (cursor : Cursor) (state : State) : Type 0 where
  pub done : List Place
  pub is : places rows ≡ done ++ behind rows cursor
  pub tight : IsTight (items state done)
  pub zero : AreZero state (behind rows cursor)
  pub typed : IsState circuit state
  pub lines : pieces text ≡ place_lines state (places rows) ++ pieces rest
  pub counted : count ≡ length (place_lines state (places rows))
  pub within : cursor.row ≤ length rows
  pub few : count + length rest ≤ length text

pub reads-begin : (circuit : FlatCircuit) (rows : List Row) (text : List ℕ) (state : State) → state ≡ opening circuit → Reads circuit rows text text 0 (record { row = 0; address = 0 }) state
reads-begin circuit rows text state is = subst (Reads circuit rows text text 0 (record { row = 0; address = 0 })) (sym is) (record {
  done = [];
  is = sym (left-zero rows);
  tight = tt;
  zero = zero-places circuit (left rows 0);
  typed = IsState-opening circuit;
  lines = ap (λ ls. ls ++ pieces text) (sym none);
  counted = sym (ap length none);
  within = omega arith;
  few = omega arith;
})
  where
    none : place_lines (opening circuit) (places rows) ≡ []
    none = lines-zero (opening circuit) (places rows) (zero-places circuit (places rows))

-- ---- places of known rows

abbrev IsKnownPlace : FlatCircuit → Place → Type 0
IsKnownPlace circuit p = IsKnown circuit p.row × (p.address < p.row.count)

abbrev AreKnownPlaces : FlatCircuit → List Place → Type 0
AreKnownPlaces circuit [] = ⊤
AreKnownPlaces circuit (p ∷ ps) = IsKnownPlace circuit p × AreKnownPlaces circuit ps

known-from : (circuit : FlatCircuit) (row : Row) (a n : ℕ) → IsKnown circuit row → a + n ≤ row.count → (rest : List Place) → AreKnownPlaces circuit rest → AreKnownPlaces circuit (places_from row a n ++ rest)
known-from circuit row a zero known within rest more = more
known-from circuit row a (suc n) known within rest more = ((known, omega (arith, within)), known-from circuit row (a + 1) n known (omega (arith, within)) rest more)

known-places : (circuit : FlatCircuit) (rows : List Row) → All (IsKnown circuit) rows → AreKnownPlaces circuit (places rows)
known-places circuit [] known = tt
known-places circuit (row ∷ rows) known =
    known-from circuit row 0 row.count (All-head (IsKnown circuit) row rows known) (omega arith) (places rows) (known-places circuit rows (All-tail (IsKnown circuit) row rows known))

known-middle : (circuit : FlatCircuit) (front back : List Place) (p : Place) → AreKnownPlaces circuit (front ++ p ∷ back) → IsKnownPlace circuit p
known-middle circuit [] back p known = known.0
known-middle circuit (q ∷ front) back p known = known-middle circuit front back p known.1

-- ---- a step

module _ (circuit : FlatCircuit) (rows : List Row) (known : AreKnown circuit rows) (done skipped back : List Place) (p : Place) (v : ℕ) (whole : places rows ≡ (done ++ skipped) ++ p ∷ back) (s : State) (typed : IsState circuit s) (zero : AreZero s (p ∷ back)) (some : 0 < v) (fits : v < 2 ^ p.row.width) where
  abbrev next : State
  next = with_value s p.row.at p.address v

  one : IsKnownPlace circuit p
  one = known-middle circuit (done ++ skipped) back p (subst (AreKnownPlaces circuit) whole (known-places circuit rows known.each))

  two : AllTwo ((done ++ skipped) ++ p ∷ back)
  two = subst AllTwo whole (places-two circuit rows known.each known.differ)

  value : value_at_place next p ≡ v
  value = set-here s p.row.at p.address v (has-value circuit s typed p.row.width p.row.count p.address p.row.at one.0.at one.1)

  after-is : AreSame s next back
  after-is = same-back p (done ++ skipped) back s v two

  pub step-added : place_lines next (places rows) ≡ place_lines s (places rows) ++ line_of p.row p.address v ∷ []
  step-added =
      ap (place_lines next) whole
      ∙ line-added s next (done ++ skipped) back p v (same-front p (done ++ skipped) back s v two) after-is zero value some
      ∙ ap (λ ls. ls ++ line_of p.row p.address v ∷ []) (ap (place_lines s) (sym whole))

  pub step-tight : IsTight (items next ((done ++ skipped) ++ p ∷ []))
  step-tight =
      subst IsTight (sym (items-append next (done ++ skipped) (p ∷ []) ∙ ap (λ xs. items next (done ++ skipped) ++ xs) (items-one next p v value some)))
      (tight-push (items next (done ++ skipped)) (line_of p.row p.address v))

  pub step-zero : AreZero next back
  step-zero = zero-same s next back after-is zero.1

  pub step-typed : IsState circuit next
  step-typed = with-value circuit s typed p.row.width p.row.count p.address v p.row.at one.0.at fits

pub reads-step : (circuit : FlatCircuit) (rows : List Row) (text rest after piece : List ℕ) (count : ℕ) (cursor next : Cursor) (s t : State) → AreKnown circuit rows → Reads circuit rows text rest count cursor s
    → pieces rest ≡ piece ∷ pieces after → length after < length rest → IsTaken (behind rows cursor) (behind rows next) piece s t → next.row ≤ length rows → Reads circuit rows text after (count + 1) next t
reads-step circuit rows text rest after piece count cursor next s t known r cut shorter taken low =
    let p = taken.place in
    let v = taken.value in
    let back = behind rows next in
    let whole : places rows ≡ (r.done ++ taken.skipped) ++ p ∷ back = r.is ∙ ap (λ ps. r.done ++ ps) taken.is ∙ sym (append_assoc r.done taken.skipped (p ∷ back)) in
    let zero = zero-behind s taken.skipped (p ∷ back) (subst (AreZero s) taken.is r.zero) in
    let added = step-added circuit rows known r.done taken.skipped back p v whole s r.typed zero taken.some taken.fits ∙ ap (λ l. place_lines s (places rows) ++ l ∷ []) (sym taken.reads) in
    subst (Reads circuit rows text after (count + 1) next) (sym taken.state) (record {
      done = (r.done ++ taken.skipped) ++ p ∷ [];
      is = whole ∙ sym (append_assoc (r.done ++ taken.skipped) (p ∷ []) back);
      tight = step-tight circuit rows known r.done taken.skipped back p v whole s r.typed zero taken.some taken.fits;
      zero = step-zero circuit rows known r.done taken.skipped back p v whole s r.typed zero taken.some taken.fits;
      typed = step-typed circuit rows known r.done taken.skipped back p v whole s r.typed zero taken.some taken.fits;
      lines =
          r.lines ∙ ap (λ ls. place_lines s (places rows) ++ ls) cut
          ∙ sym (append_assoc (place_lines s (places rows)) (piece ∷ []) (pieces after))
          ∙ ap (λ ls. ls ++ pieces after) (sym added);
      counted = omega (arith, r.counted, ap length added, length-append (place_lines s (places rows)) (piece ∷ []));
      within = low;
      few = omega (arith, r.few, shorter);
    })

-- ---- the ends

pub reads-all : (circuit : FlatCircuit) (rows : List Row) (text rest : List ℕ) (count : ℕ) (cursor : Cursor) (state : State) → Reads circuit rows text rest count cursor state → length rest ≡ 0 → pieces text ≡ value_lines state rows
reads-all circuit rows text rest count cursor state r none =
    r.lines ∙ ap (λ l. place_lines state (places rows) ++ pieces l) (nil_from_length rest none)
    ∙ append-nil (place_lines state (places rows)) ∙ sym (lines-of-rows state rows)

module _ (circuit : FlatCircuit) (rows : List Row) (text rest : List ℕ) (count : ℕ) (cursor : Cursor) (state : State) (known : AreKnown circuit rows) (r : Reads circuit rows text rest count cursor state)
    (piece : List ℕ) (more : List (List ℕ)) (cut : pieces rest ≡ piece ∷ more) where
  whole : pieces text ≡ place_lines state (places rows) ++ piece ∷ more
  whole = r.lines ∙ ap (λ ls. place_lines state (places rows) ++ ls) cut

  goes-on : count < length (pieces text)
  goes-on = omega (arith, r.counted, ap length whole, length-append (place_lines state (places rows)) (piece ∷ more))

  taken : take count (pieces text) ≡ place_lines state (places rows)
  taken = ap (take count) whole ∙ take_at (place_lines state (places rows)) (piece ∷ more) count (sym r.counted)

  here : get_or (pieces text) count [] ≡ piece
  here = ap (λ (ls : List (List ℕ)). get_or ls count []) whole ∙ get_or_at (place_lines state (places rows)) piece more [] count (sym r.counted)

  -- the lines that were taken are those of the places before the cursor
  own : place_lines state (places rows) ≡ texts (items state r.done)
  own =
      ap (place_lines state) r.is ∙ lines-append state r.done (behind rows cursor)
      ∙ ap (λ ls. place_lines state r.done ++ ls) (lines-zero state (behind rows cursor) r.zero)
      ∙ append-nil (place_lines state r.done) ∙ lines-texts state r.done

  -- the lines of another state
  others : (other : State) → value_lines other rows ≡ texts (items other r.done ++ items other (behind rows cursor))
  others other = lines-of-rows other rows ∙ ap (place_lines other) r.is ∙ lines-texts other (r.done ++ behind rows cursor) ∙ ap texts (items-append other r.done (behind rows cursor))

  none-goes : IsLineOfNone piece (behind rows cursor) → (other : State) → IsState circuit other → suc count ≤ length (value_lines other rows) → take (suc count) (pieces text) ≡ take (suc count) (value_lines other rows) → ⊥
  none-goes none other typed enough same =
      let k = count in
      let ls = value_lines other rows in
      let size : count ≡ length (texts (items state r.done)) = r.counted ∙ ap length own in
      let fit = subst (AreFit other) r.is (fit-places circuit other typed rows known.each) in
      let apart = all-apart (r.done ++ behind rows cursor) (subst AllTwo r.is (places-two circuit rows known.each known.differ)) in
      let front : take count ls ≡ texts (items state r.done) = sym (take-take count (suc count) ls (omega arith)) ∙ ap (take count) (sym same) ∙ take-take count (suc count) (pieces text) (omega arith) ∙ taken ∙ own in
      let longer : length (texts (items state r.done)) < length (texts (items other r.done ++ items other (behind rows cursor))) = omega (arith, enough, size, ap length (others other)) in
      let begins : take (length (texts (items state r.done))) (texts (items other r.done ++ items other (behind rows cursor))) ≡ texts (items state r.done) = ap₂ (λ n l. take n l) (sym size) (sym (others other)) ∙ front in
      let line = one-more r.done (behind rows cursor) (items state r.done) (items other r.done) (items other (behind rows cursor)) (are-items state r.done (fit-front state r.done (behind rows cursor) (subst (AreFit state) r.is (fit-places circuit state r.typed rows known.each)))) (are-items other r.done (fit-front other r.done (behind rows cursor) fit)) (are-items other (behind rows cursor) (fit-behind other r.done (behind rows cursor) fit)) apart r.tight longer begins in
      let is : get_or (texts (items other r.done ++ items other (behind rows cursor))) (length (texts (items state r.done))) [] ≡ piece =
      ap₂ (λ n (l : List (List ℕ)). get_or l n []) (sym size) (sym (others other)) ∙ sym (get_or-take (suc count) ls count [] (omega arith))
      ∙ ap (λ (l : List (List ℕ)). get_or l count []) (sym same) ∙ get_or-take (suc count) (pieces text) count [] (omega arith) ∙ here in
      none-has (behind rows cursor) piece none (subst (HasLine (behind rows cursor)) is line)

  pub reads-stop : IsLineOfNone piece (behind rows cursor) → Ends circuit rows text state (Some count)
  reads-stop none = (goes-on, taken ∙ sym (lines-of-rows state rows), none-goes none)
