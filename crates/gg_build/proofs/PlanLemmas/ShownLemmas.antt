-- The rows of a part: what they show of the whole circuit's rows, and that they are a run on the columns of the part's own ins.
use Rattle.std.proofs.Common.{◌≡◌, ℕ, suc, ◌<◌, List, [], ◌∷◌, length, map, refl, sym, ◌∙◌, ap, ap₂, subst, arith, Option}
use Rattle.std.proofs.lemmas.List.{length-map, get_or-map, ext_get_or}
use Rattle.std.proofs.lemmas.Grind.{same_number_lists}
use Rattle.gg_flat.specs.Line.{value_at}
use Rattle.gg_flat.specs.Circuit.{FlatCircuit}
use Rattle.gg_flat.specs.Run.{Start, column, row_at}
use Rattle.gg_flat.specs.State.{IsState}
use Rattle.gg_part.specs.Part.{IsPart}
use Rattle.gg_part.specs.inside.PartRun.{part_columns}
use Rattle.gg_part.specs.PartRun.{part_row, part_rows, part_start}
use Rattle.gg_part.proofs.RenameLemmas.{part_row-at}
use Rattle.gg_cut_plan.specs.Solves.{AreRows}
use Rattle.gg_cut_reference.proofs.ReferenceLemmas.{started-part}
use Rattle.gg_net.specs.Kept.{in_columns}
use Rattle.gg_net.proofs.StateLemmas.{column-at}

-- ---- rows

-- In the first n cycles, a signal has the value in the part's rows that its number in `globals` has in the circuit's rows.
pub record AreShown (globals : List ℕ) (n : ℕ) (rows own : List (List ℕ)) : Type 0 where
  pub at : (t s : ℕ) → t < n → s < length globals → value_at (row_at own t) s ≡ value_at (row_at rows t) (value_at globals s)

pub part-shown : (globals : List ℕ) (rows : List (List ℕ)) → AreShown globals (length rows) rows (part_rows globals rows)
part-shown globals rows =
    record { at = λ t s lt low. ap (λ (row : List ℕ). value_at row s) (get_or-map (part_row globals) rows t [] [] lt) ∙ part_row-at globals (row_at rows t) s low }

-- the rows of a part of a part
row-twice : (globals own row : List ℕ) → ((s : ℕ) → s < length own → value_at own s < length globals) → part_row (map (value_at globals) own) row ≡ part_row own (part_row globals row)
row-twice globals [] row below = refl
row-twice globals (s ∷ own) row below =
    ap₂ (λ value values. value ∷ values) (sym (part_row-at globals row s (below 0 (omega arith)))) (row-twice globals own row (λ k lt. below (suc k) (omega (arith, lt))))

-- the signals of a part of a part, by the numbers by which a machine sees them
pub seen-twice : (seen : ℕ → ℕ) (globals own : List ℕ) → ((s : ℕ) → s < length own → value_at own s < length globals) → map seen (map (value_at globals) own) ≡ map (value_at (map seen globals)) own
seen-twice seen globals [] below = refl
seen-twice seen globals (s ∷ own) below =
    ap₂ (λ number numbers. number ∷ numbers) (sym (get_or-map seen globals s 0 0 (below 0 (omega arith)))) (seen-twice seen globals own (λ k lt. below (suc k) (omega (arith, lt))))

pub rows-twice : (globals own : List ℕ) (rows : List (List ℕ)) → ((s : ℕ) → s < length own → value_at own s < length globals) → part_rows (map (value_at globals) own) rows ≡ part_rows own (part_rows globals rows)
rows-twice globals own [] below = refl
rows-twice globals own (row ∷ rows) below = ap₂ (λ (head : List ℕ) (rest : List (List ℕ)). head ∷ rest) (row-twice globals own row below) (rows-twice globals own rows below)

-- ---- columns

length-column : (rows : List (List ℕ)) (s : ℕ) → length (column rows s) ≡ length rows
length-column rows s = length-map rows (λ (row : List ℕ). value_at row s)

pub column-shown : (globals : List ℕ) (rows : List (List ℕ)) (s : ℕ) → s < length globals → column rows (value_at globals s) ≡ column (part_rows globals rows) s
column-shown globals rows s low =
    let high = length-column rows (value_at globals s) in
    same_number_lists (column rows (value_at globals s)) (column (part_rows globals rows) s) (high ∙ sym (length-column (part_rows globals rows) s ∙ length-map rows (part_row globals)))
    (λ t lt.
    column-at rows (value_at globals s) t
    ∙ sym (column-at (part_rows globals rows) s t ∙ (part-shown globals rows).at t s (omega (arith, lt, high)) low))

module _ (whole part : FlatCircuit) (globals held memories : List ℕ) (clocks : List (Option ℕ)) (is : IsPart whole part globals held memories clocks) where
  pub own-columns : (rows : List (List ℕ)) → part_columns globals part rows ≡ in_columns part (part_rows globals rows)
  own-columns rows =
      let given : ℕ → List ℕ = λ s. column rows (value_at globals s) in
      let own : ℕ → List ℕ = column (part_rows globals rows) in
      let count = length-map part.ins given in
      ext_get_or [] (map given part.ins) (map own part.ins) (count ∙ sym (length-map part.ins own))
      (λ i lt.
      let low : i < length part.ins = omega (arith, lt, count) in
      get_or-map given part.ins i 0 [] low ∙ column-shown globals rows (value_at part.ins i) (is.ins i low).0 ∙ sym (get_or-map own part.ins i 0 [] low))

  -- the rows of a part of a run are a run of the part, from its part of the start, on the columns of its own ins
  pub own-run : (start : Start) (columns : List (List ℕ)) (end : ℕ) (rows : List (List ℕ)) → IsState whole start.state → AreRows whole start columns end rows → AreRows part (part_start held memories clocks start) (in_columns part (part_rows globals rows)) end (part_rows globals rows)
  own-run start columns end rows typed run =
      subst (λ (given : List (List ℕ)). AreRows part (part_start held memories clocks start) given end (part_rows globals rows)) (own-columns rows) (started-part whole part globals held memories clocks is start columns end rows typed run)
