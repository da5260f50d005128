-- The columns of a table whose rows are in a list, one after another.
use Rattle.std.proofs.Common.{◌≡◌, ℕ, ◌+◌, ◌*◌, ◌<◌, ◌≤◌, List, [], ◌∷◌, ◌++◌, map, length, get_or, take, drop, sym, ap, ◌∙◌, arith, length-drop}
use Rattle.std.specs.List.{range_with_len}
use Rattle.std.proofs.lemmas.List.{get_or-map, get_or-take, get_or-drop, get_or_default, same_lists, length-map, length-take-le}
use Rattle.std.proofs.lemmas.List.FromFn.{get_or-map-range_with_len, length-map-range_with_len, map-range_with_len_more, take-map-range_with_len}
use Rattle.std.proofs.lemmas.Nat.{mul-add-lt}
use Rattle.gg_trace.specs.inside.Table.{table_of}
use Rattle.gg_trace.specs.Table.{row_of}

-- what column i of a table holds
abbrev pub column_in : ℕ → ℕ → List ℕ → ℕ → List ℕ
column_in rows width cells i = map (λ r. get_or cells (r * width + i) 0) (range_with_len 0 rows)

pub length-columns : (rows width : ℕ) (cells : List ℕ) → length (table_of rows width cells).columns ≡ width
length-columns rows width cells = length-map-range_with_len (column_in rows width cells) 0 width

pub column_at : (rows width : ℕ) (cells : List ℕ) (i : ℕ) → i < width → get_or (table_of rows width cells).columns i [] ≡ column_in rows width cells i
column_at rows width cells i h = get_or-map-range_with_len (column_in rows width cells) 0 width i i [] h (omega arith)

pub length-column : (rows width : ℕ) (cells : List ℕ) (i : ℕ) → length (column_in rows width cells i) ≡ rows
length-column rows width cells i = length-map-range_with_len (λ r. get_or cells (r * width + i) 0) 0 rows

pub value_at : (rows width : ℕ) (cells : List ℕ) (i r : ℕ) → i < width → r < rows → get_or (get_or (table_of rows width cells).columns i []) r 0 ≡ get_or cells (r * width + i) 0
value_at rows width cells i r h k =
    ap (λ column. get_or column r 0) (column_at rows width cells i h)
    ∙ get_or-map-range_with_len (λ q. get_or cells (q * width + i) 0) 0 rows r r 0 k (omega arith)

-- row r of a table is the part of the list that begins at r * width
pub row_in : (rows width : ℕ) (cells : List ℕ) (r : ℕ) → length cells ≡ rows * width → r < rows → take width (drop (r * width) cells) ≡ row_of (table_of rows width cells).columns r
row_in rows width cells r size h =
    same_lists _ _ (wide ∙ sym (length-map columns (λ column. get_or column r 0) ∙ length-columns rows width cells)) each
  where
    columns : List (List ℕ)
    columns = (table_of rows width cells).columns

    wide : length (take width (drop (r * width) cells)) ≡ width
    wide = length-take-le width (drop (r * width) cells) (omega (arith, length-drop (r * width) cells, ends))
      where
        ends : r * width + width ≤ length cells
        ends = grind arith

    each : (k d : ℕ) → k < length (take width (drop (r * width) cells)) → get_or (take width (drop (r * width) cells)) k d ≡ get_or (row_of columns r) k d
    each k d before =
        let inside : k < width = omega (arith, wide) in
        let within : r * width + k < length cells = omega (arith, mul-add-lt r width k rows h inside, size) in
        get_or-take width (drop (r * width) cells) k d inside
        ∙ get_or-drop (r * width) cells k d
        ∙ get_or_default cells (r * width + k) d 0 within
        ∙ sym (value_at rows width cells k r inside h)
        ∙ sym (get_or-map (λ column. get_or column r 0) columns k [] d (omega (arith, length-columns rows width cells)))

-- a column with one more row
pub column_more : (rows width : ℕ) (cells : List ℕ) (i : ℕ) → column_in (rows + 1) width cells i ≡ column_in rows width cells i ++ get_or cells (rows * width + i) 0 ∷ []
column_more rows width cells i = map-range_with_len_more (λ r. get_or cells (r * width + i) 0) 0 rows rows (omega arith)

-- the table of the first rows has the front part of each column
pub first-rows : (rows width : ℕ) (cells : List ℕ) (n : ℕ) → n ≤ rows
    → table_of n width (take (n * width) cells) ≡ record { rows = n; columns = map (take n) (table_of rows width cells).columns }
first-rows rows width cells n le = ap (λ (columns : List (List ℕ)). record { rows = n; columns = columns }) same
  where
    front : List ℕ
    front = take (n * width) cells

    column : (i : ℕ) → i < width → column_in n width front i ≡ take n (column_in rows width cells i)
    column i inside =
        same_lists _ _ (length-column n width front i ∙ sym (length-column n width cells i)) (λ r d before.
        let lt : r < n = omega (arith, before, length-column n width front i) in
        get_or-map-range_with_len (λ q. get_or front (q * width + i) 0) 0 n r r d lt (omega arith)
        ∙ get_or-take (n * width) cells (r * width + i) 0 (omega (arith, mul-add-lt r width i n lt inside))
        ∙ sym (get_or-map-range_with_len (λ q. get_or cells (q * width + i) 0) 0 n r r d lt (omega arith)))
        ∙ sym (take-map-range_with_len (λ r. get_or cells (r * width + i) 0) 0 rows n le)

    all : List (List ℕ)
    all = (table_of rows width cells).columns

    same : (table_of n width front).columns ≡ map (take n) all
    same =
        same_lists _ _ (length-columns n width front ∙ sym (length-map all (take n) ∙ length-columns rows width cells)) (λ i d before.
        let lt : i < width = omega (arith, before, length-columns n width front) in
        get_or-map-range_with_len (column_in n width front) 0 width i i d lt (omega arith)
        ∙ column i lt
        ∙ ap (take n) (sym (column_at rows width cells i lt))
        ∙ sym (get_or-map (take n) all i [] d (omega (arith, lt, length-columns rows width cells))))
