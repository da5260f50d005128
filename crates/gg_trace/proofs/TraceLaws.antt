-- The rows of a trace that were read so far.
use Rattle.std.proofs.Common.{◌≡◌, ℕ, ◌+◌, ◌*◌, ◌^◌, ◌<◌, ◌≤◌, zero, suc, List, [], ◌∷◌, ◌++◌, map, length, get_or, take, drop, ◌⊎◌, inl, inr, sym, ap, ◌∙◌, subst, arith, add-one, length-drop, length-append}
use Rattle.std.proofs.lemmas.List.{get_or-drop, get_or-take, take_all, drop_at, take-append-le, drop-append-le}
use Rattle.std.proofs.lemmas.Bool.{cases_eq}
use Rattle.gg_bits.specs.Limits.{cycle_limit}
use Rattle.gg_flat.specs.declared.ports.Port.{Port}
use Rattle.gg_trace.specs.declared.faults.TraceFault.{TraceFault}
use Rattle.gg_trace.specs.declared.faults.TraceFault.TheVariants.{Heading, RowNumber, NotHexadecimal, TooWide, FieldCount, TooManyRows, NoMemory}
use Rattle.gg_trace.specs.Cells.{IsHexadecimal, hexadecimal, IsCell}
use Rattle.gg_trace.specs.Fields.{fields}
use Rattle.gg_trace.specs.Ports.{IsNamed, HasDistinctNames, width_at}
use Rattle.gg_trace.specs.Header.{field}
use Rattle.gg_trace.specs.inside.Places.{IsHeading, AreCells, PassesCycle, ReadsRow, HasRowFault}
use Rattle.gg_trace.specs.inside.Table.{table_of}
use Rattle.gg_trace.specs.Trace.{header_of, rows_of, row_at, IsValueField, IsRow, Columns, HasValueAt, ReachesRow, ReachesValue, IfFirstFault}
use Rattle.gg_trace.proofs.ListLaws.{next_item}
use Rattle.gg_trace.proofs.HeaderLaws.{one_port}
use Rattle.gg_trace.proofs.TableLaws.{length-columns, column_at, length-column, value_at}

-- cell g of a row is field g + 1
pub cell_is : (line : List (List ℕ)) (g : ℕ) → field (drop 1 line) g ≡ field line (g + 1)
cell_is line g =
    let e : 1 + g ≡ g + 1 = omega arith in
    get_or-drop 1 line g [] ∙ ap (field line) e

-- a cell is a value of the port that its header field names
value_field : (ports : List Port) (header line : List (List ℕ)) (places : List ℕ) (g : ℕ) → IsHeading ports header places → HasDistinctNames ports → g < length places
    → IsCell (width_at ports (get_or places g 0)) (field (drop 1 line) g) → IsValueField ports header line (g + 1)
value_field ports header line places g heading distinct within cell = record { value = value }
  where
    value : (i : ℕ) → IsNamed ports (field header (g + 1)) i → IsCell (width_at ports i) (field line (g + 1))
    value i named =
        let same : get_or places g 0 ≡ i = one_port ports distinct (field header (g + 1)) _ i (heading.named g within) named in
        subst (λ text. IsCell (width_at ports i) text) (cell_is line g) (subst (λ p. IsCell (width_at ports p) (field (drop 1 line) g)) same cell)

values_before : (ports : List Port) (header line : List (List ℕ)) (places : List ℕ) (n : ℕ) → IsHeading ports header places → HasDistinctNames ports → n ≤ length places
    → AreCells ports places (drop 1 line) n → (f : ℕ) → 0 < f → f < n + 1 → IsValueField ports header line f
values_before ports header line places n heading distinct within cells zero some before = absurd (omega arith)
values_before ports header line places n heading distinct within cells (suc g) some before =
    subst (IsValueField ports header line) (add-one g)
    (value_field ports header line places g heading distinct (omega arith) (cells.each g (omega arith)))

-- a row that was read is a row under this header
is_row : (ports : List Port) (header line : List (List ℕ)) (places values : List ℕ) (r : ℕ) → IsHeading ports header places → HasDistinctNames ports
    → ReadsRow ports places r line values → IsRow ports header r line
is_row ports header line places values r heading distinct reads = record {
  limit = reads.passes.limit;
  count = reads.passes.count ∙ sym heading.count;
  number = reads.passes.is;
  values = λ f some within.
      values_before ports header line places (length places) heading distinct (omega arith) reads.cells f some (omega (arith, heading.count));
}

-- the first rows were read, and these lines are left; `cells` are the values of the rows, one row after another
pub record ReadsRows (ports : List Port) (bytes : List ℕ) (lines : List (List ℕ)) (places values cells : List ℕ) (rows : ℕ) : Type 0 where
  pub heading : IsHeading ports (header_of bytes) places
  pub left : drop rows (rows_of bytes) ≡ map fields lines
  pub reached : rows ≤ length (rows_of bytes)
  pub limit : rows ≤ cycle_limit
  pub size : length values ≡ length ports
  pub room : length cells ≡ rows * length ports
  pub each : (r : ℕ) → r < rows → ReadsRow ports places r (row_at bytes r) (take (length ports) (drop (r * length ports) cells))

reaches : {ports : List Port} {bytes : List ℕ} {lines : List (List ℕ)} {places values cells : List ℕ} {rows : ℕ} → ReadsRows ports bytes lines places values cells rows → HasDistinctNames ports → ReachesRow ports bytes rows
reaches {ports} {bytes} {lines} {places} reads distinct = record {
  header = reads.heading.is_header;
  before = λ q h. is_row ports (header_of bytes) (row_at bytes q) places _ q reads.heading distinct (reads.each q h);
}

-- the first line that is left is the next row of the text
next_row : {ports : List Port} {bytes text : List ℕ} {lines : List (List ℕ)} {places values cells : List ℕ} {rows : ℕ} → ReadsRows ports bytes (text ∷ lines) places values cells rows
    → (row_at bytes rows ≡ fields text) × (rows < length (rows_of bytes)) × (drop (rows + 1) (rows_of bytes) ≡ map fields lines)
next_row {ports} {bytes} {text} {lines} {places} {values} {cells} {rows} reads = next_item (rows_of bytes) (map fields lines) (fields text) [] rows reads.left

-- a new row leaves the values of the rows before as they are, and its own values follow
old_row : (width rows r : ℕ) (cells new : List ℕ) → length cells ≡ rows * width → r < rows → take width (drop (r * width) (cells ++ new)) ≡ take width (drop (r * width) cells)
old_row width rows r cells new size h =
    let ends : r * width + width ≤ length cells = grind arith in
    ap (take width) (drop-append-le (r * width) cells new (omega arith))
    ∙ take-append-le width (drop (r * width) cells) new (omega (arith, length-drop (r * width) cells))

new_row : (width rows : ℕ) (cells new : List ℕ) → length cells ≡ rows * width → length new ≡ width → take width (drop (rows * width) (cells ++ new)) ≡ new
new_row width rows cells new size wide = ap (take width) (drop_at cells new (rows * width) size) ∙ take_all width new (omega arith)

pub reads_row : (ports : List Port) (bytes text : List ℕ) (lines : List (List ℕ)) (places values cells new : List ℕ) (rows : ℕ) → ReadsRows ports bytes (text ∷ lines) places values cells rows
    → length new ≡ length ports → ReadsRow ports places rows (fields text) new → ReadsRows ports bytes lines places new (cells ++ new) (rows + 1)
reads_row ports bytes text lines places values cells new rows reads size row = record {
  heading = reads.heading;
  left = next.2;
  reached = omega (arith, next.1);
  limit = omega (arith, row.passes.limit);
  size = size;
  room = omega (arith, length-append cells new, reads.room, size);
  each = each;
}
  where
    next : (row_at bytes rows ≡ fields text) × (rows < length (rows_of bytes)) × (drop (rows + 1) (rows_of bytes) ≡ map fields lines)
    next = next_row reads

    each : (r : ℕ) → r < rows + 1 → ReadsRow ports places r (row_at bytes r) (take (length ports) (drop (r * length ports) (cells ++ new)))
    each r h = by_row (cases_eq r rows)
      where
        by_row : (r ≡ rows) ⊎ (r ≡ rows → ⊥) → ReadsRow ports places r (row_at bytes r) (take (length ports) (drop (r * length ports) (cells ++ new)))
        by_row (inl e) =
            subst (λ q. ReadsRow ports places q (row_at bytes q) (take (length ports) (drop (q * length ports) (cells ++ new)))) (sym e)
            (subst (ReadsRow ports places rows (row_at bytes rows)) (sym (new_row (length ports) rows cells new reads.room size))
            (subst (λ line. ReadsRow ports places rows line new) (sym next.0) row))
        by_row (inr ne) =
            let before : r < rows = omega arith in
            subst (ReadsRow ports places r (row_at bytes r)) (sym (old_row (length ports) rows r cells new reads.room before)) (reads.each r before)

-- if the header, the rows before, this row's number and its first n cells are good, nothing before its next cell is faulty
reaches_value : (ports : List Port) (bytes : List ℕ) (places : List ℕ) (rows n : ℕ) → IsHeading ports (header_of bytes) places → HasDistinctNames ports → ReachesRow ports bytes rows
    → PassesCycle places rows (row_at bytes rows) → n ≤ length places → AreCells ports places (drop 1 (row_at bytes rows)) n → ReachesValue ports bytes rows (n + 1)
reaches_value ports bytes places rows n heading distinct before passes within cells = record {
  count = record { limit = record { row = before; limit = passes.limit }; count = passes.count ∙ sym heading.count };
  number = passes.is;
  before = λ g some h. values_before ports (header_of bytes) (row_at bytes rows) places n heading distinct within cells g some h;
}

value_at_cell : (ports : List Port) (bytes : List ℕ) (places : List ℕ) (rows g : ℕ) → IsHeading ports (header_of bytes) places → rows < length (rows_of bytes) → g < length places → HasValueAt bytes rows (g + 1)
value_at_cell ports bytes places rows g heading row within = record { row = row; behind = omega arith; within = omega (arith, heading.count) }

-- if the header and the rows before are good, a fault of this row is the text's first
first_of_row : (ports : List Port) (bytes : List ℕ) (places : List ℕ) (rows : ℕ) (fault : TraceFault) → IsHeading ports (header_of bytes) places → HasDistinctNames ports → ReachesRow ports bytes rows
    → rows ≤ cycle_limit → rows < length (rows_of bytes) → HasRowFault ports places rows (row_at bytes rows) fault → IfFirstFault ports bytes fault
first_of_row ports bytes places rows (Heading f) heading distinct before limit row h = absurd h
first_of_row ports bytes places rows (RowNumber r) heading distinct before limit row h =
    subst (λ q. IfFirstFault ports bytes (RowNumber q)) (sym h.0)
    (record { limit = record { row = before; limit = h.1 }; count = h.2 ∙ sym heading.count }, (row, h.3))
first_of_row ports bytes places rows (NotHexadecimal r f) heading distinct before limit row h =
    let s = h.1.0 in
    subst (λ q. IfFirstFault ports bytes (NotHexadecimal q f)) (sym s.is_row)
    (subst (λ g. IfFirstFault ports bytes (NotHexadecimal rows g)) (sym s.is_field) (
      reaches_value ports bytes places rows s.at heading distinct before h.0 (omega (arith, s.within)) s.before,
      (
        value_at_cell ports bytes places rows s.at heading row s.within,
        λ digits. h.1.1 (subst IsHexadecimal (sym (cell_is (row_at bytes rows) s.at)) digits),
      ),
    ))
first_of_row ports bytes places rows (TooWide r f) heading distinct before limit row h =
    let s = h.1.0 in
    let at = cell_is (row_at bytes rows) s.at in
    subst (λ q. IfFirstFault ports bytes (TooWide q f)) (sym s.is_row)
    (subst (λ g. IfFirstFault ports bytes (TooWide rows g)) (sym s.is_field) (
      reaches_value ports bytes places rows s.at heading distinct before h.0 (omega (arith, s.within)) s.before,
      (
        value_at_cell ports bytes places rows s.at heading row s.within,
        record {
          port = get_or places s.at 0;
          named = heading.named s.at s.within;
          digits = subst IsHexadecimal at h.1.1.0;
          wide = subst (λ text. 2 ^ width_at ports (get_or places s.at 0) ≤ hexadecimal text) at h.1.1.1;
        },
      ),
    ))
first_of_row ports bytes places rows (FieldCount r c) heading distinct before limit row h =
    subst (λ q. IfFirstFault ports bytes (FieldCount q c)) (sym h.0)
    (record { row = before; limit = h.1 }, (row, sym h.2, λ e. h.3 (e ∙ heading.count)))
first_of_row ports bytes places rows (TooManyRows r) heading distinct before limit row h =
    subst (λ q. IfFirstFault ports bytes (TooManyRows q)) (sym h.0) (before, (row, omega (arith, h.1)))
first_of_row ports bytes places rows NoMemory heading distinct before limit row h = absurd h

pub row_fault : (ports : List Port) (bytes text : List ℕ) (lines : List (List ℕ)) (places values cells : List ℕ) (rows : ℕ) (fault : TraceFault) → ReadsRows ports bytes (text ∷ lines) places values cells rows
    → HasDistinctNames ports → HasRowFault ports places rows (fields text) fault → IfFirstFault ports bytes fault
row_fault ports bytes text lines places values cells rows fault reads distinct h =
    let next = next_row reads in
    first_of_row ports bytes places rows fault reads.heading distinct (reaches reads distinct) reads.limit next.1
    (subst (λ line. HasRowFault ports places rows line fault) (sym next.0) h)

-- the value of a port in a row that was read is the number in the port's field
row_value : (ports : List Port) (header line : List (List ℕ)) (places cells : List ℕ) (r f i : ℕ) → IsHeading ports header places → HasDistinctNames ports
    → ReadsRow ports places r line (take (length ports) (drop (r * length ports) cells)) → 0 < f → f < length header → IsNamed ports (field header f) i
    → get_or cells (r * length ports + i) 0 ≡ hexadecimal (field line f)
row_value ports header line places cells r zero i heading distinct reads some within named = absurd (omega arith)
row_value ports header line places cells r (suc g) i heading distinct reads some within named =
    let inside : g < length places = omega (arith, heading.count) in
    let e = add-one g in
    let same : get_or places g 0 ≡ i = one_port ports distinct (field header (g + 1)) _ i (heading.named g inside) (subst (λ n. IsNamed ports (field header n) i) (sym e) named) in
    let gives = subst (λ p. get_or (take (length ports) (drop (r * length ports) cells)) p 0 ≡ hexadecimal (field (drop 1 line) g)) same (reads.gives.each g inside) in
    sym (get_or-drop (r * length ports) cells i 0) ∙ sym (get_or-take (length ports) (drop (r * length ports) cells) i 0 named.within)
    ∙ gives ∙ ap hexadecimal (cell_is line g ∙ ap (field line) e)

-- if no line is left, all rows were read, and the columns are those of the text
pub reads_all_rows : (ports : List Port) (bytes places values cells : List ℕ) (rows : ℕ) → ReadsRows ports bytes [] places values cells rows → HasDistinctNames ports
    → Columns ports bytes rows (table_of rows (length ports) cells).columns
reads_all_rows ports bytes places values cells rows reads distinct = record {
  header = reads.heading.is_header;
  count = ends;
  rows = (reaches reads distinct).before;
  width = length-columns rows (length ports) cells;
  height = λ i h. ap length (column_at rows (length ports) cells i h) ∙ length-column rows (length ports) cells i;
  values = λ r f i h some within named.
      value_at rows (length ports) cells i r named.within h
      ∙ row_value ports (header_of bytes) (row_at bytes r) places cells r f i reads.heading distinct (reads.each r h) some within named;
}
  where
    ends : length (rows_of bytes) ≡ rows
    ends = omega (arith, length-drop rows (rows_of bytes), ap length reads.left, reads.reached)
