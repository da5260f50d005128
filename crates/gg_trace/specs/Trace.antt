-- The text of an input trace: its columns, or its first fault.
-- Source: this program's own form; docs/FORMATS.md describes it.
use Rattle.std.specs.Prelude.{◌≡◌, ◌≢◌, ℕ, ◌<◌, ◌≤◌, ◌^◌, List, [], length, map, drop, decimal, slice_index, slice_index_or}
use Rattle.gg_bits.specs.Limits.{cycle_limit}
use Rattle.gg_flat.specs.declared.ports.Port.{Port}
use Rattle.gg_trace.specs.declared.faults.TraceFault.{TraceFault}
use Rattle.gg_trace.specs.declared.faults.TraceFault.TheVariants.{Heading, RowNumber, NotHexadecimal, TooWide, FieldCount, TooManyRows, NoMemory}
use Rattle.gg_trace.specs.Fields.{fields, text_lines}
use Rattle.gg_trace.specs.Cells.{IsHexadecimal, hexadecimal, IsCell}
use Rattle.gg_trace.specs.Ports.{IsNamed, width_at}
use Rattle.gg_trace.specs.Header.{field, IsHeader, HasHeaderFault}

-- for each line of the text its fields
abbrev pub line_fields : List ℕ → List (List (List ℕ))
line_fields bytes = map fields (text_lines bytes)

-- the fields of the first line; none if there is no line
abbrev pub header_of : List ℕ → List (List ℕ)
header_of bytes = slice_index_or (line_fields bytes) 0 []

-- the fields of each further line: row r is line r + 1
abbrev pub rows_of : List ℕ → List (List (List ℕ))
rows_of bytes = drop 1 (line_fields bytes)

-- the fields of row r; none past the end
abbrev pub row_at : List ℕ → ℕ → List (List ℕ)
row_at bytes r = slice_index_or (rows_of bytes) r []

-- field f of a row is a value of the port that field f of the header names
pub record IsValueField (ports : List Port) (header row : List (List ℕ)) (f : ℕ) : Type 0 where
  pub value : (i : ℕ) → IsNamed ports (field header f) i → IsCell (width_at ports i) (field row f)

-- These are the fields of row r: the row's number, and a value for each port that the header names.
pub record IsRow (ports : List Port) (header : List (List ℕ)) (r : ℕ) (row : List (List ℕ)) : Type 0 where
  pub limit : r < cycle_limit
  pub count : length row ≡ length header
  pub number : field row 0 ≡ decimal r
  pub values : (f : ℕ) → 0 < f → f < length header → IsValueField ports header row f

-- The text has a header and n rows, and these columns: in row r the value of port i is the number written in the field below the port's
-- name.
pub record Columns (ports : List Port) (bytes : List ℕ) (n : ℕ) (columns : List (List ℕ)) : Type 0 where
  pub header : IsHeader ports (header_of bytes)
  pub count : length (rows_of bytes) ≡ n
  pub rows : (r : ℕ) → r < n → IsRow ports (header_of bytes) r (row_at bytes r)
  pub width : length columns ≡ length ports
  pub height : (i : ℕ) → i < length ports → length (slice_index_or columns i []) ≡ n
  pub values : (r f i : ℕ) → r < n → 0 < f → f < length (header_of bytes) → IsNamed ports (field (header_of bytes) f) i
      → slice_index (slice_index_or columns i []) r ≡ hexadecimal (field (row_at bytes r) f)

-- row r has a field f below a name of the header
pub record HasValueAt (bytes : List ℕ) (r f : ℕ) : Type 0 where
  pub row : r < length (rows_of bytes)
  pub behind : 0 < f
  pub within : f < length (header_of bytes)

-- field f of row r is hexadecimal, and its number is too great for its port's width
pub record IsTooWide (ports : List Port) (bytes : List ℕ) (r f : ℕ) : Type 0 where
  pub port : ℕ
  pub named : IsNamed ports (field (header_of bytes) f) port
  pub digits : IsHexadecimal (field (row_at bytes r) f)
  pub wide : 2 ^ width_at ports port ≤ hexadecimal (field (row_at bytes r) f)

-- The text has this fault.
abbrev pub HasFault : List Port → List ℕ → TraceFault → Type 0
HasFault ports bytes (Heading f) = HasHeaderFault ports (header_of bytes) f
HasFault ports bytes (RowNumber r) = (r < length (rows_of bytes)) × (field (row_at bytes r) 0 ≢ decimal r)
HasFault ports bytes (NotHexadecimal r f) = HasValueAt bytes r f × ¬ IsHexadecimal (field (row_at bytes r) f)
HasFault ports bytes (TooWide r f) = HasValueAt bytes r f × IsTooWide ports bytes r f
HasFault ports bytes (FieldCount r c) = (r < length (rows_of bytes)) × (length (row_at bytes r) ≡ c) × (c ≢ length (header_of bytes))
HasFault ports bytes (TooManyRows r) = (r < length (rows_of bytes)) × (r ≡ cycle_limit)
HasFault ports bytes NoMemory = ⊥

-- the header and each row before r are right
pub record ReachesRow (ports : List Port) (bytes : List ℕ) (r : ℕ) : Type 0 where
  pub header : IsHeader ports (header_of bytes)
  pub before : (q : ℕ) → q < r → IsRow ports (header_of bytes) q (row_at bytes q)

-- `ReachesRow`, and row r is below the limit
pub record ReachesCount (ports : List Port) (bytes : List ℕ) (r : ℕ) : Type 0 where
  pub row : ReachesRow ports bytes r
  pub limit : r < cycle_limit

-- `ReachesCount`, and row r has as many fields as the header
pub record ReachesNumber (ports : List Port) (bytes : List ℕ) (r : ℕ) : Type 0 where
  pub limit : ReachesCount ports bytes r
  pub count : length (row_at bytes r) ≡ length (header_of bytes)

-- `ReachesNumber`, and row r begins with its number, and each value before field f is right
pub record ReachesValue (ports : List Port) (bytes : List ℕ) (r f : ℕ) : Type 0 where
  pub count : ReachesNumber ports bytes r
  pub number : field (row_at bytes r) 0 ≡ decimal r
  pub before : (g : ℕ) → 0 < g → g < f → IsValueField ports (header_of bytes) (row_at bytes r) g

-- Nothing that comes before this fault is faulty. The header comes before all, then the rows come in order. In a row
-- the limit comes first, then the count of fields, the row's number, and the values from left to right. In a value the
-- digits come before the width.
abbrev pub IsReached : List Port → List ℕ → TraceFault → Type 0
IsReached ports bytes (Heading f) = Unit {0}
IsReached ports bytes (TooManyRows r) = ReachesRow ports bytes r
IsReached ports bytes (FieldCount r c) = ReachesCount ports bytes r
IsReached ports bytes (RowNumber r) = ReachesNumber ports bytes r
IsReached ports bytes (NotHexadecimal r f) = ReachesValue ports bytes r f
IsReached ports bytes (TooWide r f) = ReachesValue ports bytes r f
IsReached ports bytes NoMemory = ⊥

-- the text has this fault, and nothing before it is faulty
abbrev pub IsFirstFault : List Port → List ℕ → TraceFault → Type 0
IsFirstFault ports bytes fault = IsReached ports bytes fault × HasFault ports bytes fault

-- the first fault, or `NoMemory`
abbrev pub IfFirstFault : List Port → List ℕ → TraceFault → Type 0
IfFirstFault ports bytes NoMemory = Unit {0}
IfFirstFault ports bytes (Heading f) = IsFirstFault ports bytes (Heading f)
IfFirstFault ports bytes (RowNumber r) = IsFirstFault ports bytes (RowNumber r)
IfFirstFault ports bytes (NotHexadecimal r f) = IsFirstFault ports bytes (NotHexadecimal r f)
IfFirstFault ports bytes (TooWide r f) = IsFirstFault ports bytes (TooWide r f)
IfFirstFault ports bytes (FieldCount r c) = IsFirstFault ports bytes (FieldCount r c)
IfFirstFault ports bytes (TooManyRows r) = IsFirstFault ports bytes (TooManyRows r)

-- each value fits its port's width
pub record HaveWidths (ports : List Port) (n : ℕ) (columns : List (List ℕ)) : Type 0 where
  pub fits : (i r : ℕ) → i < length ports → r < n → slice_index (slice_index_or columns i []) r < 2 ^ width_at ports i
