-- What is kept from a header: the port that each field after the first names.
use Rattle.std.specs.Prelude.{◌≡◌, ◌≢◌, ℕ, ◌+◌, ◌<◌, ◌≤◌, decimal, drop, length, slice_index, slice_index_or, slice_set, Bool, true, false, Option, None, Some, MatchOption, List}
use Rattle.std.specs.HashMap.{HashMap, get_by}
use Rattle.std.specs.Str.{bytes_eq}
use Rattle.std.specs.declared.hash.FoldHasher.{FoldHasher}
use Rattle.std.specs.declared.hash.BuildHasherDefault.{BuildHasherDefault}
use Rattle.gg_bits.specs.Limits.{cycle_limit}
use denote.Ref.{Bor}
use Rattle.gg_flat.specs.declared.ports.Port.{Port}
use Rattle.gg_trace.specs.declared.faults.TraceFault.{TraceFault}
use Rattle.gg_trace.specs.declared.faults.TraceFault.TheVariants.{Heading, RowNumber, NotHexadecimal, TooWide, FieldCount, TooManyRows, NoMemory}
use Rattle.gg_trace.specs.declared.cells.CellFault.TheVariants as cell
use Rattle.gg_trace.specs.Cells.{IsHexadecimal, hexadecimal, IsCell}
use Rattle.gg_trace.specs.inside.Cells.{HasCellFault}
use Rattle.gg_trace.specs.Ports.{IsNamed, name_at, width_at}
use Rattle.gg_trace.specs.Header.{field, IsHeader, HasHeaderFault}

-- i is one of the places
pub record IsPlace (places : List ℕ) (i : ℕ) : Type 0 where
  pub at : ℕ
  pub within : at < length places
  pub is : slice_index places at ≡ i

-- The header is one for these ports, and its field g + 1 names the port at place g of the list.
pub record IsHeading (ports : List Port) (header : List (List ℕ)) (places : List ℕ) : Type 0 where
  pub is_header : IsHeader ports header
  pub count : length header ≡ length places + 1
  pub named : (g : ℕ) → g < length places → IsNamed ports (field header (g + 1)) (slice_index places g)
  pub distinct : (g h : ℕ) → g < h → h < length places → slice_index places g ≢ slice_index places h
  pub all : (i : ℕ) → i < length ports → IsPlace places i

-- the fault is the header's, or `NoMemory`
abbrev pub IfHeaderFault : List Port → List (List ℕ) → TraceFault → Type 0
IfHeaderFault ports header (Heading f) = HasHeaderFault ports header f
IfHeaderFault ports header (RowNumber r) = ⊥
IfHeaderFault ports header (NotHexadecimal r f) = ⊥
IfHeaderFault ports header (TooWide r f) = ⊥
IfHeaderFault ports header (FieldCount r c) = ⊥
IfHeaderFault ports header (TooManyRows r) = ⊥
IfHeaderFault ports header NoMemory = Unit {0}

-- a name was read: its port wasn't named before and is now, or there is no such port
abbrev pub TakesName : List Port → List ℕ → List Bool → List Bool → Option ℕ → Type 0
TakesName ports name old new None = (new ≡ old) × ((i : ℕ) → IsNamed ports name i → slice_index_or old i false ≡ true)
TakesName ports name old new (Some i) = IsNamed ports name i × (slice_index_or old i false ≡ false) × (new ≡ slice_set old i true)

-- the places are places of ports, and no two are the same
pub record ArePlaces (ports : List Port) (places : List ℕ) : Type 0 where
  pub within : (g : ℕ) → g < length places → slice_index places g < length ports
  pub distinct : (g h : ℕ) → g < h → h < length places → slice_index places g ≢ slice_index places h

-- each of the first n cells is a value of its port's width
pub record AreCells (ports : List Port) (places : List ℕ) (cells : List (List ℕ)) (n : ℕ) : Type 0 where
  pub each : (g : ℕ) → g < n → IsCell (width_at ports (slice_index places g)) (field cells g)

-- the first n cells are these values, each at its port's place
pub record AreValues (places : List ℕ) (cells : List (List ℕ)) (values : List ℕ) (n : ℕ) : Type 0 where
  pub each : (g : ℕ) → g < n → slice_index values (slice_index places g) ≡ hexadecimal (field cells g)

-- r and f name a cell of this row, and each cell before it is a value
pub record StopsAt (ports : List Port) (places : List ℕ) (cells : List (List ℕ)) (row r f : ℕ) : Type 0 where
  pub at : ℕ
  pub is_row : r ≡ row
  pub is_field : f ≡ at + 1
  pub within : at < length places
  pub before : AreCells ports places cells at

-- the fault is the fault of the first cell of the row that isn't a value
abbrev pub HasValuesFault : List Port → List ℕ → List (List ℕ) → ℕ → TraceFault → Type 0
HasValuesFault ports places cells row (Heading f) = ⊥
HasValuesFault ports places cells row (RowNumber r) = ⊥
HasValuesFault ports places cells row (NotHexadecimal r f) = (s : StopsAt ports places cells row r f) × ¬ IsHexadecimal (field cells s.at)
HasValuesFault ports places cells row (TooWide r f) = (s : StopsAt ports places cells row r f) × HasCellFault (width_at ports (slice_index places s.at)) (field cells s.at) cell.TooWide
HasValuesFault ports places cells row (FieldCount r c) = ⊥
HasValuesFault ports places cells row (TooManyRows r) = ⊥
HasValuesFault ports places cells row NoMemory = ⊥

-- the fault of one field of a row
abbrev pub HasValueFault : ℕ → List ℕ → ℕ → ℕ → TraceFault → Type 0
HasValueFault width text row at (Heading f) = ⊥
HasValueFault width text row at (RowNumber r) = ⊥
HasValueFault width text row at (NotHexadecimal r f) = (r ≡ row) × (f ≡ at) × ¬ IsHexadecimal text
HasValueFault width text row at (TooWide r f) = (r ≡ row) × (f ≡ at) × HasCellFault width text cell.TooWide
HasValueFault width text row at (FieldCount r c) = ⊥
HasValueFault width text row at (TooManyRows r) = ⊥
HasValueFault width text row at NoMemory = ⊥

-- the row is below the limit, has the header's count of fields, and begins with its number
pub record PassesCycle (places : List ℕ) (row : ℕ) (line : List (List ℕ)) : Type 0 where
  pub limit : row < cycle_limit
  pub count : length line ≡ length places + 1
  pub is : field line 0 ≡ decimal row

-- the row has these values
pub record ReadsRow (ports : List Port) (places : List ℕ) (row : ℕ) (line : List (List ℕ)) (values : List ℕ) : Type 0 where
  pub passes : PassesCycle places row line
  pub cells : AreCells ports places (drop 1 line) (length places)
  pub gives : AreValues places (drop 1 line) values (length places)

-- the fault is the first of this row
abbrev pub HasRowFault : List Port → List ℕ → ℕ → List (List ℕ) → TraceFault → Type 0
HasRowFault ports places row line (Heading f) = ⊥
HasRowFault ports places row line (RowNumber r) = (r ≡ row) × (row < cycle_limit) × (length line ≡ length places + 1) × (field line 0 ≢ decimal row)
HasRowFault ports places row line (NotHexadecimal r f) = PassesCycle places row line × HasValuesFault ports places (drop 1 line) row (NotHexadecimal r f)
HasRowFault ports places row line (TooWide r f) = PassesCycle places row line × HasValuesFault ports places (drop 1 line) row (TooWide r f)
HasRowFault ports places row line (FieldCount r c) = (r ≡ row) × (row < cycle_limit) × (c ≡ length line) × (c ≢ length places + 1)
HasRowFault ports places row line (TooManyRows r) = (r ≡ row) × (cycle_limit ≤ row)
HasRowFault ports places row line NoMemory = ⊥

-- a table by names: a look-up of any bytes finds one of the first n ports that has this name, or none if no port has it
abbrev pub TellsPorts : List Port → ℕ → HashMap (Bor (List ℕ)) ℕ (BuildHasherDefault FoldHasher) → Type 0
TellsPorts ports n table = (name : List ℕ) → MatchOption (get_by (λ k. bytes_eq name k.now) table)
    ((i : ℕ) → i < n → name_at ports i ≢ name)
    (λ i. (i < n) × (name_at ports i ≡ name))
