-- More on Cells: what no promise of the program reaches.
-- Source: this program's own form; docs/FORMATS.md describes it.
use Rattle.std.specs.Prelude.{◌≡◌, ℕ, ◌+◌, ◌*◌, ◌^◌, ◌<◌, ◌≤◌, List, Option, None, Some, SomeIff}
use Rattle.gg_trace.specs.declared.cells.CellFault.{CellFault}
use Rattle.gg_trace.specs.declared.cells.CellFault.TheVariants.{NotHexadecimal, TooWide}
use Rattle.gg_trace.specs.Cells.{IsHexadecimal, hexadecimal}

-- what is wrong with the field
abbrev pub HasCellFault : ℕ → List ℕ → CellFault → Type 0
HasCellFault width field NotHexadecimal = ¬ IsHexadecimal field
HasCellFault width field TooWide = IsHexadecimal field × (2 ^ width ≤ hexadecimal field)

-- the value with one more digit at its end; None if the value is None or the result doesn't fit 128 bits
abbrev pub AppendsDigit : Option ℕ → ℕ → Option ℕ → Type 0
AppendsDigit None digit new = new ≡ None
AppendsDigit (Some value) digit new = SomeIff new (value * 16 + digit < 2 ^ 128) (value * 16 + digit)
