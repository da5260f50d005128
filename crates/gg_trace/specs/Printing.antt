-- The text of an output trace.
-- Source: this program's own form; docs/FORMATS.md describes it.
use Rattle.std.specs.Prelude.{ℕ, zero, suc, ◌+◌, ◌/◌, ◌%◌, ◌^◌, List, [], ◌∷◌, ◌++◌, codes, decimal}
use Rattle.std.specs.List.{flat_map}
use Rattle.std.specs.Char.{digit_char}
use Rattle.gg_flat.specs.declared.ports.Port.{Port}
use Rattle.gg_trace.specs.Table.{row_of}

-- the lowest hexadecimal digits of a value, this many, in lower case, the highest digit first
abbrev pub hex_digits : ℕ → ℕ → List ℕ
hex_digits zero value = []
hex_digits (suc k) value = digit_char (value / 16 ^ k % 16) ∷ hex_digits k value

-- the number of hexadecimal digits of a value with this many bits: a quarter, rounded up
abbrev pub digit_count : ℕ → ℕ
digit_count width = (width + 3) / 4

-- the header: `cycle`, the names with a space before each, and a line feed
abbrev pub header_line : List Port → List ℕ
header_line ports = codes "cycle" ++ flat_map (λ p. 32 ∷ p.name) ports ++ 10 ∷ []

-- the values of a row, with a space before each
abbrev pub values_text : List Port → List ℕ → List ℕ
values_text [] values = []
values_text (p ∷ ports) [] = []
values_text (p ∷ ports) (v ∷ values) = (32 ∷ hex_digits (digit_count p.ty.width) v) ++ values_text ports values

-- a row: the cycle in decimal, the values in port order, and a line feed
abbrev pub row_line : List Port → ℕ → List ℕ → List ℕ
row_line ports cycle values = decimal cycle ++ values_text ports values ++ 10 ∷ []

-- The text of a trace that begins with a cycle: the header, then a row for each of n cycles, starting at that cycle.
abbrev pub text_from : List Port → List (List ℕ) → (begin n : ℕ) → List ℕ
text_from ports columns begin zero = header_line ports
text_from ports columns begin (suc n) = text_from ports columns begin n ++ row_line ports (begin + n) (row_of columns (begin + n))

-- The text of a trace: the header, then a row for each of the first n cycles.
abbrev pub trace_text : List Port → List (List ℕ) → ℕ → List ℕ
trace_text ports columns n = text_from ports columns 0 n
