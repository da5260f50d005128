-- More on Fields: what no promise of the program reaches.
-- Source: this program's own form; docs/FORMATS.md describes it.
use Rattle.std.specs.Prelude.{ℕ, List, [], Option, None, Some}
use Rattle.gg_trace.specs.Fields.{fields_of_text}

-- the fields of what is left of a line; none if nothing is left
abbrev pub fields_left : Option (List ℕ) → List (List ℕ)
fields_left None = []
fields_left (Some text) = fields_of_text text
