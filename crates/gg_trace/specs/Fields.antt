-- The fields of one line of a trace.
-- Source: this program's own form; docs/FORMATS.md describes it.
use Rattle.std.specs.Prelude.{ℕ, Bool, ◌||◌, ◌==◌, List, [], ◌∷◌}
use Rattle.std.specs.List.{slice_split}
use Rattle.std.specs.Str.Lines.{lines}

-- a blank: a space or a tab
abbrev pub is_blank : ℕ → Bool
is_blank b = b == 32 || b == 9

-- The fields after the first, from the parts between single blanks. An empty part between two blanks is within a run of
-- blanks and isn't a field. An empty last part is the empty field after a last run.
abbrev pub later_fields : List (List ℕ) → List (List ℕ)
later_fields [] = []
later_fields (x ∷ []) = x ∷ []
later_fields ([] ∷ y ∷ more) = later_fields (y ∷ more)
later_fields ((b ∷ field) ∷ y ∷ more) = (b ∷ field) ∷ later_fields (y ∷ more)

-- the fields, from the parts between single blanks
abbrev pub fields_of_parts : List (List ℕ) → List (List ℕ)
fields_of_parts [] = []
fields_of_parts (x ∷ more) = x ∷ later_fields more

-- the fields of a text that has at least one field
unfoldable pub fields_of_text : List ℕ → List (List ℕ)
fields_of_text text = fields_of_parts (slice_split is_blank text)

-- The fields of a line, divided by runs of one or more blanks. A run at either end has an empty field next to it. An empty line has no
-- fields.
unfoldable pub fields : List ℕ → List (List ℕ)
fields [] = []
fields (b ∷ line) = fields_of_text (b ∷ line)

-- The lines of a text: each ends with LF or CR LF, and the last line end is optional (as with Rust's `str::lines`).
unfoldable pub text_lines : List ℕ → List (List ℕ)
text_lines text = lines text
