-- The words of a line of a steps file.
-- Source: this program's own form: there is one blank, a space or a tab, between words.
use Rattle.std.specs.Prelude.{ℕ, List}
use Rattle.std.specs.List.{slice_split}
use Rattle.gg_trace.specs.Fields.{is_blank}

-- The words of a line: the parts before, between and after its blanks. Therefore there is an empty word between two
-- blanks in a row, and next to a blank at an end of the line.
unfoldable pub words : List ℕ → List (List ℕ)
words line = slice_split is_blank line
