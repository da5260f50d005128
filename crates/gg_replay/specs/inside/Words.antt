-- More on Words: definitions that no promise of the program reaches.
-- Source: this program's own form: there is one blank, a space or a tab, between words.
use Rattle.std.specs.Prelude.{ℕ, List, [], Option, Some, None}
use Rattle.gg_replay.specs.steps_file.Words.{words}

-- the words of the rest of a line; none if nothing is left
abbrev pub words_left : Option (List ℕ) → List (List ℕ)
words_left None = []
words_left (Some line) = words line
