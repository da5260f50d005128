-- A step and its line as a relation. It allows only the step that `step_of` computes. Also the steps that have a line,
-- and a file with one more line.
-- Source: this program's own form of a steps file.
use Rattle.std.specs.Prelude.{◌≡◌, ℕ, ◌+◌, ◌≤◌, List, [], ◌∷◌, ◌++◌, length}
use Rattle.gg_trace.specs.Fields.{text_lines}

-- ---- one more line

-- The longer text has one more line than the text, at its end. At most two other bytes are added, for a line end that
-- the text lacks.
pub record IsLengthened (text line longer : List ℕ) : Type 0 where
  pub added : List ℕ
  pub whole : longer ≡ text ++ added
  pub few : length added ≤ length line + 2
  pub lines : text_lines longer ≡ text_lines text ++ line ∷ []
