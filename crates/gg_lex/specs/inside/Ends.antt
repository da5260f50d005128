-- What the search for file information finds.
-- Source: FIRRTL Specification, "Notes on Syntax" (file information); how it is searched for is this program's own.
use Rattle.std.specs.Prelude.{ℕ, ◌<◌, ◌≤◌, List, length, Option, Some, None}
use Rattle.gg_lex.specs.Lines.{ClosesBehind, IsInfo}

-- the first place, except 0, that a closing bracket follows; none if there is none
abbrev pub FindsBracket : List ℕ → Option ℕ → Type 0
FindsBracket bs None = (k : ℕ) → 1 ≤ k → ClosesBehind bs k → ⊥
FindsBracket bs (Some at) = (1 ≤ at) × ClosesBehind bs at × ((k : ℕ) → 1 ≤ k → k < at → ClosesBehind bs k → ⊥)

-- the length of the file information at the front; none if there is none
abbrev pub FindsInfo : List ℕ → Option ℕ → Type 0
FindsInfo bs None = (n : ℕ) → IsInfo bs n → ⊥
FindsInfo bs (Some n) = (3 ≤ n) × (n ≤ length bs) × IsInfo bs n
