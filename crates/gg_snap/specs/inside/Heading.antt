-- Faults of the first two lines of a snapshot.
-- Source: this program's own.
use Rattle.std.specs.Prelude.{◌≡◌, ◌≢◌, ℕ, ◌≤◌, List, [], ◌∷◌, length}
use Rattle.gg_bits.specs.Limits.{cycle_limit}
use Rattle.gg_snap.specs.text.Lines.{cycle_line, first_line}
use Rattle.gg_snap.specs.text.Standing.{pieces}

-- The first or the second line is not there, or is another.
pub data IsHeadingFault (bytes : List ℕ) (line : ℕ) : Type 0 where
  NoLine : (is : line ≡ 1) (none : length (pieces bytes) ≡ 0) → IsHeadingFault bytes line
  NotFirst : (is : line ≡ 1) (piece : List ℕ) (more : List (List ℕ)) (cut : pieces bytes ≡ piece ∷ more) (other : piece ≢ first_line) → IsHeadingFault bytes line
  NoSecond : (is : line ≡ 2) (cut : pieces bytes ≡ first_line ∷ []) → IsHeadingFault bytes line
  NotSecond : (is : line ≡ 2) (piece : List ℕ) (more : List (List ℕ)) (cut : pieces bytes ≡ first_line ∷ piece ∷ more) (other : (n : ℕ) → n ≤ cycle_limit → piece ≢ cycle_line n) → IsHeadingFault bytes line
