-- Words that `clap` refuses because of one of them, and this word.
-- Source: `clap`'s definition of the kinds of its refusals (`fault_of`).
use Rattle.std.specs.Prelude.{◌≡◌, ◌≤◌, ◌+◌, ℕ, Bool, true, false, List, Some, slice_get, take}
use Rattle.std.specs.List.{list_any}
use Rattle.clap.specs.Walk.{Text}
use Rattle.clap.specs.Faults.{fault_of}
use Rattle.clap.specs.declared.error.kind.ErrorKind.{ErrorKind}
use Rattle.clap.specs.declared.error.kind.ErrorKind.TheVariants as kind
use Rattle.gg_words.specs.Line.{golden_app}

-- a kind for a word, or for a value in a word, that nothing takes
abbrev pub is_for_word : ErrorKind → Bool
is_for_word kind.UnknownArgument = true
is_for_word kind.InvalidSubcommand = true
is_for_word kind.TooManyValues = true
is_for_word _ = false

-- `clap` refuses the words with such a kind
unfoldable pub has_unexpected : List Text → Bool
has_unexpected words = list_any is_for_word (fault_of golden_app words)

-- This word makes `clap` refuse the words: it refuses them with such a kind, and also the words up to this one, but no fewer of them.
pub record IsUnexpected (words : List Text) (word : Text) : Type 0 where
  pub refused : has_unexpected words ≡ true
  pub place : ℕ
  pub stands : slice_get words place ≡ Some word
  pub here : has_unexpected (take (place + 1) words) ≡ true
  pub first : (n : ℕ) → n ≤ place → has_unexpected (take n words) ≡ false
