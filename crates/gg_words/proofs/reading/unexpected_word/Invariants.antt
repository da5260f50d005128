use Rattle.std.proofs.Common.{◌≡◌, ◌-◌, ◌<◌, ◌≤◌, ℕ, false, length, take}
use Rattle.gg_words.specs.Unexpected.{has_unexpected}
use Rattle.gg_words.specs.Meaning.{texts}
use Rattle.gg_words.proofs.reading.unexpected_word.Given as goal

-- `clap` refuses neither the words before this place for one of them, nor fewer
abbrev pub invariant-loop-place : goal.invariant-loop-place
invariant-loop-place l = record {
  in_range : l.place < length l.words;
  first : (n : ℕ) → n ≤ l.place → has_unexpected (take n (texts l.words)) ≡ false;
}

abbrev pub decreases-loop-place : goal.decreases-loop-place
decreases-loop-place l = length l.words - l.place
