-- What the shelves and outputs in memory have, and which of their calls must fail.
-- Source: this program's own.
use Rattle.std.specs.Prelude.{ℕ, ◌==◌, List, [], Option, None, Some, Vec, String, find}
use Rattle.std.specs.BTreeMap.{BTreeMap, get_by_text}
use Rattle.std.specs.Option.{option_map}
use Rattle.gg_io.specs.Told.{Told, Missing, Holds}
use Rattle.gg_io.specs.declared.mem_sink.FailingPut.{FailingPut}

module _ {Y Z : Type 0} where
  -- the bytes under a name, if any
  abbrev pub bytes_under : BTreeMap (String Y) (Vec ℕ Z) → List ℕ → Option (List ℕ)
  bytes_under files name = option_map (λ v. v.items) (get_by_text files name)

-- what is known of a file by a map that has it or not
abbrev pub told_of : Option (List ℕ) → Told
told_of None = Missing
told_of (Some bytes) = Holds bytes

-- what is known if every name is a file, empty where the map has none
abbrev pub told_or_empty : Option (List ℕ) → Told
told_or_empty None = Holds []
told_or_empty (Some bytes) = Holds bytes

-- how many bytes the put of this number writes before it fails, by the first entry with that number; None if there is
-- no entry with it
abbrev pub taken_before_failure : List FailingPut → ℕ → Option ℕ
taken_before_failure failing number = option_map (λ p. p.takes) (find (λ p. p.number == number) failing)
