-- What words mean: a command, or why they aren't one.
-- Source: `clap`'s definitions of the words that it takes (`fault_of`) and of what it finds in them (`subcommand_of`).
use Rattle.std.specs.Prelude.{◌≡◌, ℕ, Bool, false, List, [], Option, None, Some, Result, Ok, Err, String, codes, cond, map, string_bytes, unwrap_or, ⊤}
use Rattle.std.specs.Option.{option_map_or}
use Rattle.std.specs.Str.{bytes_eq}
use Rattle.gg_bits.specs.Limits.{capacity_limit, cycle_limit}
use Rattle.clap.specs.Walk.{Row, Text, first_of}
use Rattle.clap.specs.Simple.{subcommand_of}
use Rattle.clap.specs.Faults.{fault_of}
use Rattle.clap.specs.Kinds.{IsAmong}
use Rattle.gg_words.specs.Line.{golden_app}
use Rattle.gg_words.specs.Number.{judged, number_of}
use Rattle.gg_words.specs.Unexpected.{IsUnexpected, has_unexpected}
use Rattle.gg_words.specs.Range.{greatest_seed, most_stages, most_workers}
use Rattle.gg_words.specs.declared.command.Cmd.{Cmd}
use Rattle.gg_words.specs.declared.command.Cmd.TheVariants.{Run, Replay, Check, Demo, Save, Resume}
use Rattle.gg_words.specs.declared.command.WordFault.{WordFault}
use Rattle.gg_words.specs.declared.command.WordFault.TheVariants.{Unexpected, Refused, WrongNumber, NoMemory}

-- The text that was given to this argument. If `clap` takes the words, there is one for each file, and for each number
-- that has no default.
abbrev pub text_of : Text → List Row → Text
text_of id rows = unwrap_or (first_of id rows) []

-- the option without a value was given
abbrev pub is_set : Text → List Row → Bool
is_set id rows = option_map_or (λ text. bytes_eq text (codes "true")) (first_of id rows) false

-- the capacity: 1 to 4,096, and 2 by default
abbrev pub capacity_of : List Row → Result ℕ Text
capacity_of rows = number_of 1 capacity_limit 2 (first_of (codes "capacity") rows)

-- the number of workers: 0 to 64, and 0 by default
abbrev pub workers_of : List Row → Result ℕ Text
workers_of rows = number_of 0 most_workers 0 (first_of (codes "workers") rows)

-- the seed of a demo: 0 to 4,294,967,295
abbrev pub seed_of : List Row → Result ℕ Text
seed_of rows = judged 0 greatest_seed (text_of (codes "seed") rows)

-- the number of a demo's stages: 1 to 64
abbrev pub size_of : List Row → Result ℕ Text
size_of rows = judged 1 most_stages (text_of (codes "size") rows)

-- the cycle of a snapshot that is to be saved: 0 to 1,000,000
abbrev pub at_of : List Row → Result ℕ Text
at_of rows = judged 0 cycle_limit (text_of (codes "at") rows)

-- the result of a function of a number, or the value that isn't a number
abbrev pub with_number : Result ℕ Text → (ℕ → Result Cmd Text) → Result Cmd Text
with_number (Ok n) next = next n
with_number (Err value) next = Err value

-- the command of the words of `run`, or its first value that isn't a number in its range
abbrev pub run_of : List Row → Result Cmd Text
run_of rows = with_number (capacity_of rows) (λ capacity. with_number (workers_of rows) (λ workers.
    Ok (Run (text_of (codes "circuit") rows) (text_of (codes "partition") rows) (text_of (codes "trace") rows)
    capacity workers (is_set (codes "mono") rows))))

-- the command of the words of `replay`, or its first such value
abbrev pub replay_of : List Row → Result Cmd Text
replay_of rows = with_number (capacity_of rows) (λ capacity.
    Ok (Replay (text_of (codes "circuit") rows) (text_of (codes "partition") rows) (text_of (codes "trace") rows)
    (text_of (codes "steps") rows) capacity))

-- the command of the words of `check`, or its first such value
abbrev pub check_of : List Row → Result Cmd Text
check_of rows = with_number (capacity_of rows) (λ capacity.
    Ok (Check (text_of (codes "circuit") rows) (text_of (codes "partition") rows) capacity))

-- the command of the words of `demo`, or its first such value
abbrev pub demo_of : List Row → Result Cmd Text
demo_of rows = with_number (seed_of rows) (λ seed. with_number (size_of rows) (λ size. with_number (workers_of rows) (λ workers.
    Ok (Demo seed size workers))))

-- the command of the words of `save`, or its first such value
abbrev pub save_of : List Row → Result Cmd Text
save_of rows = with_number (at_of rows) (λ at. with_number (capacity_of rows) (λ capacity. with_number (workers_of rows) (λ workers.
    Ok (Save (text_of (codes "circuit") rows) (text_of (codes "partition") rows) (text_of (codes "trace") rows)
    at capacity workers))))

-- the command of the words of `resume`, or its first such value
abbrev pub resume_of : List Row → Result Cmd Text
resume_of rows = with_number (capacity_of rows) (λ capacity. with_number (workers_of rows) (λ workers.
    Ok (Resume (text_of (codes "circuit") rows) (text_of (codes "partition") rows) (text_of (codes "trace") rows)
    (text_of (codes "snap") rows) capacity workers)))

-- what was found under the command's name says this
abbrev pub CommandSays : Text → List Row → Result Cmd Text → Type 0
CommandSays name rows said = cond (bytes_eq name (codes "run")) (said ≡ run_of rows)
    (cond (bytes_eq name (codes "replay")) (said ≡ replay_of rows)
    (cond (bytes_eq name (codes "check")) (said ≡ check_of rows)
    (cond (bytes_eq name (codes "demo")) (said ≡ demo_of rows)
    (cond (bytes_eq name (codes "save")) (said ≡ save_of rows)
    (cond (bytes_eq name (codes "resume")) (said ≡ resume_of rows) ⊥)))))

-- a command was found, and says this
abbrev pub FoundSays : Option (Text × List Row) → Result Cmd Text → Type 0
FoundSays None said = ⊥
FoundSays (Some found) said = CommandSays found.0 found.1 said

-- `clap` takes the words, and what it finds in them says this
pub record Says (words : List Text) (said : Result Cmd Text) : Type 0 where
  pub taken : fault_of golden_app words ≡ []
  pub found : FoundSays (subcommand_of golden_app words) said

-- `clap` takes the words, and what it finds in them is this command
abbrev pub IsCommand : List Text → Cmd → Type 0
IsCommand words cmd = Says words (Ok cmd)

-- the words aren't a command, because of this
abbrev pub IsWordFault : List Text → WordFault → Type 0
IsWordFault words (Unexpected word) = IsUnexpected words word
IsWordFault words (Refused kind) = IsAmong kind (fault_of golden_app words) × (has_unexpected words ≡ false)
IsWordFault words (WrongNumber value) = Says words (Err value)
IsWordFault words NoMemory = ⊥

-- the words aren't a command, because of this, or it is `NoMemory`
abbrev pub IfWordFault : List Text → WordFault → Type 0
IfWordFault words (Unexpected word) = IsWordFault words (Unexpected word)
IfWordFault words (Refused kind) = IsWordFault words (Refused kind)
IfWordFault words (WrongNumber value) = IsWordFault words (WrongNumber value)
IfWordFault words NoMemory = ⊤

-- the texts of the words
abbrev pub texts : {Y : Type 0} → List (String Y) → List Text
texts words = map string_bytes words
