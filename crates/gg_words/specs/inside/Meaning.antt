-- More on Meaning: what no promise of the program reaches.
-- Source: `clap`'s definitions of the words that it takes (`fault_of`) and of what it finds in them (`subcommand_of`).
use Rattle.std.specs.Prelude.{◌≡◌, ◌⊎◌, true, List, [], ◌∷◌, Option, None, Some, is_some, Result, Ok, Err, MatchResult, codes, ⊤}
use Rattle.clap.specs.Walk.{Row, Text, first_of}
use Rattle.gg_words.specs.declared.command.WordFault.{WordFault}
use Rattle.gg_words.specs.declared.command.WordFault.TheVariants.{Unexpected, Refused, WrongNumber, NoMemory}

-- a fault agrees with what was found; `clap` refused nothing there
abbrev pub SaysFault : {T : Type 0} → WordFault → Result T Text → Type 0
SaysFault (Unexpected word) said = ⊥
SaysFault (Refused kind) said = ⊥
SaysFault (WrongNumber value) said = said ≡ Err value
SaysFault NoMemory said = ⊤

-- the result is what was found, or `NoMemory`
abbrev pub Answers : {T : Type 0} → Result T WordFault → Result T Text → Type 0
Answers result said = MatchResult result (λ x. said ≡ Ok x) (λ fault. SaysFault fault said)

-- for each of these arguments a text was found
abbrev pub HaveTexts : List Text → List Row → Type 0
HaveTexts [] rows = ⊤
HaveTexts (id ∷ ids) rows = (is_some (first_of id rows) ≡ true) × HaveTexts ids rows

-- the files of `run`, by their places
abbrev pub run_files : List Text
run_files = codes "circuit" ∷ codes "partition" ∷ codes "trace" ∷ []

-- the files of `replay`
abbrev pub replay_files : List Text
replay_files = codes "circuit" ∷ codes "partition" ∷ codes "trace" ∷ codes "steps" ∷ []

-- the files of `check`
abbrev pub check_files : List Text
check_files = codes "circuit" ∷ codes "partition" ∷ []

-- the numbers of `demo`
abbrev pub demo_numbers : List Text
demo_numbers = codes "seed" ∷ codes "size" ∷ []

-- the files of `save`, and the cycle of the snapshot
abbrev pub save_words : List Text
save_words = codes "circuit" ∷ codes "partition" ∷ codes "trace" ∷ codes "at" ∷ []

-- the files of `resume`
abbrev pub resume_files : List Text
resume_files = codes "circuit" ∷ codes "partition" ∷ codes "trace" ∷ codes "snap" ∷ []

-- a command was found, and each word that it requires was given
abbrev pub HasWords : Option (Text × List Row) → Type 0
HasWords None = ⊥
HasWords (Some found) = ((found.0 ≡ codes "run") × HaveTexts run_files found.1) ⊎ ((found.0 ≡ codes "replay") × HaveTexts replay_files found.1)
    ⊎ ((found.0 ≡ codes "check") × HaveTexts check_files found.1) ⊎ ((found.0 ≡ codes "demo") × HaveTexts demo_numbers found.1)
    ⊎ ((found.0 ≡ codes "save") × HaveTexts save_words found.1) ⊎ ((found.0 ≡ codes "resume") × HaveTexts resume_files found.1)
