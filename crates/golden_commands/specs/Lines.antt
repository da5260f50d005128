-- What is reported for words, and for the files of a command. Source: this program's own. The lines are in
-- docs/FORMATS.md. The `line` of a report is one line. For words that `clap` refuses, more lines follow in it.
use Rattle.std.specs.Prelude.{◌≡◌, ◌≢◌, ℕ, List, ◌++◌, ◌∷◌, codes, decimal}
use Rattle.clap.specs.declared.error.kind.ErrorKind.{ErrorKind}
use Rattle.clap.specs.declared.error.kind.ErrorKind.TheVariants as kind
use Rattle.gg_read.specs.FaultText.{fault_text}
use Rattle.gg_read.specs.declared.text.ReadFault.{ReadFault}
use Rattle.gg_read.specs.declared.text.ReadFault.TheVariants.{NoMemory}
use Rattle.gg_io.specs.Said.{Said, line_of}

-- the words aren't a command: `golden: words` followed by this text
abbrev pub words_said : List ℕ → Said
words_said text = record { status = 2; line = line_of (codes "golden: words" ++ text) }

-- the usage of each command, each on a line of its own, after the line with the fault
abbrev pub usage : List ℕ
usage = codes "\nusage: golden run CIRCUIT PARTITION TRACE [--capacity K] [--workers W] [--mono]\nusage: golden replay CIRCUIT PARTITION TRACE STEPS [--capacity K]\nusage: golden check CIRCUIT PARTITION [--capacity K]\nusage: golden demo SEED SIZE [--workers W]\nusage: golden save CIRCUIT PARTITION TRACE AT [--capacity K] [--workers W]\nusage: golden resume CIRCUIT PARTITION TRACE SNAP [--capacity K] [--workers W]"

-- no command and no argument takes this word
abbrev pub unexpected_word : List ℕ → Said
unexpected_word word = words_said (codes ": '" ++ word ++ codes "' is unexpected" ++ usage)

-- why `clap` refuses words with this kind, if it isn't a kind for a word; the last row is for kinds that no test and no
-- worked row has met
abbrev pub cause_text : ErrorKind → List ℕ
cause_text kind.MissingSubcommand = codes "no command is given"
cause_text kind.MissingRequiredArgument = codes "a file or a number is missing"
cause_text kind.InvalidValue = codes "an option has no value"
cause_text kind.ArgumentConflict = codes "an option is given twice"
cause_text _ = codes "not a command"

-- `clap` refuses the words with this kind
abbrev pub refused_words : ErrorKind → Said
refused_words k = words_said (codes ": " ++ cause_text k ++ usage)

-- this value isn't a number in its range
abbrev pub bad_number : List ℕ → Said
bad_number value = words_said (codes ": '" ++ value ++ codes "' is not a number in its range: --capacity takes 1 to 4096, --workers 0 to 64, SEED 0 to 4294967295, SIZE 1 to 64, AT 0 to 1000000")

-- status 1, and the line with the circuit's fault
abbrev pub circuit_fault : List ℕ → Said
circuit_fault text = record { status = 1; line = line_of (codes "golden: circuit: " ++ text) }

-- this is reported for a circuit's text with this fault of reading; `NoMemory` isn't a fault of a text
abbrev pub TellsUnread : ReadFault → Said → Type 0
TellsUnread fault said = (fault ≢ NoMemory) × (said ≡ circuit_fault (fault_text fault))

-- status 6, and the line with the partition's fault
abbrev pub partition_fault : List ℕ → Said
partition_fault text = record { status = 6; line = line_of (codes "golden: partition: " ++ text) }

-- status 7, and the line with the trace's fault
abbrev pub trace_fault : List ℕ → Said
trace_fault text = record { status = 7; line = line_of (codes "golden: trace: " ++ text) }

-- step k, counted from 1, is refused for the cause with this text
abbrev pub step_fault : ℕ → List ℕ → Said
step_fault k text = record { status = 9; line = line_of (codes "golden: step " ++ decimal k ++ codes ": " ++ text) }

-- a snapshot has the fault with this text
abbrev pub snap_fault : List ℕ → Said
snap_fault text = record { status = 10; line = line_of (codes "golden: snapshot: " ++ text) }

-- S2: the run has a state before cycle `rows` at most, and `at` is later
abbrev pub few_rows : (at rows : ℕ) → Said
few_rows at rows = snap_fault (codes "S2 " ++ decimal at ++ 32 ∷ decimal rows)
