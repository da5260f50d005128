-- What is reported for words that aren't a command. gg_words defines, by `clap`'s own definitions, which words are which
-- command.
-- Source: this program's own.
use Rattle.std.specs.Prelude.{◌≡◌, ℕ, List}
use Rattle.gg_words.specs.Meaning.{IsCommand, IsWordFault}
use Rattle.gg_words.specs.declared.command.Cmd.{Cmd}
use Rattle.gg_words.specs.declared.command.WordFault.{WordFault}
use Rattle.gg_words.specs.declared.command.WordFault.TheVariants.{Unexpected, Refused, WrongNumber, NoMemory}
use Rattle.gg_io.specs.Said.{Said}
use Rattle.golden_commands.specs.Lines.{bad_number, refused_words, unexpected_word}

-- the words are some command
abbrev pub AskForCommand : List (List ℕ) → Type 0
AskForCommand words = (cmd : Cmd) × IsCommand words cmd

-- this is reported for words with this fault; `NoMemory` isn't a fault of words
abbrev pub TellsWords : WordFault → Said → Type 0
TellsWords (Unexpected word) said = said ≡ unexpected_word word
TellsWords (Refused kind) said = said ≡ refused_words kind
TellsWords (WrongNumber value) said = said ≡ bad_number value
TellsWords NoMemory said = ⊥

-- this is reported for words that aren't a command: their fault
abbrev pub TellsUnasked : List (List ℕ) → Said → Type 0
TellsUnasked words said = (fault : WordFault) × IsWordFault words fault × TellsWords fault said
