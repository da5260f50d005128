-- A fault of reading in words, as the program prints it. The word is the first one of the line that is left out of the
-- language.
-- Source: this program's own.
use Rattle.std.specs.Prelude.{ℕ, List, ◌++◌, codes, decimal}
use Rattle.gg_read.specs.declared.text.ReadFault.{ReadFault}
use Rattle.gg_read.specs.declared.text.ReadFault.TheVariants.{NotText, Syntax, Outside, TooDeep, NoMemory}

-- how a value of `ReadFault` is printed
abbrev pub fault_text : ReadFault → List ℕ
fault_text NotText = codes "not text"
fault_text (Syntax line) = codes "syntax line " ++ decimal line
fault_text (Outside line word) = codes "outside line " ++ decimal line ++ codes " " ++ word
fault_text (TooDeep line) = codes "too deep line " ++ decimal line
fault_text NoMemory = codes "out of memory"
