-- The text of a fault of a snapshot, as the program is to print it.
-- Source: this program's own.
use Rattle.std.specs.Prelude.{ℕ, List, ◌++◌, codes, decimal}
use Rattle.gg_snap.specs.declared.text.fault.SnapFault.{SnapFault}
use Rattle.gg_snap.specs.declared.text.fault.SnapFault.TheVariants.{S1, NoMemory}

-- the fault's code and its line
abbrev pub fault_words : SnapFault → List ℕ
fault_words (S1 line) = codes "S1 line " ++ decimal line
fault_words NoMemory = codes "out of memory"
