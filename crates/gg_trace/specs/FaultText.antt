-- The text of a fault of a trace, as the program prints it.
-- Source: this program's own form; docs/FORMATS.md describes it.
use Rattle.std.specs.Prelude.{ℕ, List, ◌++◌, codes, decimal}
use Rattle.gg_trace.specs.declared.faults.TraceFault.{TraceFault}
use Rattle.gg_trace.specs.declared.faults.TraceFault.TheVariants.{Heading, RowNumber, NotHexadecimal, TooWide, FieldCount, TooManyRows, NoMemory}

-- the fault's code and its numbers
abbrev pub fault_words : TraceFault → List ℕ
fault_words (Heading f) = codes "T1 field " ++ decimal f
fault_words (RowNumber r) = codes "T2 row " ++ decimal r
fault_words (NotHexadecimal r f) = codes "T3 row " ++ decimal r ++ codes " field " ++ decimal f
fault_words (TooWide r f) = codes "T4 row " ++ decimal r ++ codes " field " ++ decimal f
fault_words (FieldCount r c) = codes "T5 row " ++ decimal r ++ codes " " ++ decimal c
fault_words (TooManyRows r) = codes "T6 row " ++ decimal r
fault_words NoMemory = codes "out of memory"
