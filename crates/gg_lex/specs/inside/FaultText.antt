-- Why a line has no tokens, in words.
-- Source: this program's own.
use Rattle.std.specs.Prelude.{ℕ, List, ◌++◌, codes, decimal}
use Rattle.gg_lex.specs.declared.token.LexFault.{LexFault}
use Rattle.gg_lex.specs.declared.token.LexFault.TheVariants.{At, NoMemory}

-- how a value of `LexFault` is printed, with the place in decimal, counted from 0
abbrev pub fault_text : LexFault → List ℕ
fault_text (At place) = codes "no token begins at byte " ++ decimal place
fault_text NoMemory = codes "out of memory"
