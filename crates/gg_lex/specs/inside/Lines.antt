-- More on Lines: what no promise of the program reaches.
use Rattle.std.specs.Prelude.{◌≡◌, ℕ, List}
use Rattle.gg_lex.specs.declared.token.Tok.{Tok}
use Rattle.gg_lex.specs.declared.token.LexFault.{LexFault}
use Rattle.gg_lex.specs.declared.token.LexFault.TheVariants.{At, NoMemory}
use Rattle.gg_lex.specs.Lines.{FailsAt}

-- why a line has no tokens: it fails at the place that is returned; `NoMemory` has no cause in the line
abbrev pub HasCause : LexFault → List ℕ → Type 0
HasCause (At place) line = (ts : List Tok) × FailsAt ts line place
HasCause NoMemory line = Unit {0}

-- the fault is that the line fails at this place, or an allocation failed
abbrev pub IsFaultAt : LexFault → ℕ → Type 0
IsFaultAt (At place) expected = place ≡ expected
IsFaultAt NoMemory expected = Unit {0}
