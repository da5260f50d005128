-- The fault that a reader returns for a fault line.
-- Source: this program's own.
use Rattle.std.specs.Prelude.{◌≡◌, ℕ, List, None, Some}
use Rattle.gg_lex.specs.declared.token.Tok.{Tok}
use Rattle.gg_read.specs.declared.text.ReadFault.{ReadFault}
use Rattle.gg_read.specs.declared.text.ReadFault.TheVariants.{NotText, Syntax, Outside, TooDeep, NoMemory}
use Rattle.gg_read.specs.Text.{IsTooDeep, first_outside}

-- the fault of the fault line with this number and these tokens: the first of the three causes that holds there;
-- `NoMemory` has no cause in the text
abbrev pub IsFaultOf : ℕ → List Tok → ReadFault → Type 0
IsFaultOf n ts NotText = ⊥
IsFaultOf n ts (TooDeep m) = (m ≡ n) × IsTooDeep ts
IsFaultOf n ts (Outside m word) = (m ≡ n) × (IsTooDeep ts → ⊥) × (first_outside ts ≡ Some word)
IsFaultOf n ts (Syntax m) = (m ≡ n) × (IsTooDeep ts → ⊥) × (first_outside ts ≡ None)
IsFaultOf n ts NoMemory = Unit {0}
