-- What the worked texts share: lines that are a row of their position, and lines that are none.
use Rattle.std.proofs.Common.{◌≡◌, ℕ, ◌+◌, ◌≤◌, List, [], ◌∷◌, ◌++◌, length, take, drop, None, Some, refl, sym, ap, ◌∙◌, arith, length-append, take-append-drop}
use Rattle.gg_lex.specs.declared.token.Tok.{Tok}
use Rattle.gg_lex.specs.declared.token.Tok.TheVariants.{Word, Number, Text, Symbol}
use Rattle.gg_lex.specs.declared.token.Symbol.TheVariants as mark
use Rattle.gg_ast.specs.Row.{Row}
use Rattle.gg_read_row.specs.inside.Reading.{row_at}
use Rattle.gg_read_row.proofs.RowLaws.{spelt-row_at}
use Rattle.gg_read_row.proofs.RowsSpelt.{row-spells}
use Rattle.gg_read.specs.Text.{LineTokens, LinePlace, place_after, opened, IsTooDeep, IsForm, IsNoForm, IsBlank}
use Rattle.gg_read.proofs.FaultLines.{same_row}

-- lines, each with its line feed
abbrev pub text_of : List (List ℕ) → List ℕ
text_of [] = []
text_of (line ∷ more) = line ++ 10 ∷ text_of more

abbrev pub holding : List Tok → LineTokens
holding tokens = record { tokens = tokens; bad = None }

pub form : {place next : LinePlace} {row : Row} {ts : List Tok} → row_at ts ≡ Some row → place_after place row ≡ Some next → IsForm place (holding ts) row next
form {place} {next} {row} {ts} found there = record { whole = refl; spelt = row-spells ts row found; there = there }

some_token : (t : Tok) (ts : List Tok) → IsBlank (holding (t ∷ ts)) → ⊥
some_token t ts blank = let none : t ∷ ts ≡ [] = blank.0 in cc

-- the tokens spell no row
pub no_row : {place : LinePlace} {t : Tok} {ts : List Tok} → row_at (t ∷ ts) ≡ None → IsNoForm place (holding (t ∷ ts))
no_row {place} {t} {ts} nothing = (some_token t ts, none)
  where
    none : (row : Row) (next : LinePlace) → IsForm place (holding (t ∷ ts)) row next → ⊥
    none row next h = let found = spelt-row_at (t ∷ ts) row h.spelt in cc

-- the tokens spell a row, but one of another position
pub no_place : {place : LinePlace} {row : Row} {t : Tok} {ts : List Tok} → row_at (t ∷ ts) ≡ Some row → place_after place row ≡ None → IsNoForm place (holding (t ∷ ts))
no_place {place} {row} {t} {ts} found nowhere = (some_token t ts, none)
  where
    none : (r : Row) (next : LinePlace) → IsForm place (holding (t ∷ ts)) r next → ⊥
    none r next h =
        let same : row ≡ r = same_row (t ∷ ts) row r (row-spells (t ∷ ts) row found) h.spelt in
        let there : place_after place row ≡ Some next = ap (λ (x : Row). place_after place x) same ∙ h.there in
        cc

opened-length : (ts : List Tok) → opened ts ≤ length ts
opened-length [] = omega arith
opened-length (Word w ∷ ts) = omega (arith, opened-length ts)
opened-length (Number w ∷ ts) = omega (arith, opened-length ts)
opened-length (Text w ∷ ts) = omega (arith, opened-length ts)
opened-length (Symbol mark.OpenParen ∷ ts) = omega (arith, opened-length ts)
opened-length (Symbol _ ∷ ts) = omega (arith, opened-length ts)

-- a line of at most 256 tokens is not too deep
pub shallow : (ts : List Tok) → length ts ≤ 256 → IsTooDeep ts → ⊥
shallow ts short (k, deep) =
    let parts : length (take k ts) + length (drop k ts) ≡ length ts = sym (length-append (take k ts) (drop k ts)) ∙ ap length (take-append-drop k ts) in
    omega (arith, deep, short, parts, opened-length (take k ts))
