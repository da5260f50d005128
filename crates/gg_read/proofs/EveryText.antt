-- Each text spells a circuit or has a fault line: each line is blank, a row that is valid at its position, or at fault.
use Rattle.std.proofs.Common.{◌≡◌, ℕ, zero, suc, ◌+◌, ◌<◌, ◌≤◌, ◌⊎◌, inl, inr, List, [], ◌∷◌, ◌++◌, length, take, Option, Some, None, refl, sym, ap, ◌∙◌, subst, arith, append_assoc, length-append}
use Rattle.std.proofs.lemmas.List.{append-nil}
use Rattle.std.specs.Prelude.{slice_get}
use Rattle.std.specs.Str.{IsUtf8}
use Rattle.std.specs.Str.Lines.{lines}
use Rattle.std.proofs.lemmas.Bool.{cases_lt}
use Rattle.gg_lex.specs.declared.token.Tok.{Tok}
use Rattle.gg_lex.specs.Lines.{Lexes}
use Rattle.gg_lex.proofs.EveryLine.{every_line}
use Rattle.gg_ast.specs.Row.{Row}
use Rattle.gg_ast.specs.Tree.{CircuitTree}
use Rattle.gg_read_row.specs.inside.Reading.{row_at}
use Rattle.gg_read_row.proofs.RowLaws.{spelt-row_at}
use Rattle.gg_read_row.proofs.RowsSpelt.{row-spells}
use Rattle.gg_read.specs.declared.stage.Stage.{Stage}
use Rattle.gg_read.specs.declared.stage.Stage.TheVariants.{Start, Version, Header, Ports, Statements, Fields, Open}
use Rattle.gg_read.specs.inside.Stages.{stage_place, HasRead}
use Rattle.gg_read.specs.Text.{LinePlace, LineTokens, IsBlank, IsForm, IsAtFault, IsTooDeep, IsFaultLine, HasNoFaultLine, Spells, opened, closed, place_after}
use Rattle.gg_read.proofs.FaultLines.{same_row}
use Rattle.gg_read.proofs.LineSteps.{HasRead-row, HasRead-blank, HasRead-fault, HasRead-incomplete, HasRead-whole, HasRead-faultless}
use Rattle.gg_read.proofs.NextStages.{GoesOn, goes_later, next-stage}
use Rattle.gg_read.proofs.TokenCounts.{opened-cons, closed-cons}

-- ---- one line

-- after o opened and c closed brackets, the brackets of these tokens go too deep
abbrev DeepBehind : ℕ → ℕ → List Tok → Type 0
DeepBehind o c ts = (k : ℕ) × (256 + (c + closed (take k ts)) < o + opened (take k ts))

deep_or_not : (ts : List Tok) (o c : ℕ) → DeepBehind o c ts ⊎ (DeepBehind o c ts → ⊥)
deep_or_not [] o c = by (cases_lt (256 + c) o)
  where
    none : o ≤ 256 + c → DeepBehind o c [] → ⊥
    none le (zero, deep) = omega (arith, le, deep)
    none le (suc k, deep) = omega (arith, le, deep)

    by : (256 + c < o) ⊎ (o ≤ 256 + c) → DeepBehind o c [] ⊎ (DeepBehind o c [] → ⊥)
    by (inl less) = inl (zero, omega (arith, less))
    by (inr le) = inr (none le)
deep_or_not (t ∷ ts) o c = by (cases_lt (256 + c) o) (deep_or_not ts (o + opened (t ∷ [])) (c + closed (t ∷ [])))
  where
    none : o ≤ 256 + c → (DeepBehind (o + opened (t ∷ [])) (c + closed (t ∷ [])) ts → ⊥) → DeepBehind o c (t ∷ ts) → ⊥
    none le shallow (zero, deep) = omega (arith, le, deep)
    none le shallow (suc k, deep) = shallow (k, omega (arith, deep, opened-cons t (take k ts), closed-cons t (take k ts)))

    by : (256 + c < o) ⊎ (o ≤ 256 + c) → DeepBehind (o + opened (t ∷ [])) (c + closed (t ∷ [])) ts ⊎ (DeepBehind (o + opened (t ∷ [])) (c + closed (t ∷ [])) ts → ⊥)
        → DeepBehind o c (t ∷ ts) ⊎ (DeepBehind o c (t ∷ ts) → ⊥)
    by (inl less) more = inl (zero, omega (arith, less))
    by (inr le) (inl (k, deep)) = inl (suc k, omega (arith, deep, opened-cons t (take k ts), closed-cons t (take k ts)))
    by (inr le) (inr shallow) = inr (none le shallow)

-- what a line is at its position
data Judged (place : LinePlace) (line : LineTokens) : Type 0 where
  Blank : (blank : IsBlank line) → Judged place line
  Formed : (row : Row) (next : LinePlace) (form : IsForm place line row next) (shallow : IsTooDeep line.tokens → ⊥) → Judged place line
  Faulty : (fault : IsAtFault place line) → Judged place line

abbrev holding : List Tok → Option ℕ → LineTokens
holding ts bad = record { tokens = ts; bad = bad }

bad-judged : (place : LinePlace) (ts : List Tok) (x : ℕ) → Judged place (holding ts (Some x))
bad-judged place ts x = Faulty (inr (blank, form))
  where
    blank : IsBlank (holding ts (Some x)) → ⊥
    blank h = let none : Some x ≡ None = h.1 in cc

    form : (row : Row) (next : LinePlace) → IsForm place (holding ts (Some x)) row next → ⊥
    form row next h = let none : Some x ≡ None = h.whole in cc

placed-judged : (place : LinePlace) (t : Tok) (ts : List Tok) (row : Row) (o : Option LinePlace) → (IsTooDeep (t ∷ ts) → ⊥) → row_at (t ∷ ts) ≡ Some row → place_after place row ≡ o → Judged place (holding (t ∷ ts) None)
placed-judged place t ts row (Some next) shallow found there = Formed row next (record { whole = refl; spelt = row-spells (t ∷ ts) row found; there = there }) shallow
placed-judged place t ts row None shallow found there = Faulty (inr (blank, form))
  where
    blank : IsBlank (holding (t ∷ ts) None) → ⊥
    blank h = let none : t ∷ ts ≡ [] = h.0 in cc

    form : (r : Row) (next : LinePlace) → IsForm place (holding (t ∷ ts) None) r next → ⊥
    form r next h =
        let same : row ≡ r = same_row (t ∷ ts) row r (row-spells (t ∷ ts) row found) h.spelt in
        let here : place_after place row ≡ Some next = ap (λ (x : Row). place_after place x) same ∙ h.there in
        cc

row-judged : (place : LinePlace) (t : Tok) (ts : List Tok) (o : Option Row) → (IsTooDeep (t ∷ ts) → ⊥) → row_at (t ∷ ts) ≡ o → Judged place (holding (t ∷ ts) None)
row-judged place t ts (Some row) shallow found = placed-judged place t ts row (place_after place row) shallow found refl
row-judged place t ts None shallow found = Faulty (inr (blank, form))
  where
    blank : IsBlank (holding (t ∷ ts) None) → ⊥
    blank h = let none : t ∷ ts ≡ [] = h.0 in cc

    form : (r : Row) (next : LinePlace) → IsForm place (holding (t ∷ ts) None) r next → ⊥
    form r next h = let here = spelt-row_at (t ∷ ts) r h.spelt in cc

deep-judged : (place : LinePlace) (t : Tok) (ts : List Tok) → DeepBehind 0 0 (t ∷ ts) ⊎ (DeepBehind 0 0 (t ∷ ts) → ⊥) → Judged place (holding (t ∷ ts) None)
deep-judged place t ts (inl (k, deep)) = Faulty (inl (k, omega (arith, deep)))
deep-judged place t ts (inr none) = row-judged place t ts (row_at (t ∷ ts)) shallow refl
  where
    shallow : IsTooDeep (t ∷ ts) → ⊥
    shallow (k, deep) = none (k, omega (arith, deep))

judge : (place : LinePlace) (ts : List Tok) (bad : Option ℕ) → Judged place (holding ts bad)
judge place ts (Some x) = bad-judged place ts x
judge place [] None = Blank (refl, refl)
judge place (t ∷ ts) None = deep-judged place t ts (deep_or_not (t ∷ ts) 0 0)

-- ---- line by line

-- the text spells a circuit and no line of it is at fault, or it has a fault line
abbrev IsAnswered : List ℕ → Type 0
IsAnswered text = ((circuit : CircuitTree) × Spells text circuit × HasNoFaultLine text) ⊎ ((n : ℕ) × (line : LineTokens) × IsFaultLine text n line)

-- from these lines on the text is answered, if the lines before them were read
abbrev GoesThrough : List ℕ → List (List ℕ) → Type 0
GoesThrough text ls =
    (done : List (List ℕ)) (n : ℕ) (stage : Stage) → done ++ ls ≡ lines text → n ≡ length done + 1 → GoesOn stage n → HasRead done stage → IsAnswered text

taken : (done more : List (List ℕ)) → take (length done) (done ++ more) ≡ done
taken [] more = refl
taken (l ∷ ls) more = ap (λ (x : List (List ℕ)). l ∷ x) (taken ls more)

next_there : (done more : List (List ℕ)) (l : List ℕ) → slice_get (done ++ l ∷ more) (length done) ≡ Some l
next_there [] more l = refl
next_there (k ∷ ks) more l = next_there ks more l

one_line : (text : List ℕ) (l : List ℕ) (more done : List (List ℕ)) (n : ℕ) (stage : Stage) (line : LineTokens) → GoesThrough text more → done ++ l ∷ more ≡ lines text → n ≡ length done + 1 → GoesOn stage n → HasRead done stage → Lexes l line.tokens line.bad → Judged (stage_place stage) line → IsAnswered text
one_line text l more done n stage line through all number goes read lexed (Blank blank) =
    let size : length (done ++ l ∷ []) ≡ length done + 1 = length-append done (l ∷ []) in
    through (done ++ l ∷ []) (n + 1) stage (append_assoc done (l ∷ []) more ∙ all) (omega (arith, number, size)) (goes_later stage n goes) (HasRead-blank done stage l line read lexed blank)
one_line text l more done n stage line through all number goes read lexed (Formed row place form shallow) =
    let size : length (done ++ l ∷ []) ≡ length done + 1 = length-append done (l ∷ []) in
    let behind = next-stage stage n row place goes form.there in
    through (done ++ l ∷ []) (n + 1) behind.next (append_assoc done (l ∷ []) more ∙ all) (omega (arith, number, size)) behind.goes
    (HasRead-row done stage behind.next l line row n read lexed (subst (λ (p : LinePlace). IsForm (stage_place stage) line row p) (sym behind.there) form) shallow behind.built number)
one_line text l more done n stage line through all number goes read lexed (Faulty fault) =
    let before : take (length done) (lines text) ≡ done = ap (λ (x : List (List ℕ)). take (length done) x) (sym all) ∙ taken done (l ∷ more) in
    let there : slice_get (lines text) (length done) ≡ Some l = ap (λ (x : List (List ℕ)). slice_get x (length done)) (sym all) ∙ next_there done more l in
    let size : length (lines text) ≡ length done + length (l ∷ more) = ap length (sym all) ∙ length-append done (l ∷ more) in
    inr (n, line, HasRead-fault text (length done) n stage l line (subst (λ (x : List (List ℕ)). HasRead x stage) (sym before) read) (omega (arith, size)) there lexed fault number)

at_end : (text : List ℕ) (stage : Stage) → IsUtf8 text → HasRead (lines text) stage → IsAnswered text
at_end text Start utf8 read = inr (length (lines text) + 1, record { tokens = []; bad = None }, HasRead-incomplete text (length (lines text) + 1) Start read (λ h. h) refl)
at_end text Version utf8 read = inr (length (lines text) + 1, record { tokens = []; bad = None }, HasRead-incomplete text (length (lines text) + 1) Version read (λ h. h) refl)
at_end text (Header c) utf8 read = inl (c, HasRead-whole text (Header c) c utf8 read tt (λ before b. b), HasRead-faultless text (Header c) read tt)
at_end text (Ports c) utf8 read = inl (c, HasRead-whole text (Ports c) c utf8 read tt (λ before b. b), HasRead-faultless text (Ports c) read tt)
at_end text (Statements c) utf8 read = inl (c, HasRead-whole text (Statements c) c utf8 read tt (λ before b. b), HasRead-faultless text (Statements c) read tt)
at_end text (Fields c) utf8 read = inl (c, HasRead-whole text (Fields c) c utf8 read tt (λ before b. b), HasRead-faultless text (Fields c) read tt)
at_end text (Open c register) utf8 read =
    inr (length (lines text) + 1, record { tokens = []; bad = None }, HasRead-incomplete text (length (lines text) + 1) (Open c register) read (λ h. h) refl)

goes_through : (text : List ℕ) → IsUtf8 text → (ls : List (List ℕ)) → GoesThrough text ls
goes_through text utf8 [] done n stage all number goes read =
    at_end text stage utf8 (subst (λ (x : List (List ℕ)). HasRead x stage) (sym (append-nil done) ∙ all) read)
goes_through text utf8 (l ∷ ls) done n stage all number goes read =
    let lexed = every_line l in
    one_line text l ls done n stage (holding lexed.0 lexed.1) (goes_through text utf8 ls) all number goes read lexed.2 (judge (stage_place stage) lexed.0 lexed.1)

pub every_text-law : (text : List ℕ) → IsUtf8 text → IsAnswered text
every_text-law text utf8 =
    goes_through text utf8 (lines text) [] 1 Start refl refl tt (record { held = []; tokens = tt; rows = []; read = (refl, refl); shallow = tt; built = refl })
