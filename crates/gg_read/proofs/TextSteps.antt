-- One step of reading a text: a line, or the end.
use Rattle.std.proofs.Common.{◌≡◌, ℕ, ◌+◌, ◌<◌, List, [], ◌∷◌, ◌++◌, length, take, get_or, false, Option, Some, None, Result, Ok, Err, inl, inr, refl, sym, ap, ◌∙◌, subst, arith}
use Rattle.std.specs.Prelude.{is_some, IfOk, IfErr, IfSome, MatchOption, MatchResult}
use Rattle.std.specs.Str.{IsUtf8}
use Rattle.std.specs.Str.Lines.{lines}
use Rattle.std.proofs.lemmas.List.{take_more, length-take-le}
use Rattle.std.proofs.lemmas.Option.{slice_get_read}
use Rattle.std.proofs.Math.Seq.{take-length}
use Rattle.gg_lex.specs.Lines.{Lexes}
use Rattle.gg_ast.specs.Row.{Row, numbered}
use Rattle.gg_ast.specs.Tree.{CircuitTree}
use Rattle.gg_read_row.specs.declared.cursor.RowFault.{RowFault}
use Rattle.gg_read_row.specs.declared.cursor.RowFault.TheVariants.{NoForm, NoMemory}
use Rattle.gg_read_row.specs.declared.row.LineRow.{LineRow}
use Rattle.gg_read.specs.declared.stage.Stage.{Stage}
use Rattle.gg_read.specs.declared.stage.Stage.TheVariants.{Start, Version, Header, Ports, Statements, Fields, Open}
use Rattle.gg_read.specs.declared.text.ReadFault.{ReadFault}
use Rattle.gg_read.specs.declared.text.ReadFault.TheVariants as because
use Rattle.gg_read.specs.Causes.{IsFaultOf}
use Rattle.gg_read_row.specs.inside.LineRows.{row_of, TellsRow}
use Rattle.gg_read_row.specs.Forms.{SpellsRow}
use Rattle.gg_read.specs.inside.Stages.{stage_place, IsStage, Advances, Ends, HasRead, IsWholeRow, IsRowOf, IsRowStep, IsPlaced, IsMissed, IsFaulty, IsStep}
use Rattle.gg_read.specs.Text.{LineTokens, IsTooDeep, IsBlank, IsFaultLine, HasNoFaultLine, Spells, HasReadFault, place_after}
use Rattle.gg_read.proofs.LineSteps.{HasRead-row, HasRead-blank, HasRead-fault, HasRead-incomplete, HasRead-whole, HasRead-faultless, empty_shallow}
use Rattle.gg_read.proofs.FaultLines.{same_row, one_circuit-law, one_fault_line-law}

pub none_there : (o : Option ℕ) → is_some o ≡ false → o ≡ None
none_there (Some x) e = absurd (cc)
none_there None e = refl

-- a row that the reader of rows found is the whole line, which isn't too deep
row_held : (line : LineTokens) (held : Option Row) → line.bad ≡ None → (IsTooDeep line.tokens → ⊥) → MatchOption held ⊥ (λ row. SpellsRow row line.tokens) → MatchOption held ⊥ (IsWholeRow line)
row_held line None whole shallow found = found
row_held line (Some row) whole shallow found = record { whole = whole; shallow = shallow; spelt = found }

pub row_found : (line : LineTokens) (result : Result LineRow RowFault) → line.bad ≡ None → (IsTooDeep line.tokens → ⊥) → TellsRow line.tokens result → IsRowOf line result
row_found line (Ok held) whole shallow found = row_held line (row_of held) whole shallow found
row_found line (Err NoForm) whole shallow found = λ r h. found r h.spelt
row_found line (Err NoMemory) whole shallow found = tt

-- the answer for a line that is a row, at the position of the stage
placed_row : (stage : Stage) (n : ℕ) (line : LineTokens) (row : Row) (result : Result Stage RowFault) → IsWholeRow line row → Advances stage (place_after (stage_place stage) row) n (numbered n row ∷ []) result → IsPlaced stage n line result
placed_row stage n line row (Ok next) whole after =
    record {
      row = row;
      form = record { whole = whole.whole; spelt = whole.spelt; there = after.there };
      shallow = whole.shallow;
      stays = after.stays;
      built = after.built;
    }
placed_row stage n line row (Err NoForm) whole none = λ r p form shallow.
    let same : row ≡ r = same_row line.tokens row r whole.spelt form.spelt in
    let there : place_after (stage_place stage) row ≡ Some p = ap (λ (x : Row). place_after (stage_place stage) x) same ∙ form.there in
    cc
placed_row stage n line row (Err NoMemory) whole none = tt

pub placed_held : (stage : Stage) (n : ℕ) (line : LineTokens) (held : Option Row) (result : Result Stage RowFault) → MatchOption held ⊥ (IsWholeRow line) → IfSome held (λ row. Advances stage (place_after (stage_place stage) row) n (numbered n row ∷ []) result) → IsPlaced stage n line result
placed_held stage n line None result whole after = absurd whole
placed_held stage n line (Some row) result whole after = placed_row stage n line row result whole after

later : (stage : Stage) (n : ℕ) → IsStage stage n → IsStage stage (n + 1)
later Start n stays = tt
later Version n stays = tt
later (Header circuit) n stays = tt
later (Ports circuit) n stays = stays
later (Statements circuit) n stays = stays
later (Fields circuit) n stays = stays
later (Open circuit register) n stays = (stays.0, omega (arith, stays.1), stays.2)

-- the step of a blank line
pub blank_step : (stage : Stage) (n : ℕ) (l : List ℕ) (line : LineTokens) → IsStage stage n → Lexes l line.tokens line.bad → IsBlank line → IsStep stage n l (Ok stage)
blank_step stage n l line stays lexed blank = (later stage n stays, λ ls number read. HasRead-blank ls stage l line read lexed blank)

-- the step of a line that is a row of its position
pub row_step : (stage : Stage) (n : ℕ) (l : List ℕ) (line : LineTokens) (next : Stage) → Lexes l line.tokens line.bad → IsRowStep stage n line next → IsStep stage n l (Ok next)
row_step stage n l line next lexed step = (step.stays, λ ls number read. HasRead-row ls stage next l line step.row n read lexed step.form step.shallow step.built number)

-- the step of a line that is none
pub miss_step : (stage : Stage) (n : ℕ) (l : List ℕ) (line : LineTokens) (fault : RowFault) (answer : ReadFault) → Lexes l line.tokens line.bad → (IsBlank line → ⊥) → IsPlaced stage n line (Err fault) → IsMissed fault n line.tokens answer → IsStep stage n l (Err answer)
miss_step stage n l line NoForm because.NotText lexed some none cause = absurd cause
miss_step stage n l line NoForm (because.Syntax m) lexed some none cause = record { line = line; lexed = lexed; fault = inr (some, λ r p form. none r p form cause.1); cause = cause }
miss_step stage n l line NoForm (because.Outside m word) lexed some none cause = record { line = line; lexed = lexed; fault = inr (some, λ r p form. none r p form cause.1); cause = cause }
miss_step stage n l line NoForm (because.TooDeep m) lexed some none cause = record { line = line; lexed = lexed; fault = inl cause.1; cause = cause }
miss_step stage n l line NoForm because.NoMemory lexed some none cause = tt
miss_step stage n l line NoMemory answer lexed some none cause = subst (λ (a : ReadFault). IsStep stage n l (Err a)) (sym cause) tt

-- one turn of the loop over the lines of a text
pub line_turn : (text : List ℕ) (k m n : ℕ) (l : List ℕ) (stage next : Stage) → (k < length (lines text)) × (l ≡ get_or (lines text) k l) → n ≡ k + 1 → m ≡ k + 1 → HasRead (take k (lines text)) stage → ((ls : List (List ℕ)) → n ≡ length ls + 1 → HasRead ls stage → HasRead (ls ++ l ∷ []) next) → HasRead (take m (lines text)) next
line_turn text k m n l stage next turn number size read step =
    let before : length (take k (lines text)) ≡ k = length-take-le k (lines text) (omega (arith, turn.0)) in
    let more : take (k + 1) (lines text) ≡ take k (lines text) ++ l ∷ [] = take_more (lines text) k l turn.0 ∙ ap (λ (x : List ℕ). take k (lines text) ++ x ∷ []) (sym turn.1) in
    subst (λ (ls : List (List ℕ)). HasRead ls next) (sym more ∙ ap (λ (i : ℕ). take i (lines text)) (sym size)) (step (take k (lines text)) (omega (arith, before, number)) read)

faulty : (text : List ℕ) (k n : ℕ) (l : List ℕ) (stage : Stage) (answer : ReadFault) → (k < length (lines text)) × (l ≡ get_or (lines text) k l) → n ≡ k + 1 → HasRead (take k (lines text)) stage → (f : IsFaulty stage n l answer) → IsFaultLine text n f.line
faulty text k n l stage answer turn number read f =
    HasRead-fault text k n stage l f.line read turn.0 (slice_get_read (lines text) (length (lines text)) k l refl turn.0 turn.1) f.lexed f.fault number

-- a fault at which reading stops is a fault of the text
pub fault_turn : (text : List ℕ) (k n : ℕ) (l : List ℕ) (stage : Stage) (answer : ReadFault) → IsUtf8 text → (k < length (lines text)) × (l ≡ get_or (lines text) k l) → n ≡ k + 1 → HasRead (take k (lines text)) stage → IsStep stage n l (Err answer) → HasReadFault text answer
fault_turn text k n l stage because.NotText utf8 turn number read step = absurd step
fault_turn text k n l stage (because.Syntax m) utf8 turn number read step =
    (utf8, (step.line, subst (λ (i : ℕ). IsFaultLine text i step.line) (sym step.cause.0) (faulty text k n l stage (because.Syntax m) turn number read step), step.cause.1, step.cause.2))
fault_turn text k n l stage (because.Outside m word) utf8 turn number read step =
    (utf8, (step.line, subst (λ (i : ℕ). IsFaultLine text i step.line) (sym step.cause.0) (faulty text k n l stage (because.Outside m word) turn number read step), step.cause.1, step.cause.2))
fault_turn text k n l stage (because.TooDeep m) utf8 turn number read step =
    (utf8, (step.line, subst (λ (i : ℕ). IsFaultLine text i step.line) (sym step.cause.0) (faulty text k n l stage (because.TooDeep m) turn number read step), step.cause.1))
fault_turn text k n l stage because.NoMemory utf8 turn number read step = tt

all_read : (text : List ℕ) (k : ℕ) (stage : Stage) → k ≡ length (lines text) → HasRead (take k (lines text)) stage → HasRead (lines text) stage
all_read text k stage size read =
    subst (λ (ls : List (List ℕ)). HasRead ls stage) (ap (λ (i : ℕ). take i (lines text)) size ∙ take-length (lines text)) read

-- if reading ends with a circuit, the text spells it
pub end_circuit : (text : List ℕ) (k n : ℕ) (stage : Stage) (result : Result CircuitTree ReadFault) → IsUtf8 text → k ≡ length (lines text) → HasRead (take k (lines text)) stage → Ends stage n result → IfOk result (λ c. Spells text c)
end_circuit text k n stage (Ok circuit) utf8 size read ends = HasRead-whole text stage circuit utf8 (all_read text k stage size read) ends.0 ends.1
end_circuit text k n stage (Err answer) utf8 size read ends = tt

pub end_faultless : (text : List ℕ) (k n : ℕ) (stage : Stage) (result : Result CircuitTree ReadFault) → k ≡ length (lines text) → HasRead (take k (lines text)) stage → Ends stage n result → IfOk result (λ c. HasNoFaultLine text)
end_faultless text k n stage (Ok circuit) size read ends = HasRead-faultless text stage (all_read text k stage size read) ends.0
end_faultless text k n stage (Err answer) size read ends = tt

-- if reading ends with a fault after the last line, it is a fault of the text
pub end_fault : (text : List ℕ) (k n : ℕ) (stage : Stage) (result : Result CircuitTree ReadFault) → IsUtf8 text → k ≡ length (lines text) → n ≡ k + 1 → HasRead (take k (lines text)) stage → Ends stage n result → IfErr result (λ f. HasReadFault text f)
end_fault text k n stage (Ok circuit) utf8 size number read ends = tt
end_fault text k n stage (Err because.NotText) utf8 size number read ends = absurd ends
end_fault text k n stage (Err (because.Syntax m)) utf8 size number read ends =
    (utf8, (record { tokens = []; bad = None }, HasRead-incomplete text m stage (all_read text k stage size read) ends.1 (omega (arith, ends.0, number, size)), empty_shallow, refl))
end_fault text k n stage (Err (because.Outside m word)) utf8 size number read ends = absurd ends
end_fault text k n stage (Err (because.TooDeep m)) utf8 size number read ends = absurd ends
end_fault text k n stage (Err because.NoMemory) utf8 size number read ends = absurd ends

-- for a text that spells a circuit and has no fault line there is no other answer, except `NoMemory`
pub only_circuit : (text : List ℕ) (result : Result CircuitTree ReadFault) → IfOk result (λ d. Spells text d) → IfErr result (λ f. HasReadFault text f) → (c : CircuitTree) → Spells text c → HasNoFaultLine text → MatchResult result (λ d. d ≡ c) (λ f. f ≡ because.NoMemory)
only_circuit text (Ok d) ok err c spells none = one_circuit-law text d c ok spells
only_circuit text (Err because.NotText) ok err c spells none = absurd (err spells.utf8)
only_circuit text (Err (because.Syntax m)) ok err c spells none = absurd (none m err.1.0 err.1.1)
only_circuit text (Err (because.Outside m word)) ok err c spells none = absurd (none m err.1.0 err.1.1)
only_circuit text (Err (because.TooDeep m)) ok err c spells none = absurd (none m err.1.0 err.1.1)
only_circuit text (Err because.NoMemory) ok err c spells none = refl

-- for a text with a fault line there is only this fault, or `NoMemory`
pub only_fault : (text : List ℕ) (result : Result CircuitTree ReadFault) → IfOk result (λ d. HasNoFaultLine text) → IfErr result (λ f. HasReadFault text f) → (n : ℕ) (line : LineTokens) → IsUtf8 text → IsFaultLine text n line → MatchResult result (λ d. ⊥) (λ f. IsFaultOf n line.tokens f)
only_fault text (Ok d) ok err n line utf8 fault = ok n line fault
only_fault text (Err because.NotText) ok err n line utf8 fault = absurd (err utf8)
only_fault text (Err (because.Syntax m)) ok err n line utf8 fault =
    let same = one_fault_line-law text m n err.1.0 line err.1.1 fault in
    subst (λ (l : LineTokens). IsFaultOf n l.tokens (because.Syntax m)) same.1 (same.0, err.1.2, err.1.3)
only_fault text (Err (because.Outside m word)) ok err n line utf8 fault =
    let same = one_fault_line-law text m n err.1.0 line err.1.1 fault in
    subst (λ (l : LineTokens). IsFaultOf n l.tokens (because.Outside m word)) same.1 (same.0, err.1.2, err.1.3)
only_fault text (Err (because.TooDeep m)) ok err n line utf8 fault =
    let same = one_fault_line-law text m n err.1.0 line err.1.1 fault in
    subst (λ (l : LineTokens). IsFaultOf n l.tokens (because.TooDeep m)) same.1 (same.0, err.1.2)
only_fault text (Err because.NoMemory) ok err n line utf8 fault = tt
