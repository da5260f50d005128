-- Lines that were read, with one more line.
use Rattle.std.proofs.Common.{◌≡◌, ℕ, zero, suc, ◌+◌, ◌<◌, inl, inr, List, [], ◌∷◌, ◌++◌, length, take, Some, None, refl, sym, ap, ◌∙◌, subst, arith}
use Rattle.std.proofs.lemmas.List.{length-take-le}
use Rattle.std.proofs.Math.Seq.{take-length}
use Rattle.std.specs.Prelude.{slice_get}
use Rattle.std.specs.Str.{IsUtf8}
use Rattle.std.specs.Str.Lines.{lines}
use Rattle.gg_lex.specs.Lines.{Lexes}
use Rattle.gg_lex.specs.declared.token.Tok.{Tok}
use Rattle.gg_ast.specs.Row.{Row, Numbered, numbered}
use Rattle.gg_ast.specs.Tree.{CircuitTree}
use Rattle.gg_read.specs.declared.stage.Stage.{Stage}
use Rattle.gg_read.specs.Text.{LinePlace, AtStart, LineTokens, AreLineTokens, AreRows, IsBlank, IsForm, IsAtFault, IsTooDeep, AreShallow, IsEndPlace, IsFaultLine, HasNoFaultLine, Spells}
use Rattle.gg_read.specs.inside.Stages.{stage_place, IsBuilt, Holds, HasRead}
use Rattle.gg_read.proofs.FaultLines.{no_fault_line}

-- rows, and the row of the next line
pub AreRows-row : (place : LinePlace) (n : ℕ) (before : List LineTokens) (rows : List Numbered) (mid : LinePlace) (line : LineTokens) (row : Row) (next : LinePlace) (m : ℕ) → AreRows place n before rows mid → IsForm mid line row next → m ≡ n + length before → AreRows place n (before ++ line ∷ []) (rows ++ numbered m row ∷ []) next
AreRows-row place n [] rows mid line row next m read form number =
    let e : m ≡ n = omega (arith, number) in
    inr (row, next, [], subst (λ (p : LinePlace). IsForm p line row next) read.1 form, ap (λ (r : List Numbered). r ++ numbered m row ∷ []) read.0 ∙ ap (λ (k : ℕ). numbered k row ∷ []) e, (refl, refl))
AreRows-row place n (l ∷ ls) rows mid line row next m (inl (blank, more)) form number =
    inl (blank, AreRows-row place (n + 1) ls rows mid line row next m more form (omega (arith, number)))
AreRows-row place n (l ∷ ls) rows mid line row next m (inr (r, p, others, first, same, more)) form number =
    inr (r, p, others ++ numbered m row ∷ [], first, ap (λ (q : List Numbered). q ++ numbered m row ∷ []) same, AreRows-row p (n + 1) ls others mid line row next m more form (omega (arith, number)))

-- rows, and then a blank line
pub AreRows-blank : (place : LinePlace) (n : ℕ) (before : List LineTokens) (rows : List Numbered) (mid : LinePlace) (line : LineTokens) → AreRows place n before rows mid → IsBlank line → AreRows place n (before ++ line ∷ []) rows mid
AreRows-blank place n [] rows mid line read blank = inl (blank, read)
AreRows-blank place n (l ∷ ls) rows mid line (inl (first, more)) blank = inl (first, AreRows-blank place (n + 1) ls rows mid line more blank)
AreRows-blank place n (l ∷ ls) rows mid line (inr (r, p, others, first, same, more)) blank =
    inr (r, p, others, first, same, AreRows-blank p (n + 1) ls others mid line more blank)

-- lines of which none is too deep, and one more that isn't
AreShallow-more : (before : List LineTokens) (line : LineTokens) → AreShallow before → (IsTooDeep line.tokens → ⊥) → AreShallow (before ++ line ∷ [])
AreShallow-more [] line shallow not = (not, tt)
AreShallow-more (l ∷ ls) line shallow not = (shallow.0, AreShallow-more ls line shallow.1 not)

-- a line without tokens is not too deep
pub empty_shallow : IsTooDeep [] → ⊥
empty_shallow (zero, deep) = omega (arith, deep)
empty_shallow (suc k, deep) = omega (arith, deep)

blank_shallow : (line : LineTokens) → IsBlank line → IsTooDeep line.tokens → ⊥
blank_shallow line blank deep = empty_shallow (subst (λ (ts : List Tok). IsTooDeep ts) blank.0 deep)

AreLineTokens-more : (ls : List (List ℕ)) (held : List LineTokens) (l : List ℕ) (line : LineTokens) → AreLineTokens ls held → Lexes l line.tokens line.bad → AreLineTokens (ls ++ l ∷ []) (held ++ line ∷ [])
AreLineTokens-more [] [] l line tokens lexed = (lexed, tt)
AreLineTokens-more [] (t ∷ ts) l line tokens lexed = absurd tokens
AreLineTokens-more (k ∷ ks) [] l line tokens lexed = absurd tokens
AreLineTokens-more (k ∷ ks) (t ∷ ts) l line tokens lexed = (tokens.0, AreLineTokens-more ks ts l line tokens.1 lexed)

pub AreLineTokens-length : (ls : List (List ℕ)) (held : List LineTokens) → AreLineTokens ls held → length ls ≡ length held
AreLineTokens-length [] [] tokens = refl
AreLineTokens-length [] (t ∷ ts) tokens = absurd tokens
AreLineTokens-length (k ∷ ks) [] tokens = absurd tokens
AreLineTokens-length (k ∷ ks) (t ∷ ts) tokens = ap suc (AreLineTokens-length ks ts tokens.1)

-- the next line is a row that is valid at its position
pub HasRead-row : (ls : List (List ℕ)) (stage next : Stage) (l : List ℕ) (line : LineTokens) (row : Row) (m : ℕ) → HasRead ls stage → Lexes l line.tokens line.bad → IsForm (stage_place stage) line row (stage_place next) → (IsTooDeep line.tokens → ⊥) → ((before : List Numbered) → IsBuilt stage before → IsBuilt next (before ++ numbered m row ∷ [])) → m ≡ length ls + 1 → HasRead (ls ++ l ∷ []) next
HasRead-row ls stage next l line row m read lexed form not built number =
    record {
      held = read.held ++ line ∷ [];
      tokens = AreLineTokens-more ls read.held l line read.tokens lexed;
      rows = read.rows ++ numbered m row ∷ [];
      read = AreRows-row AtStart 1 read.held read.rows (stage_place stage) line row (stage_place next) m read.read form (omega (arith, number, AreLineTokens-length ls read.held read.tokens));
      shallow = AreShallow-more read.held line read.shallow not;
      built = built read.rows read.built;
    }

-- the next line is blank
pub HasRead-blank : (ls : List (List ℕ)) (stage : Stage) (l : List ℕ) (line : LineTokens) → HasRead ls stage → Lexes l line.tokens line.bad → IsBlank line → HasRead (ls ++ l ∷ []) stage
HasRead-blank ls stage l line read lexed blank =
    record {
      held = read.held ++ line ∷ [];
      tokens = AreLineTokens-more ls read.held l line read.tokens lexed;
      rows = read.rows;
      read = AreRows-blank AtStart 1 read.held read.rows (stage_place stage) line read.read blank;
      shallow = AreShallow-more read.held line read.shallow (blank_shallow line blank);
      built = read.built;
    }

-- the next line is at fault
pub HasRead-fault : (text : List ℕ) (k n : ℕ) (stage : Stage) (l : List ℕ) (line : LineTokens) → HasRead (take k (lines text)) stage → k < length (lines text) → slice_get (lines text) k ≡ Some l → Lexes l line.tokens line.bad → IsAtFault (stage_place stage) line → n ≡ k + 1 → IsFaultLine text n line
HasRead-fault text k n stage l line read within there lexed fault number =
    let size : length read.held ≡ k = sym (AreLineTokens-length (take k (lines text)) read.held read.tokens) ∙ length-take-le k (lines text) (omega (arith, within)) in
    record {
      before = read.held;
      tokens = subst (λ (i : ℕ). AreLineTokens (take i (lines text)) read.held) (sym size) read.tokens;
      rows = read.rows;
      place = stage_place stage;
      read = read.read;
      shallow = read.shallow;
      number = omega (arith, number, size);
      fault = inl (l, subst (λ (i : ℕ). slice_get (lines text) i ≡ Some l) (sym size) there, lexed, fault);
    }

all_tokens : (text : List ℕ) (held : List LineTokens) → AreLineTokens (lines text) held → AreLineTokens (take (length held) (lines text)) held
all_tokens text held tokens =
    subst (λ (i : ℕ). AreLineTokens (take i (lines text)) held) (AreLineTokens-length (lines text) held tokens) (subst (λ (ls : List (List ℕ)). AreLineTokens ls held) (sym (take-length (lines text))) tokens)

-- no line is at fault, but the text may not end after the last one
pub HasRead-incomplete : (text : List ℕ) (n : ℕ) (stage : Stage) → HasRead (lines text) stage → (IsEndPlace (stage_place stage) → ⊥) → n ≡ length (lines text) + 1 → IsFaultLine text n (record { tokens = []; bad = None })
HasRead-incomplete text n stage read no_end number =
    let size : length (lines text) ≡ length read.held = AreLineTokens-length (lines text) read.held read.tokens in
    record {
      before = read.held;
      tokens = all_tokens text read.held read.tokens;
      rows = read.rows;
      place = stage_place stage;
      read = read.read;
      shallow = read.shallow;
      number = omega (arith, number, size);
      fault = inr (size, refl, no_end);
    }

-- all lines were read, and the text may end there: it spells the circuit
pub HasRead-whole : (text : List ℕ) (stage : Stage) (circuit : CircuitTree) → IsUtf8 text → HasRead (lines text) stage → IsEndPlace (stage_place stage) → Holds stage circuit → Spells text circuit
HasRead-whole text stage circuit utf8 read end holds =
    record {
      utf8 = utf8;
      held = read.held;
      tokens = read.tokens;
      last = stage_place stage;
      rows = read.rows;
      read = read.read;
      whole = end;
      circuit_rows = holds read.rows read.built;
    }

pub HasRead-faultless : (text : List ℕ) (stage : Stage) → HasRead (lines text) stage → IsEndPlace (stage_place stage) → HasNoFaultLine text
HasRead-faultless text stage read end = no_fault_line text read.held read.rows (stage_place stage) read.tokens read.read end read.shallow
