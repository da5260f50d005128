-- A text spells one circuit at most, and has one fault line at most; where it has both, the line is too deep.
use Rattle.std.proofs.Common.{◌≡◌, ℕ, zero, suc, ◌+◌, ◌<◌, ◌≤◌, ◌⊎◌, inl, inr, List, [], ◌∷◌, length, take, Option, Some, None, refl, sym, ap, ◌∙◌, subst, arith}
use Rattle.std.specs.Prelude.{slice_get}
use Rattle.std.specs.Str.Lines.{lines}
use Rattle.std.proofs.lemmas.Option.{same_Some, slice_get_within}
use Rattle.gg_lex.specs.declared.token.Tok.{Tok}
use Rattle.gg_lex.specs.Lines.{Lexes}
use Rattle.gg_lex.proofs.Readings.{Lexes-same}
use Rattle.gg_ast.specs.Row.{Row, Numbered, numbered}
use Rattle.gg_ast.specs.Tree.{CircuitTree}
use Rattle.gg_ast.proofs.TreeOf.{one_tree-law}
use Rattle.gg_read_row.specs.inside.Reading.{row_at}
use Rattle.gg_read_row.specs.Forms.{SpellsRow}
use Rattle.gg_read.specs.Text.{LinePlace, AtStart, LineTokens, AreLineTokens, AreRows, IsBlank, IsForm, IsNoForm, IsAtFault, IsTooDeep, AreShallow, IsEndPlace, IsFaultLine, HasNoFaultLine, Spells, place_after, without_version}
use Rattle.gg_read_row.proofs.RowLaws.{spelt-row_at, row_at-nothing}

-- the tokens of a line spell one row at most
pub same_row : (ts : List Tok) (r s : Row) → SpellsRow r ts → SpellsRow s ts → r ≡ s
same_row ts r s spelt again = same_Some r s (sym (spelt-row_at ts r spelt) ∙ spelt-row_at ts s again)

-- a blank line is no row
pub blank_no_row : (line : LineTokens) (row : Row) → IsBlank line → SpellsRow row line.tokens → ⊥
blank_no_row line row blank spelt =
    let found : row_at [] ≡ Some row = subst (λ (ts : List Tok). row_at ts ≡ Some row) blank.0 (spelt-row_at line.tokens row spelt) in
    let nothing = row_at-nothing in
    cc

-- a row at a position has one next position at most
same_next : (place : LinePlace) (line : LineTokens) (r s : Row) (p q : LinePlace) → IsForm place line r p → IsForm place line s q → p ≡ q
same_next place line r s p q form again =
    let row : r ≡ s = same_row line.tokens r s form.spelt again.spelt in
    same_Some p q (sym form.there ∙ ap (λ (x : Row). place_after place x) row ∙ again.there)

-- lines are read as rows in one way at most
AreRows-same : (place : LinePlace) (n : ℕ) (held : List LineTokens) (rows others : List Numbered) (last final : LinePlace) → AreRows place n held rows last → AreRows place n held others final → (rows ≡ others) × (last ≡ final)
AreRows-same place n [] rows others last final read again = (read.0 ∙ sym again.0, read.1 ∙ sym again.1)
AreRows-same place n (l ∷ ls) rows others last final (inl (blank, more)) (inl (again, rest)) = AreRows-same place (n + 1) ls rows others last final more rest
AreRows-same place n (l ∷ ls) rows others last final (inl (blank, more)) (inr (s, q, ss, form, same, rest)) = absurd (blank_no_row l s blank form.spelt)
AreRows-same place n (l ∷ ls) rows others last final (inr (r, p, rs, form, same, more)) (inl (blank, rest)) = absurd (blank_no_row l r blank form.spelt)
AreRows-same place n (l ∷ ls) rows others last final (inr (r, p, rs, form, same, more)) (inr (s, q, ss, second, equal, rest)) =
    let row : r ≡ s = same_row l.tokens r s form.spelt second.spelt in
    let next : p ≡ q = same_next place l r s p q form second in
    let tails = AreRows-same q (n + 1) ls rs ss last final (subst (λ (x : LinePlace). AreRows x (n + 1) ls rs last) next more) rest in
    (same ∙ ap (λ (x : Row). numbered n x ∷ rs) row ∙ ap (λ (x : List Numbered). numbered n s ∷ x) tails.0 ∙ sym equal, tails.1)

line_tokens : List Tok → Option ℕ → LineTokens
line_tokens ts bad = record { tokens = ts; bad = bad }

same_line : (l : List ℕ) (t u : LineTokens) → Lexes l t.tokens t.bad → Lexes l u.tokens u.bad → t ≡ u
unfolding line_tokens
same_line l t u lexed again =
    let same = Lexes-same l t.tokens u.tokens t.bad u.bad lexed again in
    let e : line_tokens t.tokens t.bad ≡ line_tokens u.tokens u.bad = ap (λ (ts : List Tok). line_tokens ts t.bad) same.0 ∙ ap (λ (b : Option ℕ). line_tokens u.tokens b) same.1 in
    e

pub AreLineTokens-same : (ls : List (List ℕ)) (held others : List LineTokens) → AreLineTokens ls held → AreLineTokens ls others → held ≡ others
AreLineTokens-same [] [] [] tokens again = refl
AreLineTokens-same [] [] (u ∷ us) tokens again = absurd again
AreLineTokens-same [] (t ∷ ts) others tokens again = absurd tokens
AreLineTokens-same (l ∷ ls) [] others tokens again = absurd tokens
AreLineTokens-same (l ∷ ls) (t ∷ ts) [] tokens again = absurd again
AreLineTokens-same (l ∷ ls) (t ∷ ts) (u ∷ us) tokens again =
    ap (λ (x : LineTokens). x ∷ ts) (same_line l t u tokens.0 again.0) ∙ ap (λ (x : List LineTokens). u ∷ x) (AreLineTokens-same ls ts us tokens.1 again.1)

-- a line that has no form of its position isn't among lines that are rows
among_rows : (place : LinePlace) (n : ℕ) (ls : List (List ℕ)) (before held : List LineTokens) (rows others : List Numbered) (mid last : LinePlace) (l : List ℕ) (line : LineTokens) → AreLineTokens (take (length before) ls) before → AreLineTokens (take (length held) ls) held → length before < length held → AreRows place n before rows mid → AreRows place n held others last → slice_get ls (length before) ≡ Some l → Lexes l line.tokens line.bad → IsNoForm mid line → ⊥
among_rows place n ls before [] rows others mid last l line tokens again less read other there lexed none = omega (arith, less)
among_rows place n [] before (h ∷ hs) rows others mid last l line tokens again less read other there lexed none = absurd again
among_rows place n (k ∷ ks) [] (h ∷ hs) rows others mid last l line tokens again less read (inl (blank, more)) there lexed none =
    let same : k ≡ l = same_Some k l there in
    let equal : h ≡ line = same_line k h line again.0 (subst (λ (x : List ℕ). Lexes x line.tokens line.bad) (sym same) lexed) in
    none.0 (subst (λ (x : LineTokens). IsBlank x) equal blank)
among_rows place n (k ∷ ks) [] (h ∷ hs) rows others mid last l line tokens again less read (inr (r, p, rs, form, same_rows, more)) there lexed none =
    let same : k ≡ l = same_Some k l there in
    let equal : h ≡ line = same_line k h line again.0 (subst (λ (x : List ℕ). Lexes x line.tokens line.bad) (sym same) lexed) in
    none.1 r p (subst (λ (x : LineTokens). IsForm mid x r p) equal (subst (λ (x : LinePlace). IsForm x h r p) (sym read.1) form))
among_rows place n (k ∷ ks) (b ∷ bs) (h ∷ hs) rows others mid last l line tokens again less (inl (blank, more)) (inl (blank_too, rest)) there lexed none =
    among_rows place (n + 1) ks bs hs rows others mid last l line tokens.1 again.1 (omega (arith, less)) more rest there lexed none
among_rows place n (k ∷ ks) (b ∷ bs) (h ∷ hs) rows others mid last l line tokens again less (inl (blank, more)) (inr (s, q, ss, form, same, rest)) there lexed none =
    let equal : b ≡ h = same_line k b h tokens.0 again.0 in
    blank_no_row h s (subst (λ (x : LineTokens). IsBlank x) equal blank) form.spelt
among_rows place n (k ∷ ks) (b ∷ bs) (h ∷ hs) rows others mid last l line tokens again less (inr (r, p, rs, form, same, more)) (inl (blank, rest)) there lexed none =
    let equal : b ≡ h = same_line k b h tokens.0 again.0 in
    blank_no_row b r (subst (λ (x : LineTokens). IsBlank x) (sym equal) blank) form.spelt
among_rows place n (k ∷ ks) (b ∷ bs) (h ∷ hs) rows others mid last l line tokens again less (inr (r, p, rs, form, same, more)) (inr (s, q, ss, second, same_too, rest)) there lexed none =
    let equal : b ≡ h = same_line k b h tokens.0 again.0 in
    let next : p ≡ q = same_next place h r s p q (subst (λ (x : LineTokens). IsForm place x r p) equal form) second in
    among_rows q (n + 1) ks bs hs rs ss mid last l line tokens.1 again.1 (omega (arith, less)) (subst (λ (x : LinePlace). AreRows x (n + 1) bs rs mid) next more) rest there lexed none

-- a line that is too deep is not among lines of which none is
deep_among : (ls : List (List ℕ)) (held : List LineTokens) (i : ℕ) (l : List ℕ) (line : LineTokens) → AreLineTokens (take (length held) ls) held → AreShallow held → i < length held → slice_get ls i ≡ Some l → Lexes l line.tokens line.bad → IsTooDeep line.tokens → ⊥
deep_among ls [] i l line tokens shallow less there lexed deep = omega (arith, less)
deep_among [] (h ∷ hs) i l line tokens shallow less there lexed deep = absurd tokens
deep_among (k ∷ ks) (h ∷ hs) zero l line tokens shallow less there lexed deep =
    let same : k ≡ l = same_Some k l there in
    let equal : h ≡ line = same_line k h line tokens.0 (subst (λ (x : List ℕ). Lexes x line.tokens line.bad) (sym same) lexed) in
    shallow.0 (subst (λ (x : LineTokens). IsTooDeep x.tokens) (sym equal) deep)
deep_among (k ∷ ks) (h ∷ hs) (suc i) l line tokens shallow less there lexed deep =
    deep_among ks hs i l line tokens.1 shallow.1 (omega (arith, less)) there lexed deep

-- no more lines were read than the text has
within : (ls : List (List ℕ)) (held : List LineTokens) → AreLineTokens (take (length held) ls) held → length held ≤ length ls
within ls [] tokens = omega arith
within [] (t ∷ ts) tokens = absurd tokens
within (l ∷ ls) (t ∷ ts) tokens = omega (arith, within ls ts tokens.1)

-- no fault line comes before another
no_earlier : (text : List ℕ) (n m : ℕ) (line other : LineTokens) (a : IsFaultLine text n line) (b : IsFaultLine text m other) → length a.before < length b.before → ⊥
no_earlier text n m line other a b less = by_fault a.fault
  where
    by_fault : ((l : List ℕ) × (slice_get (lines text) (length a.before) ≡ Some l) × Lexes l line.tokens line.bad × IsAtFault a.place line)
        ⊎ ((length (lines text) ≡ length a.before) × (line ≡ record { tokens = []; bad = None }) × (IsEndPlace a.place → ⊥)) → ⊥
    by_fault (inl (l, there, lexed, inl deep)) = deep_among (lines text) b.before (length a.before) l line b.tokens b.shallow less there lexed deep
    by_fault (inl (l, there, lexed, inr none)) =
        among_rows AtStart 1 (lines text) a.before b.before a.rows b.rows a.place b.place l line a.tokens b.tokens less a.read b.read there lexed none
    by_fault (inr (end, empty, incomplete)) = omega (arith, end, less, within (lines text) b.before b.tokens)

same_size : (text : List ℕ) (n m : ℕ) (line other : LineTokens) (a : IsFaultLine text n line) (b : IsFaultLine text m other) → length a.before ≡ length b.before
same_size text n m line other a b =
    let first : length a.before < length b.before → ⊥ = no_earlier text n m line other a b in
    let second : length b.before < length a.before → ⊥ = no_earlier text m n other line b a in
    grind (arith, first, second)

-- a text has one fault line at most
pub one_fault_line-law : (text : List ℕ) (n m : ℕ) (line other : LineTokens) → IsFaultLine text n line → IsFaultLine text m other → (n ≡ m) × (line ≡ other)
one_fault_line-law text n m line other a b = (omega (arith, a.number, b.number, size), by_faults a.fault b.fault)
  where
    size : length a.before ≡ length b.before
    size = same_size text n m line other a b

    by_faults : ((l : List ℕ) × (slice_get (lines text) (length a.before) ≡ Some l) × Lexes l line.tokens line.bad × IsAtFault a.place line)
        ⊎ ((length (lines text) ≡ length a.before) × (line ≡ record { tokens = []; bad = None }) × (IsEndPlace a.place → ⊥))
        → ((l : List ℕ) × (slice_get (lines text) (length b.before) ≡ Some l) × Lexes l other.tokens other.bad × IsAtFault b.place other)
        ⊎ ((length (lines text) ≡ length b.before) × (other ≡ record { tokens = []; bad = None }) × (IsEndPlace b.place → ⊥)) → line ≡ other
    by_faults (inl (l, there, lexed, none)) (inl (k, here, again, none_too)) =
        let same : l ≡ k = same_Some l k (sym there ∙ ap (λ (i : ℕ). slice_get (lines text) i) size ∙ here) in
        same_line k line other (subst (λ (x : List ℕ). Lexes x line.tokens line.bad) same lexed) again
    by_faults (inl (l, there, lexed, none)) (inr (end, empty, incomplete)) =
        absurd (omega (arith, end, size, slice_get_within (lines text) (length a.before) l there))
    by_faults (inr (end, empty, incomplete)) (inl (k, here, again, none)) =
        absurd (omega (arith, end, size, slice_get_within (lines text) (length b.before) k here))
    by_faults (inr (end, empty, incomplete)) (inr (end_too, empty_too, incomplete_too)) = empty ∙ sym empty_too

lines_held : (ls : List (List ℕ)) (held : List LineTokens) → AreLineTokens ls held → (length ls ≡ length held) × AreLineTokens (take (length held) ls) held
lines_held [] [] tokens = (refl, tt)
lines_held [] (t ∷ ts) tokens = absurd tokens
lines_held (l ∷ ls) [] tokens = absurd tokens
lines_held (l ∷ ls) (t ∷ ts) tokens = let more = lines_held ls ts tokens.1 in (ap suc more.0, (tokens.0, more.1))

-- line i of the text, counted from 0, is too deep
record IsDeepThere (text : List ℕ) (i : ℕ) (line : LineTokens) : Type 0 where
  pub deep : IsTooDeep line.tokens
  pub l : List ℕ
  pub there : slice_get (lines text) i ≡ Some l
  pub lexed : Lexes l line.tokens line.bad

-- if all lines are rows and the text may end after them, a fault line is too deep
deep_there : (text : List ℕ) (n : ℕ) (line : LineTokens) (held : List LineTokens) (rows : List Numbered) (last : LinePlace) (a : IsFaultLine text n line) → AreLineTokens (lines text) held → AreRows AtStart 1 held rows last → IsEndPlace last → IsDeepThere text (length a.before) line
deep_there text n line held rows last a tokens read end_place = by_fault a.fault
  where
    whole : (length (lines text) ≡ length held) × AreLineTokens (take (length held) (lines text)) held
    whole = lines_held (lines text) held tokens

    by_fault : ((l : List ℕ) × (slice_get (lines text) (length a.before) ≡ Some l) × Lexes l line.tokens line.bad × IsAtFault a.place line)
        ⊎ ((length (lines text) ≡ length a.before) × (line ≡ record { tokens = []; bad = None }) × (IsEndPlace a.place → ⊥)) → IsDeepThere text (length a.before) line
    by_fault (inl (l, there, lexed, inl deep)) = record { deep = deep; l = l; there = there; lexed = lexed }
    by_fault (inl (l, there, lexed, inr none)) =
        absurd (among_rows AtStart 1 (lines text) a.before held a.rows rows a.place last l line a.tokens whole.1 (omega (arith, whole.0, slice_get_within (lines text) (length a.before) l there)) a.read read there lexed none)
    by_fault (inr (end, empty, incomplete)) =
        let size : length a.before ≡ length held = sym end ∙ whole.0 in
        let same : a.before ≡ held = AreLineTokens-same (take (length held) (lines text)) a.before held (subst (λ (i : ℕ). AreLineTokens (take i (lines text)) a.before) size a.tokens) whole.1 in
        let both = AreRows-same AtStart 1 held a.rows rows a.place last (subst (λ (h : List LineTokens). AreRows AtStart 1 h a.rows a.place) same a.read) read in
        absurd (incomplete (subst (λ (p : LinePlace). IsEndPlace p) (sym both.1) end_place))

-- the fault line of a text that spells a circuit is too deep
pub spelt_but_too_deep-law : (text : List ℕ) (n : ℕ) (line : LineTokens) (circuit : CircuitTree) → Spells text circuit → IsFaultLine text n line → IsTooDeep line.tokens
spelt_but_too_deep-law text n line circuit spells a =
    let found = deep_there text n line spells.held spells.rows spells.last a spells.tokens spells.read spells.whole in
    found.deep

-- if all lines are rows, none is too deep and the text may end after them, no line is at fault
pub no_fault_line : (text : List ℕ) (held : List LineTokens) (rows : List Numbered) (last : LinePlace) → AreLineTokens (lines text) held → AreRows AtStart 1 held rows last → IsEndPlace last → AreShallow held → HasNoFaultLine text
no_fault_line text held rows last tokens read end_place shallow = λ n line a.
    let whole = lines_held (lines text) held tokens in
    let found = deep_there text n line held rows last a tokens read end_place in
    deep_among (lines text) held (length a.before) found.l line whole.1 shallow (omega (arith, whole.0, slice_get_within (lines text) (length a.before) found.l found.there)) found.there found.lexed found.deep

-- a text spells one circuit at most
pub one_circuit-law : (text : List ℕ) (c d : CircuitTree) → Spells text c → Spells text d → c ≡ d
one_circuit-law text c d a b =
    let held : a.held ≡ b.held = AreLineTokens-same (lines text) a.held b.held a.tokens b.tokens in
    let rows = AreRows-same AtStart 1 b.held a.rows b.rows a.last b.last (subst (λ (h : List LineTokens). AreRows AtStart 1 h a.rows a.last) held a.read) b.read in
    one_tree-law c d (sym a.circuit_rows ∙ ap (λ (r : List Numbered). without_version r) rows.0 ∙ b.circuit_rows)
