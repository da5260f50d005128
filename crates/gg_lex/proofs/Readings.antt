-- A line is read in one way at most.
use Rattle.std.proofs.Common.{◌≡◌, ℕ, zero, suc, ◌≤◌, ◌⊎◌, cond, eqb, List, [], ◌∷◌, ◌++◌, length, get_or, take, drop, Option, Some, None, sym, ap, ◌∙◌, subst, inl, inr, ⊎_elim, refl, arith, length-drop}
use Rattle.std.specs.Prelude.{slice_get}
use Rattle.std.specs.List.{prefix_len}
use Rattle.std.proofs.lemmas.Bool.{both_ways}
use Rattle.std.proofs.lemmas.List.{take_all}
use Rattle.gg_lex.specs.Bytes.{is_blank, starts_word}
use Rattle.gg_lex.specs.inside.Bytes.{begins_number}
use Rattle.gg_lex.specs.Tokens.{IsToken, IsFirst, BeginsNoToken, spelling, token_of}
use Rattle.gg_lex.specs.Lines.{after_blanks, IsComment, IsEnd, Begins, Lexes}
use Rattle.gg_lex.specs.inside.NextToken.{EndsOrFails}
use Rattle.gg_lex.specs.declared.token.Tok.{Tok}
use Rattle.gg_lex.specs.declared.token.TokenKind.{TokenKind}
use Rattle.gg_lex.specs.declared.token.TokenKind.TheVariants as kinds
use Rattle.gg_lex.specs.declared.token.Symbol.{Symbol}
use Rattle.gg_lex.specs.declared.token.Symbol.TheVariants.{Connect, Arrow, PartialConnect, Colon, Comma, Dot, OpenParen, CloseParen, Less, Greater, Equals, OpenBracket, CloseBracket, OpenBrace, CloseBrace, OpenAnnotations}
use Rattle.gg_lex.proofs.Leads.{Leads, leads, only_word, only_number, only_text, no_empty}

-- the symbol with these first two bytes
pub symbol_from : ℕ → ℕ → Symbol
symbol_from a b =
    cond (eqb a 60) (cond (eqb b 61) Connect (cond (eqb b 45) PartialConnect Less))
    (cond (eqb a 61) (cond (eqb b 62) Arrow Equals)
    (cond (eqb a 58) Colon (cond (eqb a 44) Comma (cond (eqb a 46) Dot
    (cond (eqb a 40) OpenParen (cond (eqb a 41) CloseParen (cond (eqb a 62) Greater
    (cond (eqb a 91) OpenBracket (cond (eqb a 93) CloseBracket (cond (eqb a 123) OpenBrace (cond (eqb a 125) CloseBrace OpenAnnotations)))))))))))

pub symbol_back : (s : Symbol) → symbol_from (get_or (spelling s) 0 0) (get_or (spelling s) 1 0) ≡ s
unfolding symbol_from
symbol_back Connect = refl
symbol_back _ = refl

same_symbol : (s u : Symbol) → spelling s ≡ spelling u → s ≡ u
same_symbol s u same =
    sym (symbol_back s) ∙ ap (λ (l : List ℕ). symbol_from (get_or l 0 0) (get_or l 1 0)) same ∙ symbol_back u

-- bytes are a token of one kind at most
same_kind-cons : (kind other : TokenKind) (b : ℕ) (bs : List ℕ) → IsToken kind (b ∷ bs) → IsToken other (b ∷ bs) → kind ≡ other
same_kind-cons kinds.Word other b bs token again = sym (only_word b (leads kinds.Word b bs token) other (leads other b bs again))
same_kind-cons kinds.Number other b bs token again = sym (only_number b (leads kinds.Number b bs token) other (leads other b bs again))
same_kind-cons kinds.Text other b bs token again = sym (only_text b (leads kinds.Text b bs token) other (leads other b bs again))
same_kind-cons (kinds.Symbol s) kinds.Word b bs token again = only_word b (leads kinds.Word b bs again) (kinds.Symbol s) (leads (kinds.Symbol s) b bs token)
same_kind-cons (kinds.Symbol s) kinds.Number b bs token again = only_number b (leads kinds.Number b bs again) (kinds.Symbol s) (leads (kinds.Symbol s) b bs token)
same_kind-cons (kinds.Symbol s) kinds.Text b bs token again = only_text b (leads kinds.Text b bs again) (kinds.Symbol s) (leads (kinds.Symbol s) b bs token)
same_kind-cons (kinds.Symbol s) (kinds.Symbol u) b bs token again = ap (λ (x : Symbol). kinds.Symbol x) (same_symbol s u (sym token ∙ again))

same_kind : (kind other : TokenKind) (bs : List ℕ) → IsToken kind bs → IsToken other bs → kind ≡ other
same_kind kind other [] token again = absurd (no_empty kind token)
same_kind kind other (b ∷ bs) token again = same_kind-cons kind other b bs token again

same_size : (kind other : TokenKind) (bs : List ℕ) (n m : ℕ) → IsFirst kind bs n → IsFirst other bs m → n ≡ m
same_size kind other bs n m first again =
    omega (arith, first.longest other m again.within again.token, again.longest kind n first.within first.token)

-- no token begins at `;` or `@`
no_lead : (b : ℕ) → (b ≡ 59) ⊎ (b ≡ 64) → (kind : TokenKind) → Leads kind b → ⊥
no_lead b which kinds.Word lead = both_ways (starts_word b) (⊎_elim (λ e. ap starts_word e) (λ e. ap starts_word e) which) lead
no_lead b which kinds.Number lead = both_ways (begins_number b) (⊎_elim (λ e. ap begins_number e) (λ e. ap begins_number e) which) lead
no_lead b which kinds.Text lead = ⊎_elim (λ e. omega (arith, e, lead)) (λ e. omega (arith, e, lead)) which
no_lead b which (kinds.Symbol s) lead = no_symbol s (⊎_elim (λ e. inl (lead ∙ e)) (λ e. inr (lead ∙ e)) which)
  where
    no_symbol : (s : Symbol) → (get_or (spelling s) 0 0 ≡ 59) ⊎ (get_or (spelling s) 0 0 ≡ 64) → ⊥
    no_symbol Connect e = ⊎_elim (λ x. omega (arith, x)) (λ x. omega (arith, x)) e
    no_symbol _ e = ⊎_elim (λ x. omega (arith, x)) (λ x. omega (arith, x)) e

no_token_at : (b : ℕ) (bs : List ℕ) → (b ≡ 59) ⊎ (b ≡ 64) → BeginsNoToken (b ∷ bs)
no_token_at b bs which kind zero within token = no_empty kind token
no_token_at b bs which kind (suc n) within token = no_lead b which kind (leads kind b (take n bs) token)

no_token_in_comment : (bs : List ℕ) → IsComment bs → BeginsNoToken bs
no_token_in_comment [] comment = λ kind n within token. no_empty kind (subst (IsToken kind) (take_all n [] (omega arith)) token)
no_token_in_comment (b ∷ bs) comment = no_token_at b bs (inl comment)

no_token_in_info : (bs : List ℕ) → slice_get bs 0 ≡ Some 64 → BeginsNoToken bs
no_token_in_info [] opens = cc
no_token_in_info (b ∷ bs) opens =
    let e : b ≡ 64 = cc in
    no_token_at b bs (inr e)

-- where a line may end, no token begins
no_token_at_end : (rest : List ℕ) → IsEnd rest → BeginsNoToken (after_blanks rest)
no_token_at_end rest (zero, comment) = no_token_in_comment (after_blanks rest) comment
no_token_at_end rest (suc infos, (n, info, end)) = no_token_in_info (after_blanks rest) info.opens.0

-- a line has only one list of tokens up to where none begins, and only one rest
Begins-same : (ts us : List Tok) (line r s : List ℕ) → Begins ts line r → BeginsNoToken (after_blanks r) → Begins us line s → BeginsNoToken (after_blanks s) → (ts ≡ us) × (r ≡ s)
Begins-same [] [] line r s begins stop again stop_again = (refl, begins ∙ sym again)
Begins-same [] (u ∷ us) line r s begins stop (kind, n, first, u_is, again) stop_again =
    absurd (stop kind n (subst (λ (l : List ℕ). n ≤ length (after_blanks l)) (sym begins) first.within) (subst (λ (l : List ℕ). IsToken kind (take n (after_blanks l))) (sym begins) first.token))
Begins-same (t ∷ ts) [] line r s (kind, n, first, t_is, begins) stop again stop_again =
    absurd (stop_again kind n (subst (λ (l : List ℕ). n ≤ length (after_blanks l)) (sym again) first.within) (subst (λ (l : List ℕ). IsToken kind (take n (after_blanks l))) (sym again) first.token))
Begins-same (t ∷ ts) (u ∷ us) line r s (kind, n, first, t_is, begins) stop (other, m, second, u_is, again) stop_again =
    let size : m ≡ n = same_size other kind (after_blanks line) m n second first in
    let token : IsToken other (take n (after_blanks line)) = subst (λ (k : ℕ). IsToken other (take k (after_blanks line))) size second.token in
    let kinds_same : kind ≡ other = same_kind kind other (take n (after_blanks line)) first.token token in
    let heads : t ≡ u = t_is ∙ ap (λ (k : TokenKind). token_of k (take n (after_blanks line))) kinds_same ∙ ap (λ (k : ℕ). token_of other (take k (after_blanks line))) (sym size) ∙ sym u_is in
    let tails = Begins-same ts us (drop n (after_blanks line)) r s begins stop (subst (λ (k : ℕ). Begins us (drop k (after_blanks line)) s) size again) stop_again in
    (cc (heads, tails.0), tails.1)

pub Lexes-same : (line : List ℕ) (ts us : List Tok) (bad other : Option ℕ) → Lexes line ts bad → Lexes line us other → (ts ≡ us) × (bad ≡ other)
Lexes-same line ts us None None read again =
    ((Begins-same ts us line read.rest again.rest read.before (no_token_at_end _ read.end) again.before (no_token_at_end _ again.end)).0, refl)
Lexes-same line ts us None (Some place) read again =
    let same = Begins-same ts us line read.rest again.rest read.before (no_token_at_end _ read.end) again.before again.no_token in
    absurd (again.no_end (subst IsEnd same.1 read.end))
Lexes-same line ts us (Some place) None read again =
    let same = Begins-same ts us line read.rest again.rest read.before read.no_token again.before (no_token_at_end _ again.end) in
    absurd (read.no_end (subst IsEnd (sym same.1) again.end))
Lexes-same line ts us (Some place) (Some other) read again =
    let same = Begins-same ts us line read.rest again.rest read.before read.no_token again.before again.no_token in
    let places : place ≡ other = omega (arith, read.there, again.there, ap (λ (l : List ℕ). length (after_blanks l)) same.1) in
    (same.0, ap (λ (p : ℕ). Some p) places)

-- one more token after those that were read
pub Begins-step : (ts : List Tok) (t : Tok) (line mid rest : List ℕ) (kind : TokenKind) (n : ℕ) → Begins ts line mid → IsFirst kind (after_blanks mid) n → t ≡ token_of kind (take n (after_blanks mid)) → rest ≡ drop n (after_blanks mid) → Begins (ts ++ t ∷ []) line rest
Begins-step [] t line mid rest kind n before first t_is rest_is =
    subst (λ (l : List ℕ). Begins (t ∷ []) l rest) before (kind, n, first, t_is, rest_is)
Begins-step (u ∷ us) t line mid rest kind n (other, m, second, u_is, before) first t_is rest_is =
    (other, m, second, u_is, Begins-step us t (drop m (after_blanks line)) mid rest kind n before first t_is rest_is)

pub after_blanks-le : (bs : List ℕ) → length (after_blanks bs) ≤ length bs
after_blanks-le bs = omega (arith, length-drop (prefix_len is_blank bs) bs)

-- the rest is no longer than the line
pub Begins-length : (ts : List Tok) (line rest : List ℕ) → Begins ts line rest → length rest ≤ length line
Begins-length [] line rest before = omega (arith, ap length before)
Begins-length (t ∷ ts) line rest (kind, n, first, t_is, before) =
    omega (arith, Begins-length ts (drop n (after_blanks line)) rest before, length-drop n (after_blanks line), after_blanks-le line)

-- at the end of the loop no token begins: the line ends there, or fails there
pub Lexes-stop : (ts : List Tok) (line rest : List ℕ) (bad : Option ℕ) → Begins ts line rest → BeginsNoToken (after_blanks rest) → EndsOrFails line rest bad → Lexes line ts bad
Lexes-stop ts line rest None before stop end = record { rest = rest; before = before; end = end }
Lexes-stop ts line rest (Some place) before stop fails =
    record { rest = rest; before = before; no_token = stop; no_end = fails.0; there = fails.1 }
