-- Each line has tokens, or fails at some place: what the lexer looks for is found or isn't there, in any list of bytes.
use Rattle.std.proofs.Common.{◌≡◌, ℕ, zero, suc, ◌+◌, ◌-◌, ◌<◌, ◌≤◌, ◌⊎◌, Bool, true, false, List, [], ◌∷◌, length, get_or, take, drop, Option, Some, None, sym, ap, ◌∙◌, subst, inl, inr, ⊎_elim, refl, arith, length-drop}
use Rattle.std.specs.Prelude.{slice_get}
use Rattle.std.specs.List.{prefix_len}
use Rattle.std.specs.Char.{is_ascii_digit}
use Rattle.std.specs.Str.{bytes_eq}
use Rattle.std.proofs.lemmas.Bool.{cases_Bool, cases_eq, cases_lt}
use Rattle.std.proofs.lemmas.Slice.Eq.{bytes_eq-Decides}
use Rattle.gg_lex.specs.Bytes.{starts_word, is_digit_behind}
use Rattle.gg_lex.specs.inside.Bytes.{begins_number}
use Rattle.gg_lex.specs.Tokens.{IsFirst, BeginsNoToken, IsDigits, IsDecimal, AreDigitsBehind, IsRadixNumber, IsNumber, spelling, token_of}
use Rattle.gg_lex.specs.inside.Fronts.{FindsFront, radix_head, FindsQuote, LeadsSymbol, IsFrontOfTwo}
use Rattle.gg_lex.specs.inside.Ends.{FindsBracket, FindsInfo}
use Rattle.gg_lex.specs.Lines.{after_blanks, OpensInfo, ClosesBehind, IsComment, IsEnd, Begins, Lexes}
use Rattle.gg_lex.specs.declared.token.Tok.{Tok}
use Rattle.gg_lex.specs.declared.token.TokenKind.{TokenKind}
use Rattle.gg_lex.specs.declared.token.TokenKind.TheVariants as kinds
use Rattle.gg_lex.specs.declared.token.Symbol.{Symbol}
use Rattle.gg_lex.proofs.Words.{longest_word}
use Rattle.gg_lex.proofs.Numbers.{IsRun, longest_run, no_run, unsigned_front, signed_decimal, no_signed_decimal, no_head, radix_front, no_radix_digits, with_radix, without_radix}
use Rattle.gg_lex.proofs.Quotes.{QuotedBefore, quote_here, escape_here, plain_here, no_quote, longest_text, no_text}
use Rattle.gg_lex.proofs.Leads.{no_empty, only_word, only_number, only_text, first_of_kind, none_of_kind, first_of_two, first_of_one, no_first}
use Rattle.gg_lex.proofs.LineEnds.{IsEnd-after_info, IsEnd-without_info, info_from_bracket, no_info_from_bracket, no_info_unopened, no_bracket_past}
use Rattle.gg_lex.proofs.Readings.{symbol_from, symbol_back, Begins-length, after_blanks-le, Lexes-stop}

-- the first token of some bytes
pub record Token (bs : List ℕ) : Type 0 where
  pub kind : TokenKind
  pub size : ℕ
  pub first : IsFirst kind bs size

abbrev HasToken : List ℕ → Type 0
HasToken bs = Token bs ⊎ BeginsNoToken bs

token : (kind : TokenKind) (bs : List ℕ) (n : ℕ) → IsFirst kind bs n → HasToken bs
token kind bs n first = inl (record { kind = kind; size = n; first = first })

-- ---- numbers

run : (p : ℕ → Bool) (bs : List ℕ) → (found : Option ℕ) × FindsFront (IsRun p) bs found
run p bs =
    ⊎_elim
    (λ none. (None, no_run p bs _ refl none))
    (λ some. (Some (prefix_len p bs), longest_run p bs _ refl some))
    (cases_eq (prefix_len p bs) 0)

signed : (bs : List ℕ) → 0 < length bs → get_or bs 0 0 ≡ 45 → (found : Option ℕ) × FindsFront IsDigits (drop 1 bs) found → (found : Option ℕ) × FindsFront IsDecimal bs found
signed bs nonempty sign (None, none) = (None, no_signed_decimal bs nonempty sign none)
signed bs nonempty sign (Some n, some) = (Some (n + 1), signed_decimal bs n nonempty sign some)

decimal : (bs : List ℕ) → 0 < length bs → (found : Option ℕ) × FindsFront IsDecimal bs found
decimal bs nonempty =
    ⊎_elim
    (λ sign. signed bs nonempty sign (run is_ascii_digit (drop 1 bs)))
    (λ plain. let found = run is_ascii_digit bs in (found.0, unsigned_front bs found.0 nonempty plain found.1))
    (cases_eq (get_or bs 0 0) 45)

behind : (bs : List ℕ) (n letter : ℕ) → radix_head bs ≡ Some (n, letter) → (found : Option ℕ) × FindsFront (AreDigitsBehind letter) (drop n bs) found → (found : Option ℕ) × FindsFront IsRadixNumber bs found
behind bs n letter head (None, none) = (None, no_radix_digits bs n letter head none)
behind bs n letter head (Some k, some) = (Some (n + k), radix_front bs n letter k head some)

with_head : (bs : List ℕ) (head : Option (ℕ × ℕ)) → radix_head bs ≡ head → (found : Option ℕ) × FindsFront IsRadixNumber bs found
with_head bs None none = (None, no_head bs none)
with_head bs (Some (n, letter)) head = behind bs n letter head (run (is_digit_behind letter) (drop n bs))

number_from : (bs : List ℕ) → (radix : Option ℕ) × FindsFront IsRadixNumber bs radix → (decimal : Option ℕ) × FindsFront IsDecimal bs decimal → (found : Option ℕ) × FindsFront IsNumber bs found
number_from bs (Some n, radix) decimal = (Some n, with_radix bs n radix)
number_from bs (None, no_radix) (found, decimal) = (found, without_radix bs found no_radix decimal)

number : (bs : List ℕ) → 0 < length bs → (found : Option ℕ) × FindsFront IsNumber bs found
number bs nonempty = number_from bs (with_head bs (radix_head bs) refl) (decimal bs nonempty)

number_token : (bs : List ℕ) → 0 < length bs → begins_number (get_or bs 0 0) ≡ true → (found : Option ℕ) × FindsFront IsNumber bs found → HasToken bs
number_token bs nonempty begins (None, none) = inr (none_of_kind kinds.Number bs nonempty (only_number _ begins) none)
number_token bs nonempty begins (Some n, some) = token kinds.Number bs n (first_of_kind kinds.Number bs n nonempty (only_number _ begins) some)

-- ---- texts

closing : (bs : List ℕ) (fuel at : ℕ) → length bs ≤ at + fuel → QuotedBefore bs at → (found : Option ℕ) × FindsQuote bs found
closing bs zero at enough before = (None, no_quote bs at (omega arith) before)
closing bs (suc fuel) at enough before =
    ⊎_elim
    (λ within.
    ⊎_elim
    (λ quote. (Some at, quote_here bs at within before quote))
    (λ other. ⊎_elim (λ escape. closing bs fuel (at + 2) (omega arith) (escape_here bs at within before escape)) (λ plain. closing bs fuel (at + 1) (omega arith) (plain_here bs at within before other plain)) (cases_eq (get_or bs at 0) 92))
    (cases_eq (get_or bs at 0) 34))
    (λ past. (None, no_quote bs at (omega arith) before))
    (cases_lt at (length bs))

opened : (bs : List ℕ) → QuotedBefore bs 0
opened bs = record { near = omega arith; quoted = λ room. tt; none = λ m less ends. absurd (omega arith) }

text_token : (bs : List ℕ) → 0 < length bs → get_or bs 0 0 ≡ 34 → (found : Option ℕ) × FindsQuote (drop 1 bs) found → HasToken bs
text_token bs nonempty quote (None, none) = inr (none_of_kind kinds.Text bs nonempty (only_text _ quote) (no_text bs nonempty quote none))
text_token bs nonempty quote (Some at, found) = token kinds.Text bs (at + 2) (first_of_kind kinds.Text bs (at + 2) nonempty (only_text _ quote) (longest_text bs at nonempty quote found))

-- ---- symbols

-- bytes are the spelling of some symbol, or of none
symbol : (xs : List ℕ) → ((s : Symbol) × (spelling s ≡ xs)) ⊎ ((s : Symbol) → spelling s ≡ xs → ⊥)
symbol xs =
    let maybe : Symbol = symbol_from (get_or xs 0 0) (get_or xs 1 0) in
    ⊎_elim
    (λ same. inl (maybe, (bytes_eq-Decides (spelling maybe) xs).0 same))
    (λ other. inr (λ s spelt. true≢ other (again s spelt)))
    (cases_Bool (bytes_eq (spelling (symbol_from (get_or xs 0 0) (get_or xs 1 0))) xs))
  where
    again : (s : Symbol) → spelling s ≡ xs → bytes_eq (spelling (symbol_from (get_or xs 0 0) (get_or xs 1 0))) xs ≡ true
    again s spelt =
        let back : symbol_from (get_or xs 0 0) (get_or xs 1 0) ≡ s = ap (λ (l : List ℕ). symbol_from (get_or l 0 0) (get_or l 1 0)) (sym spelt) ∙ symbol_back s in
        (bytes_eq-Decides _ xs).1 (ap spelling back ∙ spelt)

    true≢ : {b : Bool} → b ≡ false → b ≡ true → ⊥
    true≢ differs equal = cc

symbol_token : (bs : List ℕ) → LeadsSymbol bs → HasToken bs
symbol_token bs leads = ⊎_elim of_two without (⊎_elim (λ found. fits found) (λ none. inr (λ s front. none s (sym front.1))) (symbol (take 2 bs)))
  where
    fits : (s : Symbol) × (spelling s ≡ take 2 bs) → ((s : Symbol) × IsFrontOfTwo bs s) ⊎ ((s : Symbol) → IsFrontOfTwo bs s → ⊥)
    fits found = ⊎_elim (λ short. inr (λ s front. omega (arith, front.0, short))) (λ long. inl (found.0, (omega arith, sym found.1))) (cases_lt (length bs) 2)

    of_two : (s : Symbol) × IsFrontOfTwo bs s → HasToken bs
    of_two found = token (kinds.Symbol found.0) bs 2 (first_of_two bs leads found.0 found.1)

    without : ((s : Symbol) → IsFrontOfTwo bs s → ⊥) → HasToken bs
    without none =
        ⊎_elim
        (λ found. token (kinds.Symbol found.0) bs 1 (first_of_one bs leads found.0 none found.1))
        (λ alone. inr (no_first bs leads none alone))
        (symbol (get_or bs 0 0 ∷ []))

-- ---- any bytes

has_token : (bs : List ℕ) → HasToken bs
has_token [] = inr nothing
  where
    nothing : BeginsNoToken []
    nothing kind zero within is_token = no_empty kind is_token
    nothing kind (suc n) within is_token = absurd (omega arith)
has_token (b ∷ bs) = ⊎_elim word no_word (cases_Bool (starts_word b))
  where
    some : 0 < length (b ∷ bs)
    some = omega arith

    word : starts_word b ≡ true → HasToken (b ∷ bs)
    word starts = token kinds.Word (b ∷ bs) _ (first_of_kind kinds.Word (b ∷ bs) _ some (only_word b starts) (longest_word (b ∷ bs) _ _ some starts refl refl))

    no_text_begins : starts_word b ≡ false → begins_number b ≡ false → (b ≡ 34 → ⊥) → HasToken (b ∷ bs)
    no_text_begins starts begins other = symbol_token (b ∷ bs) (record { nonempty = some; no_word = starts; no_number = begins; no_text = other })

    no_word : starts_word b ≡ false → HasToken (b ∷ bs)
    no_word starts =
        ⊎_elim
        (λ begins. number_token (b ∷ bs) some begins (number (b ∷ bs) some))
        (λ begins. ⊎_elim (λ quote. text_token (b ∷ bs) some quote (closing bs (length bs) 0 (omega arith) (opened bs))) (no_text_begins starts begins) (cases_eq b 34))
        (cases_Bool (begins_number b))

-- ---- the end of a line

-- the byte at this place of a list is b, or it isn't
item : (bs : List ℕ) (k b : ℕ) → (slice_get bs k ≡ Some b) ⊎ (slice_get bs k ≡ Some b → ⊥)
item bs k b = go (slice_get bs k)
  where
    go : (o : Option ℕ) → (o ≡ Some b) ⊎ (o ≡ Some b → ⊥)
    go None = inr (λ e. cc)
    go (Some c) = ⊎_elim (λ same. inl (ap (λ (n : ℕ). Some n) same)) (λ other. inr (λ e. other (cc))) (cases_eq c b)

closes : (bs : List ℕ) (k : ℕ) → ClosesBehind bs k ⊎ (ClosesBehind bs k → ⊥)
closes bs k =
    ⊎_elim
    (λ bracket. ⊎_elim (λ escape. inr (λ both. both.1 escape)) (λ plain. inl (bracket, plain)) (item bs k 92))
    (λ other. inr (λ both. other both.0))
    (item bs (k + 1) 93)

bracket : (bs : List ℕ) (fuel at : ℕ) → length bs ≤ at + fuel → 1 ≤ at → ((k : ℕ) → 1 ≤ k → k < at → ClosesBehind bs k → ⊥) → (found : Option ℕ) × FindsBracket bs found
bracket bs zero at enough from none = (None, no_bracket_past bs at (omega arith) none)
bracket bs (suc fuel) at enough from none =
    ⊎_elim
    (λ here. (Some at, (from, here, none)))
    (λ other. bracket bs fuel (at + 1) (omega arith) (omega arith) (λ k low less here. ⊎_elim (λ before. none k low before here) (λ there. other (subst (ClosesBehind bs) (reached k less there) here)) (cases_lt k at)))
    (closes bs at)
  where
    reached : (k : ℕ) → k < at + 1 → at ≤ k → k ≡ at
    reached k less there = omega arith

info : (bs : List ℕ) → (found : Option ℕ) × FindsInfo bs found
info bs = ⊎_elim (λ at. ⊎_elim (λ second. seen (at, second) (bracket bs (length bs) 1 (omega arith) (omega arith) (λ k low less here. absurd (omega arith)))) (λ other. (None, no_info_unopened bs (λ opens. other opens.1))) (item bs 1 91)) (λ other. (None, no_info_unopened bs (λ opens. other opens.0))) (item bs 0 64)
  where
    seen : OpensInfo bs → (found : Option ℕ) × FindsBracket bs found → (found : Option ℕ) × FindsInfo bs found
    seen opens (None, none) = (None, no_info_from_bracket bs none)
    seen opens (Some at, found) = (Some (at + 2), info_from_bracket bs at opens found)

comment : (bs : List ℕ) → IsComment bs ⊎ (IsComment bs → ⊥)
comment [] = inl tt
comment (b ∷ bs) = cases_eq b 59

ends-without : (bs : List ℕ) → FindsInfo (after_blanks bs) None → IsEnd bs ⊎ (IsEnd bs → ⊥)
ends-without bs none =
    let same = IsEnd-without_info bs none in
    ⊎_elim (λ yes. inl (same.1 yes)) (λ other. inr (λ end. other (same.0 end))) (comment (after_blanks bs))

ends-after : (bs : List ℕ) (n : ℕ) → FindsInfo (after_blanks bs) (Some n) → IsEnd (drop n (after_blanks bs)) ⊎ (IsEnd (drop n (after_blanks bs)) → ⊥) → IsEnd bs ⊎ (IsEnd bs → ⊥)
ends-after bs n found more =
    let same = IsEnd-after_info bs n found.2 in
    ⊎_elim (λ yes. inl (same.1 yes)) (λ other. inr (λ end. other (same.0 end))) more

ends : (fuel : ℕ) (bs : List ℕ) → length bs ≤ fuel → IsEnd bs ⊎ (IsEnd bs → ⊥)
ends zero bs enough = at_last (info (after_blanks bs))
  where
    at_last : (found : Option ℕ) × FindsInfo (after_blanks bs) found → IsEnd bs ⊎ (IsEnd bs → ⊥)
    at_last (None, none) = ends-without bs none
    at_last (Some n, found) = absurd (omega (arith, found.0, found.1, after_blanks-le bs))
ends (suc less) bs enough = step (λ n shorter. ends less (drop n (after_blanks bs)) shorter) (info (after_blanks bs))
  where
    step : ((n : ℕ) → length (drop n (after_blanks bs)) ≤ less → IsEnd (drop n (after_blanks bs)) ⊎ (IsEnd (drop n (after_blanks bs)) → ⊥)) → (found : Option ℕ) × FindsInfo (after_blanks bs) found → IsEnd bs ⊎ (IsEnd bs → ⊥)
    step more (None, none) = ends-without bs none
    step more (Some n, found) =
        ends-after bs n found (more n (omega (arith, found.0, found.1, after_blanks-le bs, length-drop n (after_blanks bs))))

-- ---- the line

-- the tokens of a line up to where none begins
pub record Tokens (line : List ℕ) : Type 0 where
  pub tokens : List Tok
  pub rest : List ℕ
  pub begins : Begins tokens line rest
  pub stops : BeginsNoToken (after_blanks rest)

some_size : (kind : TokenKind) (bs : List ℕ) (n : ℕ) → IsFirst kind bs n → 0 < n
some_size kind bs zero first = absurd (no_empty kind first.token)
some_size kind bs (suc n) first = omega arith

no_tokens : (line : List ℕ) → BeginsNoToken (after_blanks line) → Tokens line
no_tokens line none = record { tokens = []; rest = line; begins = refl; stops = none }

one_more : (line : List ℕ) (found : Token (after_blanks line)) → Tokens (drop found.size (after_blanks line)) → Tokens line
one_more line found more = record {
  tokens = token_of found.kind (take found.size (after_blanks line)) ∷ more.tokens;
  rest = more.rest;
  begins = (found.kind, found.size, found.first, refl, more.begins);
  stops = more.stops;
}

all_tokens : (fuel : ℕ) (line : List ℕ) → length line ≤ fuel → Tokens line
all_tokens zero line enough = ⊎_elim none_left (no_tokens line) (has_token (after_blanks line))
  where
    none_left : Token (after_blanks line) → Tokens line
    none_left found = absurd (omega (arith, some_size found.kind _ found.size found.first, found.first.within, after_blanks-le line))
all_tokens (suc less) line enough = ⊎_elim (step (λ n shorter. all_tokens less (drop n (after_blanks line)) shorter)) (no_tokens line) (has_token (after_blanks line))
  where
    step : ((n : ℕ) → length (drop n (after_blanks line)) ≤ less → Tokens (drop n (after_blanks line))) → Token (after_blanks line) → Tokens line
    step more found =
        one_more line found (more found.size (omega (arith, some_size found.kind _ found.size found.first, found.first.within, after_blanks-le line, length-drop found.size (after_blanks line))))

pub every_line : (line : List ℕ) → (tokens : List Tok) × (bad : Option ℕ) × Lexes line tokens bad
every_line line =
    let all : Tokens line = all_tokens (length line) line (omega arith) in
    ⊎_elim
    (λ end. (all.tokens, None, Lexes-stop all.tokens line all.rest None all.begins all.stops end))
    (λ goes_on. (all.tokens, Some (length line - length (after_blanks all.rest)), Lexes-stop all.tokens line all.rest (Some _) all.begins all.stops (goes_on, omega (arith, after_blanks-le all.rest, Begins-length all.tokens line all.rest all.begins))))
    (ends (length all.rest) all.rest (omega arith))
