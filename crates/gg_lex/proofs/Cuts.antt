-- Where a line may be cut: after blanks and after tokens, whose last byte is ASCII.
use Rattle.std.proofs.Common.{◌≡◌, ℕ, zero, suc, ◌+◌, ◌-◌, ◌<◌, ◌≤◌, Bool, true, false, List, [], ◌∷◌, ◌++◌, length, get_or, take, drop, IsUtf8, sym, ap, ◌∙◌, subst, ⊎_elim, refl, arith, length-append, length-take-le, get_or-take}
use Rattle.std.specs.Prelude.{if◌then◌else◌, ◌==◌}
use Rattle.std.specs.List.{All, prefix_len}
use Rattle.std.specs.Str.{IsCharBoundary}
use Rattle.std.specs.Char.{is_ascii_digit, is_ascii_hexdigit}
use Rattle.std.proofs.lemmas.Bool.{cases_eq, cases_lt, ne_eqb, eq-eqb, eqb-true, false≢true, MatchBool-at_false, MatchBool-at_true}
use Rattle.std.proofs.lemmas.Bool.Decides.{nat_tests}
use Rattle.std.proofs.lemmas.List.{get_or_at}
use Rattle.std.proofs.lemmas.List.Sums.{prefix_len_passes, prefix_len-le-length}
use Rattle.std.proofs.lemmas.List.Elements.{All-cons, All-append, All-weaker, All-same}
use Rattle.std.proofs.lemmas.Str.{IsUtf8-drop, IsCharBoundary-start, IsCharBoundary-after_ascii}
use Rattle.gg_lex.specs.Bytes.{is_blank, starts_word, is_word_byte, is_tail_byte, is_binary_digit, is_octal_digit, is_digit_behind}
use Rattle.gg_lex.specs.Tokens.{IsToken, IsFirst, IsWord, IsDecimal, AreDigitsBehind, IsRadixNumber, IsNumber, IsText, IsDigits, spelling}
use Rattle.gg_lex.specs.Lines.{after_blanks}
use Rattle.gg_lex.specs.declared.token.TokenKind.{TokenKind}
use Rattle.gg_lex.specs.declared.token.TokenKind.TheVariants as kinds
use Rattle.gg_lex.specs.declared.token.Symbol.{Symbol}
use Rattle.gg_lex.specs.declared.token.Symbol.TheVariants.{Connect}
use Rattle.gg_lex.proofs.Leads.{no_empty}

blank_is_ascii : (b : ℕ) → is_blank b ≡ true → b < 128
blank_is_ascii b blank = grind (arith, nat_tests)

start_is_ascii : (b : ℕ) → starts_word b ≡ true → b < 128
start_is_ascii b starts = grind (arith, nat_tests)

word_byte_is_ascii : (b : ℕ) → is_word_byte b ≡ true → b < 128
word_byte_is_ascii b word = grind (arith, nat_tests)

tail_byte_is_ascii : (b : ℕ) → is_tail_byte b ≡ true → b < 128
tail_byte_is_ascii b tail = grind (arith, nat_tests)

digit_is_ascii : (b : ℕ) → is_ascii_digit b ≡ true → b < 128
digit_is_ascii b digit = grind (arith, nat_tests)

-- the last byte is ASCII
abbrev LastIsAscii : List ℕ → Type 0
LastIsAscii bs = get_or bs (length bs - 1) 0 < 128

last_of_all : (bs : List ℕ) → 0 < length bs → All (λ b. b < 128) bs → LastIsAscii bs
last_of_all bs nonempty all = all (length bs - 1) 0 (omega arith)

word_is_ascii : (bs : List ℕ) → IsWord bs → All (λ b. b < 128) bs
word_is_ascii bs (first, body, tail, spelt, starts, all, all_tail) =
    All-same (λ b. b < 128) bs _ spelt (All-cons (λ b. b < 128) first (body ++ tail) (start_is_ascii first starts) (All-append (λ b. b < 128) body tail (All-weaker (λ b. is_word_byte b ≡ true) (λ b. b < 128) word_byte_is_ascii body all) (All-weaker (λ b. is_tail_byte b ≡ true) (λ b. b < 128) tail_byte_is_ascii tail all_tail)))

digits_are_ascii : (bs : List ℕ) → IsDigits bs → All (λ b. b < 128) bs
digits_are_ascii bs digits = All-weaker (λ b. is_ascii_digit b ≡ true) (λ b. b < 128) digit_is_ascii bs digits.1

decimal_is_ascii : (bs : List ℕ) → IsDecimal bs → All (λ b. b < 128) bs
decimal_is_ascii [] number = absurd number
decimal_is_ascii (b ∷ bs) number =
    ⊎_elim
    (λ sign. All-cons (λ (a : ℕ). a < 128) b bs (omega (arith, sign)) (digits_are_ascii bs (MatchBool-at_true _ _ (eq-eqb b 45 sign) number)))
    (λ plain. digits_are_ascii (b ∷ bs) (MatchBool-at_false _ _ (ne_eqb b 45 plain) number))
    (cases_eq b 45)

-- a digit that may follow a letter is ASCII, and so is the letter
behind_is_ascii : (letter b : ℕ) → is_digit_behind letter b ≡ true → (letter < 128) × (b < 128)
behind_is_ascii letter b digit = by (letter == 98) (letter == 111) (letter == 100) (letter == 104) refl refl refl refl digit
  where
    by : (w x y z : Bool) → (letter == 98) ≡ w → (letter == 111) ≡ x → (letter == 100) ≡ y → (letter == 104) ≡ z
        → (if w then is_binary_digit b else (if x then is_octal_digit b else (if y then is_ascii_digit b else (if z then is_ascii_hexdigit b else false)))) ≡ true → (letter < 128) × (b < 128)
    by true x y z p q r s h = (omega (arith, eqb-true letter 98 p), grind (arith, nat_tests))
    by false true y z p q r s h = (omega (arith, eqb-true letter 111 q), grind (arith, nat_tests))
    by false false true z p q r s h = (omega (arith, eqb-true letter 100 r), grind (arith, nat_tests))
    by false false false true p q r s h = (omega (arith, eqb-true letter 104 s), grind (arith, nat_tests))
    by false false false false p q r s h = absurd (false≢true h)

letter_is_ascii : (letter : ℕ) (ds : List ℕ) → AreDigitsBehind letter ds → letter < 128
letter_is_ascii letter ds are = (behind_is_ascii letter (get_or ds 0 0) (are.1 0 0 are.0)).0

abbrev is_ascii : ℕ → Type 0
is_ascii b = b < 128

radix_is_ascii : (bs : List ℕ) → IsRadixNumber bs → All is_ascii bs
radix_is_ascii bs number =
    let letter = letter_is_ascii number.letter number.digits number.are in
    let digits : All is_ascii number.digits = All-weaker (λ b. is_digit_behind number.letter b ≡ true) is_ascii (λ b digit. (behind_is_ascii number.letter b digit).1) number.digits number.are.1 in
    let from_letter : All is_ascii (number.letter ∷ number.digits) = All-cons is_ascii number.letter number.digits letter digits in
    let from_zero : All is_ascii (48 ∷ number.letter ∷ number.digits) = All-cons is_ascii 48 (number.letter ∷ number.digits) (omega arith) from_letter in
    let from_sign : All is_ascii (45 ∷ number.digits) = All-cons is_ascii 45 number.digits (omega arith) digits in
    let sign_inside : All is_ascii (number.letter ∷ 45 ∷ number.digits) = All-cons is_ascii number.letter (45 ∷ number.digits) letter from_sign in
    ⊎_elim
    (λ plain. All-same is_ascii bs _ plain from_zero)
    (λ signed. ⊎_elim
    (λ inner. All-same is_ascii bs _ inner (All-cons is_ascii 48 (number.letter ∷ 45 ∷ number.digits) (omega arith) sign_inside))
    (λ outer. All-same is_ascii bs _ outer (All-cons is_ascii 45 (48 ∷ number.letter ∷ number.digits) (omega arith) from_zero))
    signed)
    number.spelt

number_is_ascii : (bs : List ℕ) → IsNumber bs → All is_ascii bs
number_is_ascii bs number = ⊎_elim (decimal_is_ascii bs) (radix_is_ascii bs) number

text_ends_in_ascii : (quoted : List ℕ) → LastIsAscii (34 ∷ (quoted ++ 34 ∷ []))
text_ends_in_ascii quoted =
    let size : length (34 ∷ (quoted ++ 34 ∷ [])) - 1 ≡ suc (length quoted) = omega (arith, length-append quoted (34 ∷ [])) in
    let last : get_or (34 ∷ (quoted ++ 34 ∷ [])) (length (34 ∷ (quoted ++ 34 ∷ [])) - 1) 0 ≡ 34 = ap (λ (i : ℕ). get_or (34 ∷ (quoted ++ 34 ∷ [])) i 0) size ∙ get_or_at quoted 34 [] 0 (length quoted) refl in
    omega (arith, last)

symbol_ends_in_ascii : (s : Symbol) → LastIsAscii (spelling s)
symbol_ends_in_ascii Connect = omega arith
symbol_ends_in_ascii _ = omega arith

token_ends_in_ascii : (kind : TokenKind) (bs : List ℕ) → 0 < length bs → IsToken kind bs → LastIsAscii bs
token_ends_in_ascii kinds.Word bs nonempty word = last_of_all bs nonempty (word_is_ascii bs word)
token_ends_in_ascii kinds.Number bs nonempty number = last_of_all bs nonempty (number_is_ascii bs number)
token_ends_in_ascii kinds.Text bs nonempty (quoted, spelt, is_quoted) = subst LastIsAscii (sym spelt) (text_ends_in_ascii quoted)
token_ends_in_ascii (kinds.Symbol s) bs nonempty spelt = subst LastIsAscii (sym spelt) (symbol_ends_in_ascii s)

-- a token at the front of some bytes has at least one byte
pub first_nonempty : (kind : TokenKind) (bs : List ℕ) (n : ℕ) → IsToken kind (take n bs) → 0 < n
first_nonempty kind bs zero token = absurd (no_empty kind token)
first_nonempty kind bs (suc n) token = omega arith

-- a text may be cut after an ASCII byte
cut_behind : (bs : List ℕ) (n : ℕ) → IsUtf8 bs → 0 < n → n ≤ length bs → get_or bs (n - 1) 0 < 128 → IsCharBoundary bs n
cut_behind bs n utf8 some within ascii =
    let counted : n - 1 + 1 ≡ n = omega arith in
    subst (λ (k : ℕ). IsCharBoundary bs k) counted (IsCharBoundary-after_ascii bs (n - 1) utf8 (omega arith) ascii)

cut_behind_token : (kind : TokenKind) (bs : List ℕ) (n : ℕ) → IsUtf8 bs → IsFirst kind bs n → IsCharBoundary bs n
cut_behind_token kind bs n utf8 first =
    let some = first_nonempty kind bs n first.token in
    let size : length (take n bs) ≡ n = length-take-le n bs first.within in
    let ends : LastIsAscii (take n bs) = token_ends_in_ascii kind (take n bs) (omega arith) first.token in
    let here : get_or (take n bs) (length (take n bs) - 1) 0 ≡ get_or bs (n - 1) 0 = ap (λ (k : ℕ). get_or (take n bs) (k - 1) 0) size ∙ get_or-take n bs (n - 1) 0 (omega arith) in
    cut_behind bs n utf8 some first.within (omega (arith, ends, here))

cut_behind_blanks : (bs : List ℕ) → IsUtf8 bs → IsCharBoundary bs (prefix_len is_blank bs)
cut_behind_blanks bs utf8 =
    ⊎_elim
    (λ some. cut_behind bs (prefix_len is_blank bs) utf8 some (prefix_len-le-length is_blank bs) (blank_is_ascii _ (prefix_len_passes is_blank bs (prefix_len is_blank bs - 1) 0 (omega arith))))
    (λ none. let zero_blanks : 0 ≡ prefix_len is_blank bs = omega arith in subst (λ (k : ℕ). IsCharBoundary bs k) zero_blanks (IsCharBoundary-start bs utf8))
    (cases_lt 0 (prefix_len is_blank bs))

-- a text may be cut after its first quote
pub cut_behind_quote : (bs : List ℕ) → IsUtf8 bs → IsText bs → IsCharBoundary bs 1
cut_behind_quote bs utf8 (quoted, spelt, is_quoted) =
    let first : get_or bs 0 0 ≡ 34 = ap (λ (l : List ℕ). get_or l 0 0) spelt in
    let size : length bs ≡ suc (length quoted + 1) = ap length spelt ∙ ap suc (length-append quoted (34 ∷ [])) in
    IsCharBoundary-after_ascii bs 0 utf8 (omega arith) (omega arith)

-- the same cuts, with the bytes that the code reads
pub cut_blanks : (bs bytes : List ℕ) (n : ℕ) → IsUtf8 bs → bytes ≡ bs → n ≡ prefix_len is_blank bytes → IsCharBoundary bs n
cut_blanks bs bytes n utf8 same n_is =
    subst (λ (k : ℕ). IsCharBoundary bs k) (sym (n_is ∙ ap (prefix_len is_blank) same)) (cut_behind_blanks bs utf8)

pub cut_token : (kind : TokenKind) (bs bytes : List ℕ) (n : ℕ) → IsUtf8 bytes → bytes ≡ bs → IsFirst kind bytes n → IsCharBoundary bs n
cut_token kind bs bytes n utf8 same first =
    subst (λ (l : List ℕ). IsCharBoundary l n) same (cut_behind_token kind bytes n utf8 first)

-- what follows a token is UTF-8
pub after_token-utf8 : (kind : TokenKind) (bs after : List ℕ) (n : ℕ) → IsUtf8 bs → IsFirst kind (after_blanks bs) n → after ≡ drop n (after_blanks bs) → IsUtf8 after
after_token-utf8 kind bs after n utf8 first after_is =
    let start : IsUtf8 (after_blanks bs) = IsUtf8-drop bs (prefix_len is_blank bs) utf8 (cut_behind_blanks bs utf8) in
    subst IsUtf8 (sym after_is) (IsUtf8-drop (after_blanks bs) n start (cut_behind_token kind (after_blanks bs) n start first))
