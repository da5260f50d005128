-- Lines and their tokens, worked by hand. Each lemma puts one token at the front of a line; its premises are tests of the line's
-- bytes, and compute.
use Rattle.std.proofs.Common.{◌≡◌, ℕ, ◌+◌, ◌<◌, ◌≤◌, Bool, true, false, List, [], ◌∷◌, ◌==◌, Option, Some, None, length, get_or, take, drop, codes, refl, sym, ap, ◌∙◌, arith, lit≤, length-take-le}
use Rattle.std.specs.Prelude.{if◌then◌else◌, ◌||◌, ◌&&◌}
use Rattle.std.specs.Char.{is_ascii_digit}
use Rattle.std.specs.List.{prefix_len, list_any}
use Rattle.std.specs.Str.{bytes_eq}
use Rattle.std.proofs.lemmas.Bool.{false≢true, both_ways, eqb-true, eqb-false}
use Rattle.std.proofs.Math.Bool.{or-false}
use Rattle.gg_lex.specs.Bytes.{quote, minus, starts_word, is_word_byte, is_tail_byte, is_digit_behind}
use Rattle.gg_lex.specs.inside.Bytes.{begins_number}
use Rattle.gg_lex.specs.inside.Fronts.{IsLongest, HasNoFront, radix_head, LeadsSymbol, IsFrontOfTwo}
use Rattle.gg_lex.specs.Lines.{after_blanks, IsComment, AreTokens}
use Rattle.gg_lex.specs.Tokens.{IsFirst, IsDigits, IsDecimal, IsRadixNumber, IsNumber, spelling}
use Rattle.gg_lex.specs.declared.token.TokenKind.TheVariants as kinds
use Rattle.gg_lex.specs.declared.token.Symbol.{Symbol}
use Rattle.gg_lex.specs.declared.token.Symbol.TheVariants.{Connect, Arrow, PartialConnect, OpenAnnotations, Colon, Less, Greater, Equals}
use Rattle.gg_lex.specs.declared.token.Tok.{Tok}
use Rattle.gg_lex.specs.declared.token.Tok.TheVariants as tok
use Rattle.gg_lex.proofs.Leads.{first_of_kind, first_of_two, first_of_one, only_word, only_number}
use Rattle.gg_lex.proofs.Numbers.{longest_run, no_run, unsigned_front, signed_decimal, no_head, radix_front, no_radix_digits, with_radix, without_radix}
use Rattle.gg_lex.proofs.Readings.{Lexes-same}
use Rattle.gg_lex.proofs.Runs.{prefix_len-pass}
use Rattle.gg_lex.proofs.Words.{longest_word}

-- how long the word at the front is
abbrev body_size : List ℕ → ℕ
body_size bs = prefix_len is_word_byte (drop 1 bs)

abbrev tail_size : List ℕ → ℕ
tail_size bs = prefix_len is_tail_byte (drop (body_size bs) (drop 1 bs))

abbrev word_size : List ℕ → ℕ
word_size bs = 1 + body_size bs + tail_size bs

first_word : (bs : List ℕ) → starts_word (get_or bs 0 0) ≡ true → IsFirst kinds.Word bs (word_size bs)
first_word [] starts = absurd (false≢true starts)
first_word (b ∷ bs) starts =
    first_of_kind kinds.Word (b ∷ bs) (word_size (b ∷ bs)) (omega arith) (only_word b starts) (longest_word (b ∷ bs) (body_size (b ∷ bs)) (tail_size (b ∷ bs)) (omega arith) starts refl refl)

-- a word after the blanks
pub word : {w : List ℕ} {ts : List Tok} {line : List ℕ} → starts_word (get_or (after_blanks line) 0 0) ≡ true → w ≡ take (word_size (after_blanks line)) (after_blanks line)
    → AreTokens ts (drop (word_size (after_blanks line)) (after_blanks line)) → AreTokens (tok.Word w ∷ ts) line
word {w} {ts} {line} starts is more =
    record {
      rest = more.rest;
      before = (kinds.Word, word_size (after_blanks line), first_word (after_blanks line) starts, ap (λ (x : List ℕ). tok.Word x) is, more.before);
      end = more.end;
    }

-- the bytes are a symbol of two characters
abbrev is_two : List ℕ → Bool
is_two bs = list_any (bytes_eq bs) (codes "<=" ∷ codes "=>" ∷ codes "<-" ∷ codes "%[" ∷ [])

no_two : (bs : List ℕ) → is_two (take 2 bs) ≡ false → (s : Symbol) → IsFrontOfTwo bs s → ⊥
no_two bs none Connect front = both_ways (is_two (take 2 bs)) none (ap is_two front.1)
no_two bs none Arrow front = both_ways (is_two (take 2 bs)) none (ap is_two front.1)
no_two bs none PartialConnect front = both_ways (is_two (take 2 bs)) none (ap is_two front.1)
no_two bs none OpenAnnotations front = both_ways (is_two (take 2 bs)) none (ap is_two front.1)
no_two bs none _ front = omega (arith, length-take-le 2 bs front.0, ap length front.1)

-- What the tests of these bytes say: empty, begun by a word, a number or a text, begun by a symbol of two characters.
abbrev not_so : List ℕ → List Bool
not_so bs =
    (length bs == 0) ∷ starts_word (get_or bs 0 0) ∷ begins_number (get_or bs 0 0) ∷ (get_or bs 0 0 == quote) ∷ is_two (take 2 bs) ∷ []

nonempty : (bs : List ℕ) → (length bs == 0) ≡ false → 0 < length bs
nonempty [] e = absurd (false≢true (sym e))
nonempty (b ∷ bs) e = omega arith

leads_symbol : (bs : List ℕ) (two : Bool) → not_so bs ≡ false ∷ false ∷ false ∷ false ∷ two ∷ [] → LeadsSymbol bs
leads_symbol bs two e = record {
  nonempty = nonempty bs (ap (λ (l : List Bool). get_or l 0 false) e);
  no_word = ap (λ (l : List Bool). get_or l 1 false) e;
  no_number = ap (λ (l : List Bool). get_or l 2 false) e;
  no_text = λ same. both_ways (get_or bs 0 0 == quote) (ap (λ (l : List Bool). get_or l 3 false) e) (ap (λ (b : ℕ). b == quote) same);
}

-- a symbol of one character after the blanks
pub one : {s : Symbol} {ts : List Tok} {line : List ℕ} → not_so (after_blanks line) ≡ false ∷ false ∷ false ∷ false ∷ false ∷ [] → spelling s ≡ get_or (after_blanks line) 0 0 ∷ []
    → AreTokens ts (drop 1 (after_blanks line)) → AreTokens (tok.Symbol s ∷ ts) line
one {s} {ts} {line} tests is more =
    let bs : List ℕ = after_blanks line in
    record {
      rest = more.rest;
      before = (kinds.Symbol s, 1, first_of_one bs (leads_symbol bs false tests) s (no_two bs (ap (λ (l : List Bool). get_or l 4 false) tests)) is, refl, more.before);
      end = more.end;
    }

-- a symbol of two characters after the blanks
pub two : {s : Symbol} {ts : List Tok} {line : List ℕ} → not_so (after_blanks line) ≡ false ∷ false ∷ false ∷ false ∷ true ∷ [] → 2 ≤ length (after_blanks line)
    → take 2 (after_blanks line) ≡ spelling s → AreTokens ts (drop 2 (after_blanks line)) → AreTokens (tok.Symbol s ∷ ts) line
two {s} {ts} {line} tests long is more =
    let bs : List ℕ = after_blanks line in
    record {
      rest = more.rest;
      before = (kinds.Symbol s, 2, first_of_two bs (leads_symbol bs true tests) s (long, is), refl, more.before);
      end = more.end;
    }

-- whether the bytes begin with a digit, or with a `-` and a digit
abbrev has_digit : List ℕ → Bool
has_digit bs = is_ascii_digit (get_or bs 0 0) || (get_or bs 0 0 == minus && is_ascii_digit (get_or bs 1 0))

-- how long the number at the front then is
abbrev decimal_size : List ℕ → ℕ
decimal_size bs = if get_or bs 0 0 == minus then prefix_len is_ascii_digit (drop 1 bs) + 1 else prefix_len is_ascii_digit bs

abbrev size_behind : Option (ℕ × ℕ) → List ℕ → ℕ
size_behind None bs = decimal_size bs
size_behind (Some (n, letter)) bs =
    if prefix_len (is_digit_behind letter) (drop n bs) == 0 then decimal_size bs else n + prefix_len (is_digit_behind letter) (drop n bs)

abbrev number_size : List ℕ → ℕ
number_size bs = size_behind (radix_head bs) bs

some_digits : (bs : List ℕ) → is_ascii_digit (get_or bs 0 0) ≡ true → IsLongest IsDigits bs (prefix_len is_ascii_digit bs)
some_digits [] digit = absurd (false≢true digit)
some_digits (b ∷ bs) digit =
    let counted = prefix_len-pass is_ascii_digit b bs digit in
    longest_run is_ascii_digit (b ∷ bs) (prefix_len is_ascii_digit (b ∷ bs)) refl (λ e. omega (arith, e, counted))

longest_decimal : (bs : List ℕ) → has_digit bs ≡ true → IsLongest IsDecimal bs (decimal_size bs)
longest_decimal [] digit = absurd (false≢true digit)
longest_decimal (b ∷ bs) digit = by (b == minus) refl digit
  where
    second : (cs : List ℕ) → get_or (b ∷ cs) 1 0 ≡ get_or cs 0 0
    second cs = refl

    by : (sign : Bool) → (b == minus) ≡ sign → (is_ascii_digit b || (sign && is_ascii_digit (get_or (b ∷ bs) 1 0))) ≡ true
        → IsLongest IsDecimal (b ∷ bs) (if sign then prefix_len is_ascii_digit bs + 1 else prefix_len is_ascii_digit (b ∷ bs))
    by true sign some =
        let minus_is : b ≡ minus = eqb-true b minus sign in
        let later : is_ascii_digit (get_or bs 0 0) ≡ true = ap (λ (a : ℕ). is_ascii_digit a || is_ascii_digit (get_or bs 0 0)) (sym minus_is) ∙ some in
        signed_decimal (b ∷ bs) (prefix_len is_ascii_digit bs) (omega arith) minus_is (some_digits bs later)
    by false sign some =
        let plain : is_ascii_digit b ≡ true = sym (or-false (is_ascii_digit b)) ∙ some in
        unsigned_front (b ∷ bs) (Some (prefix_len is_ascii_digit (b ∷ bs))) (omega arith) (eqb-false b minus sign) (some_digits (b ∷ bs) plain)

longest_number : (bs : List ℕ) → has_digit bs ≡ true → IsLongest IsNumber bs (number_size bs)
longest_number bs digit = by (radix_head bs) refl
  where
    decimal : HasNoFront IsRadixNumber bs → IsLongest IsNumber bs (decimal_size bs)
    decimal no_radix = without_radix bs (Some (decimal_size bs)) no_radix (longest_decimal bs digit)

    by_run : (n letter : ℕ) (empty : Bool) → radix_head bs ≡ Some (n, letter) → (prefix_len (is_digit_behind letter) (drop n bs) == 0) ≡ empty
        → IsLongest IsNumber bs (if empty then decimal_size bs else n + prefix_len (is_digit_behind letter) (drop n bs))
    by_run n letter true head none =
        decimal (no_radix_digits bs n letter head (no_run (is_digit_behind letter) (drop n bs) _ refl (eqb-true _ 0 none)))
    by_run n letter false head some =
        with_radix bs _ (radix_front bs n letter _ head (longest_run (is_digit_behind letter) (drop n bs) _ refl (eqb-false _ 0 some)))

    by : (head : Option (ℕ × ℕ)) → radix_head bs ≡ head → IsLongest IsNumber bs (size_behind head bs)
    by None none = decimal (no_head bs none)
    by (Some (n, letter)) head = by_run n letter (prefix_len (is_digit_behind letter) (drop n bs) == 0) head refl

first_number : (bs : List ℕ) → has_digit bs ≡ true → IsFirst kinds.Number bs (number_size bs)
first_number [] digit = absurd (false≢true digit)
first_number (b ∷ bs) digit =
    first_of_kind kinds.Number (b ∷ bs) (number_size (b ∷ bs)) (omega arith) (only_number b (begins (is_ascii_digit b) (b == minus) (is_ascii_digit (get_or (b ∷ bs) 1 0)) digit)) (longest_number (b ∷ bs) digit)
  where
    begins : (first sign second : Bool) → (first || (sign && second)) ≡ true → (sign || first) ≡ true
    begins true true second e = refl
    begins true false second e = refl
    begins false true second e = refl
    begins false false second e = absurd (false≢true e)

-- a number after the blanks
pub number : {w : List ℕ} {ts : List Tok} {line : List ℕ} → has_digit (after_blanks line) ≡ true → w ≡ take (number_size (after_blanks line)) (after_blanks line)
    → AreTokens ts (drop (number_size (after_blanks line)) (after_blanks line)) → AreTokens (tok.Number w ∷ ts) line
number {w} {ts} {line} digit is more =
    record {
      rest = more.rest;
      before = (kinds.Number, number_size (after_blanks line), first_number (after_blanks line) digit, ap (λ (x : List ℕ). tok.Number x) is, more.before);
      end = more.end;
    }

-- the end of a line without file information
pub ended : {line : List ℕ} → IsComment (after_blanks line) → AreTokens [] line
ended {line} comment = record { rest = line; before = refl; end = (0, comment) }

-- a line has no other tokens than these
no_other : {ts us : List Tok} {line : List ℕ} → AreTokens ts line → AreTokens us line → (ts ≡ us → ⊥) → ⊥
no_other {ts} {us} {line} these others differ = differ (Lexes-same line ts us None None these others).0

abbrev first_size : List Tok → ℕ
first_size (tok.Number w ∷ ts) = length w
first_size ts = 0

blank_line : AreTokens [] (codes "  ")
blank_line = ended tt

comment_line : AreTokens [] (codes " ; node n = a")
comment_line = ended refl

-- The longest token is taken: `<=` and not `<`, `a1-b` and not `a1`.
connection : AreTokens (tok.Word (codes "a") ∷ tok.Symbol Connect ∷ tok.Word (codes "b") ∷ []) (codes "a<=b")
connection = word refl refl (two refl (lit≤ tt) refl (word refl refl (ended tt)))

parted : AreTokens (tok.Word (codes "a") ∷ tok.Symbol Less ∷ tok.Symbol Equals ∷ tok.Word (codes "b") ∷ []) (codes "a< =b")
parted = word refl refl (one refl refl (one refl refl (word refl refl (ended tt))))

dashes : AreTokens (tok.Word (codes "a1-b") ∷ tok.Number (codes "2") ∷ []) (codes "a1-b2")
dashes = word refl refl (number refl refl (ended tt))

-- A number ends before a letter that is no digit. `0b12` is `0b1` and `2`, since 2 is no binary digit; where no digit of the radix
-- follows, `0` is the number and a word begins at the letter.
binary_first : AreTokens (tok.Number (codes "0b1") ∷ tok.Number (codes "2") ∷ []) (codes "0b12")
binary_first = number refl refl (number refl refl (ended tt))

no_binary : AreTokens (tok.Number (codes "0") ∷ tok.Word (codes "b2") ∷ []) (codes "0b2")
no_binary = number refl refl (word refl refl (ended tt))

no_octal : AreTokens (tok.Number (codes "0") ∷ tok.Word (codes "o8") ∷ []) (codes "0o8")
no_octal = number refl refl (word refl refl (ended tt))

no_hexadecimal : AreTokens (tok.Number (codes "0") ∷ tok.Word (codes "hG") ∷ []) (codes "0hG")
no_hexadecimal = number refl refl (word refl refl (ended tt))

no_radix : AreTokens (tok.Number (codes "0") ∷ tok.Word (codes "x1") ∷ []) (codes "0x1")
no_radix = number refl refl (word refl refl (ended tt))

letter_alone : AreTokens (tok.Number (codes "0") ∷ tok.Word (codes "d") ∷ []) (codes "0d")
letter_alone = number refl refl (word refl refl (ended tt))

two_zeros : AreTokens (tok.Number (codes "00") ∷ tok.Word (codes "b1") ∷ []) (codes "00b1")
two_zeros = number refl refl (word refl refl (ended tt))

hexadecimal_end : AreTokens (tok.Number (codes "0hfF") ∷ tok.Word (codes "g") ∷ []) (codes "0hfFg")
hexadecimal_end = number refl refl (word refl refl (ended tt))

-- A `-` stands before the `0` or before the digits. After a word's letters it is the word's, and behind `<` it is part of `<-`.
sign_outside : AreTokens (tok.Number (codes "-0h3") ∷ []) (codes "-0h3")
sign_outside = number refl refl (ended tt)

sign_inside : AreTokens (tok.Number (codes "0h-3") ∷ []) (codes "0h-3")
sign_inside = number refl refl (ended tt)

sign_of_ten : AreTokens (tok.Number (codes "0d-5") ∷ []) (codes "0d-5")
sign_of_ten = number refl refl (ended tt)

two_signs : AreTokens (tok.Number (codes "-0") ∷ tok.Word (codes "h-") ∷ tok.Number (codes "8") ∷ []) (codes "-0h-8")
two_signs = number refl refl (word refl refl (number refl refl (ended tt)))

zero_below : AreTokens (tok.Number (codes "-0") ∷ []) (codes "-0")
zero_below = number refl refl (ended tt)

two_numbers : AreTokens (tok.Number (codes "0o7") ∷ tok.Number (codes "-1") ∷ []) (codes "0o7-1")
two_numbers = number refl refl (number refl refl (ended tt))

word_with_dash : AreTokens (tok.Word (codes "a-") ∷ tok.Number (codes "1") ∷ []) (codes "a-1")
word_with_dash = word refl refl (number refl refl (ended tt))

no_width : AreTokens (tok.Word (codes "UInt") ∷ tok.Symbol PartialConnect ∷ tok.Number (codes "1") ∷ tok.Symbol Greater ∷ []) (codes "UInt<-1>")
no_width = word refl refl (two refl (lit≤ tt) refl (number refl refl (one refl refl (ended tt))))

-- Near misses: a number that stops one digit early, or before its letter, and a sign on its own.
one_digit_early : AreTokens (tok.Number (codes "0b1") ∷ tok.Number (codes "0") ∷ []) (codes "0b10") → ⊥
one_digit_early other = no_other (number refl refl (ended tt)) other (λ e. false≢true (ap (λ (ts : List Tok). length ts == 1) (sym e)))

before_letter : AreTokens (tok.Number (codes "0") ∷ tok.Word (codes "b12") ∷ []) (codes "0b12") → ⊥
before_letter other = no_other binary_first other (λ e. false≢true (ap (λ (ts : List Tok). first_size ts == 3) (sym e)))

sign_on_its_own : AreTokens (tok.Number (codes "0") ∷ tok.Word (codes "h-") ∷ tok.Number (codes "3") ∷ []) (codes "0h-3") → ⊥
sign_on_its_own other = no_other sign_inside other (λ e. false≢true (ap (λ (ts : List Tok). length ts == 1) (sym e)))

-- a statement with a comment after it
statement : AreTokens (tok.Word (codes "wire") ∷ tok.Word (codes "w") ∷ tok.Symbol Colon ∷ tok.Word (codes "UInt") ∷ tok.Symbol Less ∷ tok.Number (codes "8") ∷ tok.Symbol Greater ∷ []) (codes "  wire w : UInt<8> ; a byte")
statement = word refl refl (word refl refl (one refl refl (word refl refl (one refl refl (number refl refl (one refl refl (ended refl)))))))
