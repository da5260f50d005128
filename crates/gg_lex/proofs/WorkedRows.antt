-- The definitions of tokens, file information and blanks at small lines. Some bytes are given by their numbers: 9 a tab, 13 a
-- carriage return, 32 a space, 34 a quote, 45 a `-`, 64 a `@`, 91 and 93 brackets, 92 a backslash, 97 and 98 `a` and `b`.
use Rattle.std.proofs.Common.{◌≡◌, ℕ, zero, suc, ◌+◌, ◌<◌, ◌≤◌, true, false, [], ◌∷◌, map, unwrap_or, codes, refl, ap, arith, lit≤, inl, inr, ⊎_elim}
use Rattle.std.proofs.lemmas.Bool.{false≢true}
use Rattle.std.proofs.lemmas.List.Sums.{AllPass-from_list_all}
use Rattle.gg_lex.proofs.Numbers.{radix_long, outer_has, inner_has, plain_has}
use Rattle.gg_lex.specs.Bytes.{starts_word, is_word_byte, is_tail_byte, is_digit_behind}
use Rattle.gg_lex.specs.Lines.{after_blanks, ClosesBehind, IsInfo}
use Rattle.gg_lex.specs.Tokens.{IsQuoted, IsNumber, token_of}
use Rattle.gg_lex.specs.declared.token.TokenKind.TheVariants as kinds
use Rattle.gg_lex.specs.declared.token.Tok.TheVariants as tok

-- letters of both cases, `_`, `$`, a digit and `-`: which may begin a word, be in it, be in its tail
word_starts : map starts_word (codes "aZ_$7-") ≡ true ∷ true ∷ true ∷ false ∷ false ∷ false ∷ []
word_starts = refl

word_bytes : map is_word_byte (codes "aZ_$7-") ≡ true ∷ true ∷ true ∷ true ∷ true ∷ false ∷ []
word_bytes = refl

tail_bytes : map is_tail_byte (codes "aZ_$7-") ≡ true ∷ true ∷ false ∷ false ∷ false ∷ true ∷ []
tail_bytes = refl

-- blanks are spaces and tabs; a carriage return is not a blank
blanks : after_blanks (32 ∷ 9 ∷ 32 ∷ 13 ∷ 32 ∷ []) ≡ 13 ∷ 32 ∷ []
blanks = refl

-- a text keeps what is between its quotes, with its backslash; a number keeps its sign and its zeros
text_kept : token_of kinds.Text (34 ∷ 97 ∷ 92 ∷ 34 ∷ 34 ∷ []) ≡ tok.Text (97 ∷ 92 ∷ 34 ∷ [])
text_kept = refl

number_kept : token_of kinds.Number (codes "-007") ≡ tok.Number (codes "-007")
number_kept = refl

-- a quote may come after a backslash only; a backslash takes the next byte with it
quote_behind : IsQuoted (92 ∷ 34 ∷ [])
quote_behind = tt

quote_alone : IsQuoted (97 ∷ 34 ∷ []) → ⊥
quote_alone h = h.1.0 refl

two_backslashes : IsQuoted (92 ∷ 92 ∷ [])
two_backslashes = tt

backslash_alone : IsQuoted (92 ∷ []) → ⊥
backslash_alone h = h.1 refl

-- a sign without digits is no number
sign_alone : IsNumber (45 ∷ []) → ⊥
sign_alone h = ⊎_elim (λ decimal. omega (arith, decimal.0)) (λ radix. omega (arith, radix_long _ radix)) h

-- `@[a]b` begins with a file information of four bytes
first_bracket : (k : ℕ) → 1 ≤ k → k + 2 < 4 → ClosesBehind (64 ∷ 91 ∷ 97 ∷ 93 ∷ 98 ∷ []) k → ⊥
first_bracket zero low high closes = omega (arith, low)
first_bracket (suc zero) low high closes = omega (arith, ap (λ byte. unwrap_or byte 0) closes.0)
first_bracket (suc (suc k)) low high closes = omega (arith, high)

information : IsInfo (64 ∷ 91 ∷ 97 ∷ 93 ∷ 98 ∷ []) 4
information = record { opens = (refl, refl); last = (2, lit≤ tt, refl, (refl, λ e. omega (arith, ap (λ byte. unwrap_or byte 0) e))); first = first_bracket }

-- Numbers with their radix. A `-` stands before the `0` or before the digits, `-0h-8` has two; `0h` has no digits; `B` and `x`
-- are the letters of no radix; 2 is no binary digit, and 8 no octal one.
hexadecimal : IsNumber (codes "0h1fF")
hexadecimal = inr (record { letter = 104; digits = codes "1fF"; are = (lit≤ tt, AllPass-from_list_all (is_digit_behind 104) (codes "1fF") refl); spelt = inl refl })

sign_inside : IsNumber (codes "0b-1")
sign_inside = inr (record { letter = 98; digits = codes "1"; are = (lit≤ tt, AllPass-from_list_all (is_digit_behind 98) (codes "1") refl); spelt = inr (inl refl) })

sign_outside : IsNumber (codes "-0o17")
sign_outside = inr (record { letter = 111; digits = codes "17"; are = (lit≤ tt, AllPass-from_list_all (is_digit_behind 111) (codes "17") refl); spelt = inr (inr refl) })

ten : IsNumber (codes "0d19")
ten = inr (record { letter = 100; digits = codes "19"; are = (lit≤ tt, AllPass-from_list_all (is_digit_behind 100) (codes "19") refl); spelt = inl refl })

two_signs : IsNumber (codes "-0h-8") → ⊥
two_signs h = ⊎_elim (λ decimal. false≢true (decimal.1 1 0 (lit≤ tt))) (λ radix. false≢true ((outer_has 104 (codes "-8") radix).1 0 0 (lit≤ tt))) h

without_digits : IsNumber (codes "0h") → ⊥
without_digits h = ⊎_elim (λ decimal. false≢true (decimal.1 1 0 (lit≤ tt))) (λ radix. omega (arith, radix_long _ radix)) h

upper_letter : IsNumber (codes "0B1") → ⊥
upper_letter h = ⊎_elim (λ decimal. false≢true (decimal.1 1 0 (lit≤ tt))) (λ radix. false≢true ((plain_has 66 (codes "1") (λ e. omega (arith, e)) radix).1 0 0 (lit≤ tt))) h

other_letter : IsNumber (codes "0x1") → ⊥
other_letter h = ⊎_elim (λ decimal. false≢true (decimal.1 1 0 (lit≤ tt))) (λ radix. false≢true ((plain_has 120 (codes "1") (λ e. omega (arith, e)) radix).1 0 0 (lit≤ tt))) h

no_binary_digit : IsNumber (codes "0b12") → ⊥
no_binary_digit h = ⊎_elim (λ decimal. false≢true (decimal.1 1 0 (lit≤ tt))) (λ radix. false≢true ((plain_has 98 (codes "12") (λ e. omega (arith, e)) radix).1 1 0 (lit≤ tt))) h

no_octal_digit : IsNumber (codes "0o-8") → ⊥
no_octal_digit h = ⊎_elim (λ decimal. false≢true (decimal.1 1 0 (lit≤ tt))) (λ radix. false≢true ((inner_has 111 (codes "8") radix).1 0 0 (lit≤ tt))) h
