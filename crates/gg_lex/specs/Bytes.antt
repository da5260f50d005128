-- The classes of bytes that the tokens of a FIRRTL line are made of (FIRRTL Specification, "Notes on Syntax":
-- identifiers, integer and string literals, comments).
use Rattle.std.specs.Prelude.{ℕ, Bool, false, ◌||◌, ◌&&◌, ◌==◌, nat_lt, if◌then◌else◌}
use Rattle.std.specs.Char.{is_ascii_alphabetic, is_ascii_alphanumeric, is_ascii_digit, is_ascii_hexdigit}

-- The characters, except letters and digits, that the definitions of classes, texts, comments and file information name, with their ASCII
-- codes.
abbrev pub tab : ℕ
tab = 9

-- the space, which may be between tokens, as a tab may
abbrev pub space : ℕ
space = 32

-- `"`, the first and the last byte of a text
abbrev pub quote : ℕ
quote = 34

-- `$`, which may be in a word, but not at its beginning
abbrev pub dollar : ℕ
dollar = 36

-- `-`, the sign of a number; it may also be in a word's tail
abbrev pub minus : ℕ
minus = 45

-- `0`, the first digit of a number that names its radix by a letter
abbrev pub zero_digit : ℕ
zero_digit = 48

-- `;`, the first byte of a comment
abbrev pub semicolon : ℕ
semicolon = 59

-- `@`, the first byte of a file information
abbrev pub at_sign : ℕ
at_sign = 64

-- `[`, the second byte of a file information
abbrev pub open_bracket : ℕ
open_bracket = 91

-- `\`, which goes before a quote in a text, and before a `]` in a file information
abbrev pub backslash : ℕ
backslash = 92

-- `]`, the last byte of a file information
abbrev pub close_bracket : ℕ
close_bracket = 93

-- `_`, which may be anywhere in a name
abbrev pub underscore : ℕ
underscore = 95

-- a space or a tab
abbrev pub is_blank : ℕ → Bool
is_blank b = b == space || b == tab

-- a letter or `_`, which may begin a word
abbrev pub starts_word : ℕ → Bool
starts_word b = is_ascii_alphabetic b || b == underscore

-- 0 or 1
abbrev pub is_binary_digit : ℕ → Bool
is_binary_digit b = b == 48 || b == 49

-- 0 to 7
abbrev pub is_octal_digit : ℕ → Bool
is_octal_digit b = nat_lt 47 b && nat_lt b 56

-- The digits that may follow a letter. Each radix has its letter: `b` for 2, `o` for 8, `d` for 10 and `h` for 16. The digits after `h` may
-- be of either case. No digit may follow any other letter.
abbrev pub is_digit_behind : ℕ → ℕ → Bool
is_digit_behind letter b =
    if letter == 98 then is_binary_digit b
    else (if letter == 111 then is_octal_digit b else (if letter == 100 then is_ascii_digit b else (if letter == 104 then is_ascii_hexdigit b else false)))

-- a letter, a digit, `_` or `$`, which may be in a word
abbrev pub is_word_byte : ℕ → Bool
is_word_byte b = is_ascii_alphanumeric b || b == underscore || b == dollar

-- a letter or `-`, which may be in a word's tail, as in `read-under-write`
abbrev pub is_tail_byte : ℕ → Bool
is_tail_byte b = is_ascii_alphabetic b || b == minus
