-- More on Bytes: what no promise of the program reaches.
use Rattle.std.specs.Prelude.{ℕ, Bool, ◌||◌, ◌==◌}
use Rattle.std.specs.Char.{is_ascii_digit, is_ascii_hexdigit}
use Rattle.gg_lex.specs.declared.bytes.Class.{Class}
use Rattle.gg_lex.specs.declared.bytes.Class.TheVariants.{Blank, WordByte, TailByte, BinaryDigit, OctalDigit, DecimalDigit, HexDigit}
use Rattle.gg_lex.specs.Bytes.{is_binary_digit, is_blank, is_octal_digit, is_tail_byte, is_word_byte, minus}

-- `-` or a digit, which may begin a number
abbrev pub begins_number : ℕ → Bool
begins_number b = b == minus || is_ascii_digit b

-- the bytes of a run of this class
abbrev pub is_in_class : Class → ℕ → Bool
is_in_class Blank = is_blank
is_in_class WordByte = is_word_byte
is_in_class TailByte = is_tail_byte
is_in_class BinaryDigit = is_binary_digit
is_in_class OctalDigit = is_octal_digit
is_in_class DecimalDigit = is_ascii_digit
is_in_class HexDigit = is_ascii_hexdigit
