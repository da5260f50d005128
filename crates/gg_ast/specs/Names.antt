-- Names: words without a dash (FIRRTL Specification, "Notes on Syntax": identifiers). A name has no dot and no dash.
use Rattle.std.specs.Prelude.{ℕ, Bool, false, ◌||◌, ◌&&◌, ◌==◌, IsTrue, List, [], ◌∷◌}
use Rattle.std.specs.Char.{is_ascii_alphabetic, is_ascii_alphanumeric}
use Rattle.std.specs.List.{list_all}

-- a letter or `_`, which may begin a name
abbrev pub begins_name : ℕ → Bool
begins_name b = is_ascii_alphabetic b || b == 95

-- a letter, a digit, `_` or `$`, which may be in a name
abbrev pub is_name_byte : ℕ → Bool
is_name_byte b = is_ascii_alphanumeric b || b == 95 || b == 36

-- a letter or `_`, followed by any number of letters, digits, `_` and `$`; the empty text is no name
abbrev pub is_name : List ℕ → Bool
is_name [] = false
is_name (b ∷ bs) = begins_name b && list_all is_name_byte bs

-- `is_name` as a fact
abbrev pub IsName : List ℕ → Type 0
IsName text = IsTrue (is_name text)
