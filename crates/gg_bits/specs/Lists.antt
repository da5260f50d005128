-- Functions on lists and options for definitions of several crates.
-- Source: none; these are words for definitions.
use Rattle.std.specs.Prelude.{ℕ, zero, suc, ◌+◌, Bool, true, false, List, [], ◌∷◌, Option, Some, None, if◌then◌else◌}
use Rattle.std.specs.Str.{bytes_eq}

-- the value of the first entry with this word; none if no entry has it
abbrev pub find_word : {A : Type 0} → List ℕ → List (List ℕ × A) → Option A
find_word word [] = None
find_word word (entry ∷ table) = if bytes_eq word entry.0 then Some entry.1 else find_word word table

-- the first of two options if it has a value, otherwise the second
abbrev pub or_else : {A : Type 0} → Option A → Option A → Option A
or_else None later = later
or_else (Some first) later = Some first

-- the first value in a list of options; none if all are none
abbrev pub first_of : {A : Type 0} → List (Option A) → Option A
first_of [] = None
first_of (option ∷ options) = or_else option (first_of options)

-- 1 for true, 0 for false
abbrev pub one_if : Bool → ℕ
one_if true = 1
one_if false = 0

-- how many numbers below n pass the test
abbrev pub count_below : (ℕ → Bool) → ℕ → ℕ
count_below pass zero = 0
count_below pass (suc n) = count_below pass n + one_if (pass n)

-- `f` of each item of a list, with its number; the first number is n
abbrev pub by_number : {A B : Type 0} → (ℕ → A → B) → ℕ → List A → List B
by_number f n [] = []
by_number f n (x ∷ xs) = f n x ∷ by_number f (suc n) xs

-- `base` plus the place; `own` if there is no place
abbrev pub number_or : ℕ → ℕ → Option ℕ → ℕ
number_or base own None = own
number_or base own (Some place) = base + place
