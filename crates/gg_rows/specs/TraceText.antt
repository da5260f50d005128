-- The input trace of a demo: four rows for each stage, with a number for x in each.
-- Source: Press, Teukolsky, Vetterling, Flannery, "Numerical Recipes in C" (1992), section 7.1, the "even quicker"
-- generator: a linear congruence mod 2^32 with these two constants.
use Rattle.std.specs.Prelude.{ℕ, zero, suc, ◌+◌, ◌*◌, ◌/◌, ◌%◌, ◌^◌, List, [], ◌∷◌, ◌++◌, codes, decimal, map, flat_map}
use Rattle.std.specs.Char.{digit_char}
use Rattle.std.specs.List.{range_with_len}

-- the number after u: the lower 32 bits of 1,664,525 times u plus 1,013,904,223
abbrev pub next_number : ℕ → ℕ
next_number u = (1664525 * u + 1013904223) % 2 ^ 32

-- the number in row t: the seed in the first row
abbrev pub number_at : (seed t : ℕ) → ℕ
number_at seed zero = seed
number_at seed (suc t) = next_number (number_at seed t)

-- the last eight hexadecimal digits of a value, in lower case, the highest first
abbrev pub eight_digits : ℕ → List ℕ
eight_digits value = map (λ place. digit_char (value / 16 ^ place % 16)) (7 ∷ 6 ∷ 5 ∷ 4 ∷ 3 ∷ 2 ∷ 1 ∷ 0 ∷ [])

-- the number of rows of a demo with this many stages
abbrev pub demo_cycles : (size : ℕ) → ℕ
demo_cycles size = 4 * size

-- a row: its number, a blank, and the value of x
abbrev pub number_line : (seed t : ℕ) → List ℕ
number_line seed t = decimal t ++ (codes " " ++ (eight_digits (number_at seed t) ++ codes "\n"))

-- The text of the trace for a seed and this many stages.
abbrev pub demo_trace : (seed size : ℕ) → List ℕ
demo_trace seed size = codes "cycle x\n" ++ flat_map (number_line seed) (range_with_len 0 (demo_cycles size))
