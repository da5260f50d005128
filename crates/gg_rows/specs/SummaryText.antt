-- The summary of a demo: four lines.
-- Source: this program's own.
use Rattle.std.specs.Prelude.{ℕ, zero, suc, ◌-◌, List, ◌++◌, codes, decimal, bit_xor, slice_index}
use Rattle.gg_rows.specs.TraceText.{demo_cycles, eight_digits}

-- the exclusive or of the first n values of a column
abbrev pub folded : (column : List ℕ) (n : ℕ) → ℕ
folded column zero = 0
folded column (suc n) = bit_xor (folded column n) (slice_index column n)

-- the demo's seed, its size and its number of cycles
abbrev pub size_line : (seed size : ℕ) → List ℕ
size_line seed size = codes "demo seed " ++ (decimal seed ++ (codes " size " ++ (decimal size ++ (codes " cycles " ++ (decimal (demo_cycles size) ++ codes "\n")))))

-- the size of the demo's network: machines, channels, and the steps that it takes from its opening to its end
abbrev pub network_line : (machines channels steps : ℕ) → List ℕ
network_line machines channels steps = codes "machines " ++ (decimal machines ++ (codes " channels " ++ (decimal channels ++ (codes " steps " ++ (decimal steps ++ codes "\n")))))

-- a value of y and one of z
abbrev pub last_line : (y z : ℕ) → List ℕ
last_line y z = codes "last " ++ (eight_digits y ++ (codes " " ++ (eight_digits z ++ codes "\n")))

-- the exclusive or of all values of y, and the exclusive or of all values of z
abbrev pub fold_line : (y z : ℕ) → List ℕ
fold_line y z = codes "fold " ++ (eight_digits y ++ (codes " " ++ (eight_digits z ++ codes "\n")))

-- The summary, for the columns of the outputs y and z. It ends with the values of the last row, and the exclusive or of
-- all rows.
abbrev pub demo_summary : (seed size machines channels steps : ℕ) (ys zs : List ℕ) → List ℕ
demo_summary seed size machines channels steps ys zs = size_line seed size ++ network_line machines channels steps
    ++ last_line (slice_index ys (demo_cycles size - 1)) (slice_index zs (demo_cycles size - 1))
    ++ fold_line (folded ys (demo_cycles size)) (folded zs (demo_cycles size))
