-- More on Clocks: what no promise of the program reaches.
use Rattle.std.specs.Prelude.{ℕ, List, [], ◌∷◌, Option}
use Rattle.gg_ast.specs.declared.module.Port.{Port}
use Rattle.gg_types.specs.Clocks.{clock_number, counted_clock}

-- ---- which Clock input

-- `clock_number` for each port
abbrev pub clock_numbers : ℕ → List Port → List (Option ℕ)
clock_numbers count [] = []
clock_numbers count (p ∷ ps) = clock_number count p ∷ clock_numbers (counted_clock count p) ps
