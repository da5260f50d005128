-- Worked rows: what the definitions make of small circuits by hand.
use Rattle.std.proofs.Common.{◌≡◌, ℕ, List, [], ◌∷◌, refl}
use Rattle.gg_flat.specs.Run.{column}
use Rattle.gg_flat.specs.inside.Along.{rows_along}
use Rattle.gg_flat.proofs.WorkedCircuits.{counter, counter_order, toggle, toggle_order, loaded, loaded_order}

abbrev pub counter_inputs : List (List ℕ)
counter_inputs = (1 ∷ 0 ∷ 0 ∷ 0 ∷ []) ∷ []

-- `reset` is 1, 0, 0, 0; `out` is 0, 0, 1, 2
counter-out : column (rows_along counter counter_order counter_inputs 4) 1 ≡ 0 ∷ 0 ∷ 1 ∷ 2 ∷ []
counter-out = refl

-- no cycle, no value
counter-none : column (rows_along counter counter_order ([] ∷ []) 0) 1 ≡ []
counter-none = refl

-- `q` is 0, 1, 0
toggle-q : column (rows_along toggle toggle_order [] 3) 0 ≡ 0 ∷ 1 ∷ 0 ∷ []
toggle-q = refl

abbrev pub loaded_inputs : List (List ℕ)
loaded_inputs = (0 ∷ 1 ∷ 0 ∷ 0 ∷ 1 ∷ 0 ∷ []) ∷ []

-- `set` is 0, 1, 0, 0, 1, 0; `c` is 0, 1, 5, 6, 7, 5
loaded-c : column (rows_along loaded loaded_order loaded_inputs 6) 1 ≡ 0 ∷ 1 ∷ 5 ∷ 6 ∷ 7 ∷ 5 ∷ []
loaded-c = refl
