-- The settled row and the rows of a run, computed along an order: a plain program, written as functions. The laws say
-- that what they compute is settled, and a run.
-- Source: this program's own way to compute them; what a settled row and a run are is defined without an order.
use Rattle.std.specs.Prelude.{ℕ, zero, suc, List, [], ◌∷◌, ◌++◌, length, fold, replicate, slice_set}
use Rattle.gg_flat.specs.Line.{shape_at}
use Rattle.gg_flat.specs.Circuit.{FlatCircuit, signal_shapes, driver_at}
use Rattle.gg_flat.specs.State.{State}
use Rattle.gg_flat.specs.Settled.{driver_value}
use Rattle.gg_flat.specs.Run.{Start, later, state_at, inputs_at}

-- the values, with the value of signal s replaced by its driver's value
abbrev pub with_signal : FlatCircuit → State → List ℕ → List ℕ → ℕ → List ℕ
with_signal circuit state inputs signals s = slice_set signals s (driver_value state inputs signals (shape_at (signal_shapes circuit) s) (driver_at circuit s))

-- the values of all signals: zeros at first, then each signal of the order in turn gets its driver's value
abbrev pub settled_along : FlatCircuit → List ℕ → State → List ℕ → List ℕ
settled_along circuit order state inputs = fold (with_signal circuit state inputs) (replicate (length circuit.signals) 0) order

-- the rows of n cycles from a start
abbrev pub rows_from : FlatCircuit → List ℕ → Start → List (List ℕ) → ℕ → List (List ℕ)
rows_from circuit order start columns zero = []
rows_from circuit order start columns (suc n) =
    rows_from circuit order start columns n
    ++ settled_along circuit order (state_at circuit start (rows_from circuit order start columns n) n) (inputs_at columns (later start.cycle n)) ∷ []
