-- How many rows of a run are written: the first cycle where a stop acts has the last one.
-- Source: FIRRTL Specification, "Stop" (a stop halts the simulation if its condition is one, at an edge of its clock). That the row of this
-- cycle is still written is this program's own.
use Rattle.std.specs.Prelude.{ℕ, zero, suc, List, [], ◌∷◌, Bool, false, ◌&&◌, ◌||◌, ◌==◌, if◌then◌else◌}
use Rattle.std.specs.List.{list_any}
use Rattle.gg_flat.specs.Clock.{Ratio, edge}
use Rattle.gg_trace.specs.Table.{row_of}

-- Whether a stop acts in tick t, if the stops have these conditions: one of these is 1, and the stop's clock has an edge in the tick.
-- `ratios` has the ratios of the stops' clocks; without ratios each clock has an edge in each tick.
abbrev pub acts : List Ratio → (t : ℕ) → List ℕ → Bool
acts [] t conditions = list_any (λ condition. condition == 1) conditions
acts (ratio ∷ ratios) t [] = false
acts (ratio ∷ ratios) t (condition ∷ conditions) = ((condition == 1) && edge ratio t) || acts ratios t conditions

-- whether a stop acts in cycle t, where `stops` has the column of each stop's condition, and `ratios` the ratios of the stops' clocks
abbrev pub halts : List Ratio → List (List ℕ) → ℕ → Bool
halts ratios stops t = acts ratios t (row_of stops t)

-- whether one of the first n cycles halts the run, where `is_halt` is true of the cycles that do
abbrev pub has_halted : (is_halt : ℕ → Bool) → ℕ → Bool
has_halted is_halt zero = false
has_halted is_halt (suc n) = has_halted is_halt n || is_halt n

-- How many of n cycles have a row: all cycles up to the first that halts the run, this one too; all n if none does.
abbrev pub row_count : (is_halt : ℕ → Bool) → ℕ → ℕ
row_count is_halt zero = zero
row_count is_halt (suc n) = if has_halted is_halt n then row_count is_halt n else suc n
