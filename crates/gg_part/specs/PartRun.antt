-- The rows, states and runs of a part, taken from the whole circuit's.
-- Source: MEMOCODE 2009: the values of a part are the values of the same signals in the whole.
use Rattle.std.specs.Prelude.{ℕ, List, [], ◌∷◌, Option, Some, None, map, slice_index_or}
use Rattle.gg_flat.specs.Clock.{Ratio}
use Rattle.gg_flat.specs.Line.{value_at}
use Rattle.gg_flat.specs.Memory.{bank_at}
use Rattle.gg_flat.specs.State.{State}
use Rattle.gg_flat.specs.Run.{Start}

-- the values of the part's signals in a row of the whole
abbrev pub part_row : List ℕ → List ℕ → List ℕ
part_row globals row = map (value_at row) globals

-- the part's rows: of each row of the whole, the values of the part's signals
abbrev pub part_rows : List ℕ → List (List ℕ) → List (List ℕ)
part_rows globals rows = map (λ row. part_row globals row) rows

-- the part's state, for a state of the whole
abbrev pub part_state : List ℕ → List ℕ → State → State
part_state held memories state = record { registers = map (value_at state.registers) held; banks = map (bank_at state.banks) memories }

-- the ratio of a clock of the whole, if there is a clock: the clock of every tick, and one past the end, has an edge in each tick
abbrev pub ratio_at : List Ratio → Option ℕ → Ratio
ratio_at ratios None = record { m = 1; d = 1 }
ratio_at ratios (Some clock) = slice_index_or ratios clock (record { m = 1; d = 1 })

-- The ratios of the part's clocks, which follow these clocks of the whole. Without ratios each clock has an edge in each tick.
abbrev pub part_ratios : List (Option ℕ) → List Ratio → List Ratio
part_ratios clocks [] = []
part_ratios clocks (ratio ∷ ratios) = map (ratio_at (ratio ∷ ratios)) clocks

-- where the part's run starts, if the run of the whole starts here
abbrev pub part_start : List ℕ → List ℕ → List (Option ℕ) → Start → Start
part_start held memories clocks start = record { cycle = start.cycle; state = part_state held memories start.state; ratios = part_ratios clocks start.ratios }
