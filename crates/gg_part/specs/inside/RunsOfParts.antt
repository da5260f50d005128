-- A run of a circuit contains the runs of its parts.
-- Source: MEMOCODE 2009: the values of a part are the values of the same signals in the whole.
use Rattle.std.specs.Prelude.{◌≡◌, ℕ, ◌<◌, List, Option, length}
use Rattle.gg_flat.specs.Circuit.{FlatCircuit}
use Rattle.gg_flat.specs.Clock.{Ratio}
use Rattle.gg_flat.specs.Line.{value_at}
use Rattle.gg_flat.specs.Order.{IsOrder}
use Rattle.gg_flat.specs.Run.{Start, later, IsRunFrom, IsColumns, clocked_start, row_at, inputs_at}
use Rattle.gg_flat.specs.State.{IsState}
use Rattle.gg_flat.specs.inside.InOrder.{IsAlong}
use Rattle.gg_flat.specs.InOrder.{IsInOrder}
use Rattle.gg_part.specs.Part.{IsPart}
use Rattle.gg_part.specs.PartRun.{part_rows, part_ratios, part_start}
use Rattle.gg_part.specs.inside.PartRun.{part_columns}

-- ---- runs

-- From any start, a part of a run is a run of the part.
abbrev pub PartsRunFromStarts : Type 0
PartsRunFromStarts =
    (whole part : FlatCircuit) (globals held memories : List ℕ) (clocks : List (Option ℕ))
    (start : Start) (columns inputs : List (List ℕ)) (n : ℕ) (rows : List (List ℕ))
    -- The part has these signals, registers and memories of the whole.
    → IsPart whole part globals held memories clocks
    -- The whole has a run of n cycles from the start.
    → IsState whole start.state → IsRunFrom whole start columns n rows
    -- In each cycle the part's inputs are the values that its in-signals have in the run.
    → ((t place : ℕ) → t < n → place < length part.ins → value_at (inputs_at inputs (later start.cycle t)) place ≡ value_at (row_at rows t) (value_at globals (value_at part.ins place)))
    -- Then the values of the part's signals are a run of the part from its own start.
    → IsRunFrom part (part_start held memories clocks start) inputs n (part_rows globals rows)

-- From the opening, a part of a run is a run of the part on the values of its in-signals.
abbrev pub PartsRunFromOpening : Type 0
PartsRunFromOpening =
    (whole part : FlatCircuit) (globals held memories : List ℕ) (clocks : List (Option ℕ))
    (ratios : List Ratio) (columns : List (List ℕ)) (n : ℕ) (rows : List (List ℕ))
    -- The part has these signals, registers and memories of the whole.
    → IsPart whole part globals held memories clocks
    -- The whole has a run of n cycles with these ratios for its clocks.
    → IsRunFrom whole (clocked_start whole ratios) columns n rows
    -- Then the values of the part's signals are a run of the part. Each of its clocks has the ratio of the clock that it follows.
    → IsRunFrom part (clocked_start part (part_ratios clocks ratios)) (part_columns globals part rows) n (part_rows globals rows)

-- A part can take the values of its in-signals as its inputs.
abbrev pub PartsTakeColumns : Type 0
PartsTakeColumns =
    (whole part : FlatCircuit) (globals held memories : List ℕ) (clocks : List (Option ℕ))
    (ratios : List Ratio) (columns : List (List ℕ)) (n : ℕ) (rows : List (List ℕ))
    -- The part has these signals, registers and memories of the whole.
    → IsPart whole part globals held memories clocks
    -- The whole has a run of n cycles with these ratios for its clocks.
    → IsRunFrom whole (clocked_start whole ratios) columns n rows
    -- Then the columns of the part's in-signals are inputs of the part for n cycles.
    → IsColumns part n (part_columns globals part rows)

-- ---- orders

-- A part that is listed along an order of the whole is in an order of evaluation.
abbrev pub PartsKeepOrder : Type 0
PartsKeepOrder =
    (whole part : FlatCircuit) (globals held memories order : List ℕ) (clocks : List (Option ℕ))
    -- The part has these signals, registers and memories of the whole.
    → IsPart whole part globals held memories clocks
    -- The signals are listed along an order of the whole.
    → IsOrder whole order → IsAlong order globals
    -- Then each signal of the part reads only earlier ones.
    → IsInOrder part
