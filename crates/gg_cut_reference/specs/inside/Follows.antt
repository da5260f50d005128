-- More on Follows: what no promise of the program reaches.
-- Source: MEMOCODE 2009 (the values of each channel, cycle by cycle; a token at the start comes before them).
use Rattle.std.specs.Prelude.{◌≡◌, ℕ, List, map, take}
use Rattle.gg_flat.specs.Run.{Start, column}
use Rattle.gg_part.specs.PartRun.{part_start}
use Rattle.gg_part.specs.declared.part.Part.{Part}
use Rattle.gg_cut_plan.specs.Plan.{wire_at, channels_to, channels_from}
use Rattle.gg_cut_plan.specs.Direct.{Hub, routes}
use Rattle.gg_cut_plan.specs.Solves.{AreRows, stream}
use Rattle.gg_cut_reference.specs.Follows.{token_of}

-- ---- what machines take and give

-- the values that the producer of channel c gives, by cycle
abbrev pub given_column : Hub → List (List ℕ) → ℕ → List ℕ
given_column hub rows c = column rows (wire_at (routes hub) c).given

-- the values that the consumer of channel c takes, up to cycle `end`
abbrev pub taken_column : Hub → Start → (end : ℕ) → List (List ℕ) → ℕ → List ℕ
taken_column hub start end rows c = take end (stream start.cycle (token_of hub start.state (wire_at (routes hub) c).signal) (hub.piped (wire_at (routes hub) c).signal) (given_column hub rows c))

-- The piece of machine m has a run on what the machine takes, starting at its part of the start, and in each such run the columns of its out-signals
-- are what the machine gives.
pub record Follows (hub : Hub) (m : ℕ) (start : Start) (end : ℕ) (part : Part) (rows : List (List ℕ)) : Type 0 where
  pub own : List (List ℕ)
  pub run : AreRows part.piece (part_start part.held part.memories part.clocks start) (map (taken_column hub start end rows) (channels_to (routes hub) m)) end own
  pub gives : (others : List (List ℕ)) → AreRows part.piece (part_start part.held part.memories part.clocks start) (map (taken_column hub start end rows) (channels_to (routes hub) m)) end others → map (column others) part.piece.outs ≡ map (given_column hub rows) (channels_from (routes hub) m)
