-- Edges of a rational clock, counted, and a clock that goes from tick to tick.
-- Source: FIRRTL Specification, "Clock" types; ratios to a base tick are this program's own. When there is an edge is
-- defined in gg_flat (`edge` in Clock).
use Rattle.std.specs.Prelude.{ℕ, zero, suc, ◌+◌, ◌≤◌, List, if◌then◌else◌}
use Rattle.gg_flat.specs.Clock.{Ratio, edge}

-- The numbers of a ratio are in range: there is an edge in at least one tick and in no more than all.
pub record IsRatio (ratio : Ratio) : Type 0 where
  pub some : 1 ≤ ratio.m
  pub within : ratio.m ≤ ratio.d
  pub small : ratio.d ≤ 65535

-- how many of the ticks before tick b have an edge
abbrev pub edge_count : Ratio → ℕ → ℕ
edge_count ratio zero = 0
edge_count ratio (suc b) = edge_count ratio b + (if edge ratio b then 1 else 0)

-- a clock that goes from tick to tick: its ratio, and how many ticks were made
pub record Ticking : Type 0 where
  pub ratio : Ratio
  pub count : ℕ

-- several clocks at a tick: the ratio of each, and the tick
pub record Timed : Type 0 where
  pub ratios : List Ratio
  pub tick : ℕ
