-- Clocks: how often each has an edge, and what goes on in a tick.
-- Source: FIRRTL Specification, "Clock" types (a register and a memory's port each follow one clock). Ratios of clocks
-- to a base tick are this program's own.
use Rattle.std.specs.Prelude.{ℕ, suc, ◌*◌, ◌/◌, List, map, Option, Some, None, Bool, true, nat_lt, slice_index_or}

-- How often a clock has an edge: in m of d base ticks.
pub record Ratio : Type 0 where
  pub m : ℕ
  pub d : ℕ

-- Whether the clock has an edge at tick b. If m is at most d, there are n * m / d edges in the first n ticks, rounded down. If d is 0 there is none.
abbrev pub edge : Ratio → ℕ → Bool
edge ratio b = nat_lt (b * ratio.m / ratio.d) (suc b * ratio.m / ratio.d)

-- the edges of these clocks at tick b
abbrev pub edges_at : List Ratio → ℕ → List Bool
edges_at ratios b = map (λ ratio. edge ratio b) ratios

-- Whether something with this clock goes on in a tick with these edges. None is the clock of every tick. A clock past
-- the end has an edge.
abbrev pub ticks : List Bool → Option ℕ → Bool
ticks edges None = true
ticks edges (Some clock) = slice_index_or edges clock true
