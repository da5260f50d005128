-- The ratios of a design's clocks: the ratios that a request gives, by the names of the top's Clock inputs.
-- Source: FIRRTL Specification, "Clock" types and "Modules" (ports of the top); FireSim's clock domains, whose ratios to a base clock
-- are rational. That names stand for ratios, and their range, are this program's own.
use Rattle.std.specs.Prelude.{ℕ, List, Option, Bool, ◌&&◌, map, find, option_map, unwrap_or, bytes_eq, nat_le}
use Rattle.gg_flat.specs.Clock.{Ratio}
use Rattle.gg_flat_tree.specs.Clocked.{clock_at, top_clocks}
use Rattle.gg_flat_tree.specs.Tree.{InstanceTree}
use Rattle.gg_part.specs.PartRun.{part_ratios}
use Rattle.gg_partfile.specs.declared.request.Request.{Request}

-- the greatest number of base ticks of a ratio
abbrev pub most_ticks : ℕ
most_ticks = 65535

-- whether a clock can have an edge in m of d base ticks
abbrev pub is_ratio : (m d : ℕ) → Bool
is_ratio m d = nat_le 1 m && nat_le m d && nat_le d most_ticks

-- the ratio 1 of 1: an edge in each tick
abbrev pub every_tick : Ratio
every_tick = record { m = 1; d = 1 }

-- the ratio of two numbers
abbrev pub ratio_with : ℕ × ℕ → Ratio
ratio_with numbers = record { m = numbers.0; d = numbers.1 }

-- the ratio of the clock with a name: the given one, otherwise an edge in each tick
abbrev pub ratio_of : List (List ℕ × (ℕ × ℕ)) → List ℕ → Ratio
ratio_of clocks name = unwrap_or (option_map (λ pair. ratio_with pair.1) (find (λ pair. bytes_eq pair.0 name) clocks)) every_tick

-- the ratios of the circuit's clocks, which are the top's Clock inputs, in port order
abbrev pub ratios_of : InstanceTree → Request → List Ratio
ratios_of tree request = map (ratio_of request.clocks) tree.clocks

-- the clock of the circuit that each stop follows, in the order of the stops
abbrev pub stop_clocks : InstanceTree → List (Option ℕ)
stop_clocks tree = map (λ stop. clock_at (top_clocks tree stop.instance) stop.clock) tree.stops

-- the ratios of the stops' clocks, if the circuit's clocks have these ratios; without ratios there is none, and each clock has an edge in each tick
abbrev pub stop_ratios : InstanceTree → List Ratio → List Ratio
stop_ratios tree ratios = part_ratios (stop_clocks tree) ratios
