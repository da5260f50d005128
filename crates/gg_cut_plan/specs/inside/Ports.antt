-- More on Ports: what no promise of the program reaches.
-- Source: ICCAD 2019 (bridges: models in the host's own code that stand at a target's ports).
use Rattle.std.specs.Prelude.{◌≡◌, ℕ, ◌<◌, Some, length}
use Rattle.gg_bits.specs.Lists.{count_below}
use Rattle.gg_cut_plan.specs.declared.listed.Listed.{Listed}
use Rattle.gg_cut_plan.specs.Ports.{Bridges, undriven, unseen}
use Rattle.gg_cut_plan.specs.inside.Machines.{Counts}

-- bridges are among `count`
pub record AreBridges (b : Bridges) : Type 0 where
  pub drivers : (p k : ℕ) → b.driver p ≡ Some k → k < b.count
  pub viewers : (p k : ℕ) → b.viewer p ≡ Some k → k < b.count

-- how many machines a cut has of each kind
abbrev pub counts_of : Listed → Bridges → Counts
counts_of listed b =
    record {
      units = length listed.units;
      memories = length listed.memories;
      sources = count_below (undriven b) b.ins;
      trays = count_below (unseen b) b.outs;
      bridges = b.count;
    }
