use Rattle.std.proofs.Common.{◌≡◌, map, take}
use Rattle.gg_cut_plan.specs.Clocks.{ratio_of}
use Rattle.gg_cut_rules.proofs.clocks.clock_ratios.Given as goal

abbrev pub invariant-loop-name : goal.invariant-loop-name
invariant-loop-name l = l.ratios.items ≡ map (ratio_of l.clocks) (take l.name-index l.name-items)
