use Rattle.std.proofs.Common.{◌≡◌, drop}
use Rattle.gg_cut_plan.specs.Fault.{range_fault}
use Rattle.gg_cut_rules.proofs.capacities.capacities_in_range.Given as goal

abbrev pub invariant-loop-pair : goal.invariant-loop-pair
invariant-loop-pair l = range_fault l.capacities ≡ range_fault (drop l.pair-index l.capacities)
