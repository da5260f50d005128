use Rattle.std.proofs.Common.{◌≡◌, drop}
use Rattle.gg_cut_plan.specs.Fault.{ratio_fault}
use Rattle.gg_cut_rules.proofs.clocks.ratios_in_range.Given as goal

abbrev pub invariant-loop-pair : goal.invariant-loop-pair
invariant-loop-pair l = ratio_fault l.clocks ≡ ratio_fault (drop l.pair-index l.clocks)
