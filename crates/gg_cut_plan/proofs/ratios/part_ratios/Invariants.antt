use Rattle.std.proofs.Common.{◌≡◌, map, take}
use Rattle.gg_part.specs.PartRun.{ratio_at}
use Rattle.gg_cut_plan.proofs.ratios.part_ratios.Given as goal

abbrev pub invariant-loop-clock : goal.invariant-loop-clock
invariant-loop-clock l = l.own.items ≡ map (ratio_at l.ratios) (take l.clock-index l.clocks)
