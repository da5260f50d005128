use Rattle.std.proofs.Common.{◌≡◌, drop}
use Rattle.gg_cut_plan.specs.Fault.{unknown_clock}
use Rattle.gg_cut_rules.proofs.clocks.clocks_among.Given as goal

abbrev pub invariant-loop-pair : goal.invariant-loop-pair
invariant-loop-pair l = unknown_clock l.set l.clocks ≡ unknown_clock l.set (drop l.pair-index l.clocks)
