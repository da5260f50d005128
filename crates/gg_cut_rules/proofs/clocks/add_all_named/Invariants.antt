use Rattle.gg_cut_plan.specs.inside.Named.{AreNamed}
use Rattle.gg_cut_rules.proofs.clocks.add_all_named.Given as goal

abbrev pub invariant-loop-pair : goal.invariant-loop-pair
invariant-loop-pair l = AreNamed l.clocks l.pair-index l.names l.ratios.items
