use Rattle.std.proofs.Common.{◌≡◌, drop}
use Rattle.gg_cut_plan.specs.Fault.{unknown_unit}
use Rattle.gg_cut_rules.proofs.entries.units_exist.Given as goal

abbrev pub invariant-loop-path : goal.invariant-loop-path
invariant-loop-path l = unknown_unit l.tree l.units ≡ unknown_unit l.tree (drop l.path-index l.units)
