use Rattle.std.proofs.Common.{◌≡◌, take, map}
use Rattle.gg_cut_plan.specs.Listed.{instance_of}
use Rattle.gg_cut_rules.proofs.signals.listed_units.Given as goal

abbrev pub invariant-loop-path : goal.invariant-loop-path
invariant-loop-path l = l.found.items ≡ map (instance_of l.tree) (take l.path-index l.units)
