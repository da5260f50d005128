use Rattle.std.proofs.Common.{◌≡◌, drop}
use Rattle.gg_cut_plan.specs.Fault.{other_module}
use Rattle.gg_cut_rules.proofs.entries.one_module_each.Given as goal

abbrev pub invariant-loop-group : goal.invariant-loop-group
invariant-loop-group l = other_module l.tree l.share ≡ other_module l.tree (drop l.group-index l.share)
