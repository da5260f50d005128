use Rattle.std.proofs.Common.{◌≡◌, drop}
use Rattle.gg_cut_plan.specs.Fault.{unshared}
use Rattle.gg_cut_rules.proofs.entries.groups_are_units.Given as goal

abbrev pub invariant-loop-group : goal.invariant-loop-group
invariant-loop-group l = unshared l.set l.share ≡ unshared l.set (drop l.group-index l.share)
