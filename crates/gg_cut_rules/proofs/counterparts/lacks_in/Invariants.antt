use Rattle.std.proofs.Common.{◌≡◌, drop}
use Rattle.std.specs.List.{list_any}
use Rattle.gg_cut_plan.specs.Fault.{lacks_in, lacks_counterpart, rest_behind}
use Rattle.gg_cut_rules.proofs.counterparts.lacks_in.Given as goal

abbrev pub invariant-loop-unit : goal.invariant-loop-unit
invariant-loop-unit l = lacks_in l.set l.path l.group ≡ list_any (λ unit. lacks_counterpart l.set l.group (rest_behind unit l.path)) (drop l.unit-index l.group)
