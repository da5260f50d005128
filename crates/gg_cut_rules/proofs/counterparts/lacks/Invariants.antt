use Rattle.std.proofs.Common.{◌≡◌, drop}
use Rattle.std.specs.List.{list_any}
use Rattle.gg_cut_plan.specs.Fault.{lacks_in}
use Rattle.gg_cut_rules.proofs.counterparts.lacks.Given as goal

abbrev pub invariant-loop-group : goal.invariant-loop-group
invariant-loop-group l = list_any (lacks_in l.set l.path) l.share ≡ list_any (lacks_in l.set l.path) (drop l.group-index l.share)
