use Rattle.std.proofs.Common.{◌≡◌, ◌++◌, drop}
use Rattle.std.specs.Prelude.{not}
use Rattle.std.specs.List.{list_any}
use Rattle.gg_cut_plan.specs.Listed.{is_among}
use Rattle.gg_cut_rules.proofs.counterparts.lacks_rest.Given as goal

abbrev pub invariant-loop-unit : goal.invariant-loop-unit
invariant-loop-unit l = list_any (λ unit. not (is_among l.set (unit ++ l.rest))) l.group ≡ list_any (λ unit. not (is_among l.set (unit ++ l.rest))) (drop l.unit-index l.group)
