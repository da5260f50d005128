use Rattle.std.proofs.Common.{◌≡◌, drop}
use Rattle.std.specs.Prelude.{find, not}
use Rattle.gg_cut_plan.specs.Listed.{is_among}
use Rattle.gg_cut_rules.proofs.entries.group_is_units.Given as goal

abbrev pub invariant-loop-path : goal.invariant-loop-path
invariant-loop-path l = find (λ path. not (is_among l.set path)) l.group ≡ find (λ path. not (is_among l.set path)) (drop l.path-index l.group)
