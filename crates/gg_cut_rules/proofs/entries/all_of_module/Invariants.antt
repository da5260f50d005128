use Rattle.std.proofs.Common.{◌≡◌, drop}
use Rattle.std.specs.Prelude.{find, not, ◌==◌}
use Rattle.gg_cut_plan.specs.Fault.{module_of}
use Rattle.gg_cut_rules.proofs.entries.all_of_module.Given as goal

abbrev pub invariant-loop-path : goal.invariant-loop-path
invariant-loop-path l =
    find (λ path. not (module_of l.tree path == l.«module»)) l.group ≡ find (λ path. not (module_of l.tree path == l.«module»)) (drop l.path-index l.group)
