use Rattle.std.proofs.Common.{◌≡◌, drop}
use Rattle.std.specs.Prelude.{find}
use Rattle.std.specs.List.{list_any}
use Rattle.gg_cut_plan.specs.Fault.{lacks_in}
use Rattle.gg_cut_rules.proofs.counterparts.all_matched.Given as goal

abbrev pub invariant-loop-path : goal.invariant-loop-path
invariant-loop-path l = find (λ path. list_any (lacks_in l.set path) l.share) l.memories ≡ find (λ path. list_any (lacks_in l.set path) l.share) (drop l.path-index l.memories)
