use Rattle.std.proofs.Common.{◌≡◌, ◌++◌, drop, take}
use Rattle.gg_cut_plan.specs.Fault.{first_clash, same_path}
use Rattle.gg_cut_rules.proofs.entries.add_all.Given as goal

abbrev pub invariant-loop-path : goal.invariant-loop-path
invariant-loop-path l = record {
  clash : first_clash same_path l.initial.seen l.paths ≡ first_clash same_path l.seen (drop l.path-index l.paths);
  seen : l.seen ≡ l.initial.seen ++ take l.path-index l.paths;
}
