use Rattle.std.proofs.Common.{◌≡◌, drop}
use Rattle.gg_cut_plan.specs.Fault.{unknown_memory}
use Rattle.gg_cut_rules.proofs.entries.memories_exist.Given as goal

abbrev pub invariant-loop-path : goal.invariant-loop-path
invariant-loop-path l = unknown_memory l.tree l.memories ≡ unknown_memory l.tree (drop l.path-index l.memories)
