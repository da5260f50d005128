use Rattle.std.proofs.Common.{◌≡◌, ◌<◌, ℕ, List, length}
use Rattle.std.specs.List.{list_any}
use Rattle.gg_cut_plan.specs.inside.Listed.{AreMarks}
use Rattle.gg_cut_plan.specs.Listed.{lies}
use Rattle.gg_cut_rules.proofs.overlap.lies_in_marked.Given as goal

abbrev pub invariant-chain : goal.invariant-chain
invariant-chain l = record {
  within : l.node < length l.tree.instances;
  same : (units : List ℕ) → AreMarks units l.marks → list_any (lies l.tree l.place) units ≡ list_any (lies l.tree l.node) units;
}

abbrev pub decreases-chain : goal.decreases-chain
decreases-chain l = l.node
