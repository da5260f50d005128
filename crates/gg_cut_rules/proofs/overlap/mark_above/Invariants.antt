use Rattle.std.proofs.Common.{◌≡◌, ◌<◌, ℕ, length}
use Rattle.std.specs.Prelude.{◌||◌}
use Rattle.gg_order.specs.Marks.{is_marked}
use Rattle.gg_cut_plan.specs.Listed.{lies}
use Rattle.gg_cut_rules.proofs.overlap.mark_above.Given as goal

abbrev pub invariant-chain : goal.invariant-chain
invariant-chain l = record {
  within : l.node < length l.tree.instances;
  count : length l.marks ≡ length l.tree.instances;
  same : (k : ℕ) → (is_marked l.marks k || lies l.tree l.node k) ≡ (is_marked l.initial.marks k || lies l.tree l.place k);
}

abbrev pub decreases-chain : goal.decreases-chain
decreases-chain l = l.node
