use Rattle.std.proofs.Common.{◌++◌, [], ◌∷◌, ◌∙◌, ℕ, length, sym, ap, ap₂, arith}
use Rattle.std.specs.Prelude.{if◌then◌else◌}
use Rattle.gg_flat_tree.specs.Tree.{path_at}
use Rattle.gg_cut_plan.specs.Listed.{is_among}
use Rattle.gg_cut_plan.proofs.RangeLemmas.{filter-more, filter-few}
use Rattle.gg_cut_rules.proofs.signals.memories_in.Goals as goal

pub loop-place-preserved : goal.loop-place-preserved
loop-place-preserved c =
    c.in_ok-push_if.ensures
    ∙ ap₂ (λ found chosen. found ++ (if chosen then c.loop-place.place ∷ [] else [])) c.loop-place.invariant c.has_memory-chosen.ensures
    ∙ sym (filter-more (λ j. is_among c.args.set.now (path_at c.args.tree.now.memory_paths j)) c.loop-place.place)

pub returns-clause-few : goal.returns-clause-few
returns-clause-few c =
    let test = λ (j : ℕ). is_among c.args.set.now (path_at c.args.tree.now.memory_paths j) in
    let few = filter-few test 0 c.loop-place.place in
    omega (arith, ap length c.loop-place.invariant, few, c.loop-place.auto.place-end, c.memory_count-place-end.ensures.count, c.memory_count-place-end.ensures.few)
