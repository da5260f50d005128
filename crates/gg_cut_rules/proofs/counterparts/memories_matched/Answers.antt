use Rattle.std.proofs.Common.{subst, List, ℕ}
use Rattle.std.specs.Prelude.{Option, option_map}
use Rattle.gg_cut_plan.specs.Fault.{Tells}
use Rattle.gg_cut_plan.specs.declared.fault.CutFault.TheVariants.{Unmatched}
use Rattle.gg_cut_plan.proofs.CounterpartLemmas.{unmatched-same}
use Rattle.gg_cut_rules.proofs.counterparts.memories_matched.Goals as goal

pub returns : goal.returns
returns c =
    subst (λ (fault : Option (List ℕ)). Tells (option_map (λ path. Unmatched path) fault) c.all_matched.result) (unmatched-same c.in_ok-set.set c.args.memories.now c.args.share.now c.in_ok-set.ensures.same) c.all_matched.ensures
