use Rattle.std.proofs.Common.{subst, List, ℕ}
use Rattle.std.specs.Prelude.{Option, option_map}
use Rattle.gg_cut_plan.specs.Fault.{Tells}
use Rattle.gg_cut_plan.specs.declared.fault.CutFault.TheVariants.{UnknownUnit}
use Rattle.gg_cut_plan.proofs.FindLemmas.{unshared-same}
use Rattle.gg_cut_rules.proofs.entries.shared_are_units.Goals as goal

pub returns : goal.returns
returns c =
    subst (λ (fault : Option (List ℕ)). Tells (option_map (λ path. UnknownUnit path) fault) c.groups_are_units.result) (unshared-same c.in_ok-set.set c.args.units.now c.args.share.now c.in_ok-set.ensures.same) c.groups_are_units.ensures
