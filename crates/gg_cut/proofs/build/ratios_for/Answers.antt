use Rattle.std.proofs.Common.{◌≡◌, ℕ, List, None, sym, subst}
use Rattle.gg_cut_plan.specs.Fault.{ratio_fault}
use Rattle.gg_cut_split.proofs.ClosedLemmas.FaultlessLemmas.{faultless-ratios}
use Rattle.gg_cut.proofs.build.ratios_for.Goals as goal

pub clock_ratios-requires : goal.clock_ratios-requires
clock_ratios-requires c =
    record {
      range = subst (λ (l : List (List ℕ × (ℕ × ℕ))). ratio_fault l ≡ None) (sym c.as_slice.ensures) (faultless-ratios c.args.draft.now.design.now c.args.draft.now.request.now c.requires.faultless);
    }
