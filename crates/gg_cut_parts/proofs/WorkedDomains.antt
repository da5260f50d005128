-- Clock inputs of units, worked by hand.
--
-- The top has the clocks 0 and 1. Its instance `u` has them crossed, its instance `v` has them straight. `w` lies in `u`, and its only
-- Clock input is the second one of `u`.
use Rattle.std.proofs.Common.{◌≡◌, ℕ, [], ◌∷◌, Bool, Some, None, refl, lit<}
use Rattle.std.specs.Prelude.{◌==◌, codes}
use Rattle.std.specs.List.{list_any}
use Rattle.gg_flat_tree.specs.Clocked.{top_clocks}
use Rattle.gg_flat_tree.specs.Tree.{InstanceTree}
use Rattle.gg_part.specs.inside.Domains.{inner_clocks}
use Rattle.gg_part.specs.inside.Clocking.{LeadsTo}
use Rattle.gg_cut_plan.specs.declared.listed.Listed.{Listed}
use Rattle.gg_cut_plan.specs.Plan.{machine_clocks}

abbrev tree : InstanceTree
tree =
    record {
      paths = [] ∷ codes "u" ∷ codes "u.w" ∷ codes "v" ∷ [];
      instances =
          record { parent = None; «module» = 2; first = 0; end = 0; ports = []; memories = []; clocks = Some 0 ∷ Some 1 ∷ [] }
          ∷ record { parent = Some 0; «module» = 1; first = 0; end = 0; ports = []; memories = []; clocks = Some 1 ∷ Some 0 ∷ [] }
          ∷ record { parent = Some 1; «module» = 0; first = 0; end = 0; ports = []; memories = []; clocks = Some 1 ∷ [] }
          ∷ record { parent = Some 0; «module» = 1; first = 0; end = 0; ports = []; memories = []; clocks = Some 0 ∷ Some 1 ∷ [] } ∷ [];
      memory_paths = [];
      memories = [];
      clocks = codes "c1" ∷ codes "c2" ∷ [];
      register_clocks = [];
      stops = [];
    }

abbrev listed : Listed
listed = record { units = 1 ∷ 3 ∷ []; memories = [] }

abbrev is_home : ℕ → Bool
is_home k = list_any (λ unit. k == unit) listed.units

-- ---- the clocks of machines

hub : machine_clocks tree listed 0 ≡ Some 0 ∷ Some 1 ∷ []
hub = refl

crossed : machine_clocks tree listed 1 ≡ Some 1 ∷ Some 0 ∷ []
crossed = refl

straight : machine_clocks tree listed 2 ≡ Some 0 ∷ Some 1 ∷ []
straight = refl

-- ---- inside of the units

u-inside : inner_clocks is_home tree 1 ≡ Some 0 ∷ Some 1 ∷ []
u-inside = refl

w-inside : inner_clocks is_home tree 2 ≡ Some 1 ∷ []
w-inside = refl

v-inside : inner_clocks is_home tree 3 ≡ Some 0 ∷ Some 1 ∷ []
v-inside = refl

w-outside : top_clocks tree 2 ≡ Some 0 ∷ []
w-outside = refl

-- what follows `w`'s clock follows the second one of `u`
leads : LeadsTo (machine_clocks tree listed 1) (Some 0) (Some 1)
leads = record { known = lit< tt; leads = refl }

-- a clock of the top isn't the unit's of the same number
same-number : ¬ LeadsTo (machine_clocks tree listed 1) (Some 0) (Some 0)
same-number is = let wrong : Some 1 ≡ Some 0 = is.leads in absurd (cc)
