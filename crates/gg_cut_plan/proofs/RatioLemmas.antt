-- The clocks that stops follow, and the ratios of clocks that follow those of a circuit.
use Rattle.std.proofs.Common.{◌≡◌, ℕ, zero, suc, ◌<◌, ◌≤◌, List, [], ◌∷◌, length, map, get_or, false, true≢false, Option, None, refl, sym, ◌∙◌, ap, ap₂, arith, ◌⊎◌, inl, inr}
use Rattle.std.specs.Prelude.{◌==◌}
use Rattle.std.proofs.lemmas.Bool.{cases_lt}
use Rattle.std.proofs.lemmas.List.{get_or_past}
use Rattle.gg_flat.specs.Clock.{Ratio}
use Rattle.gg_flat_tree.specs.Clocked.{clock_at, clocks_up, through_parent, top_clocks}
use Rattle.gg_flat_tree.specs.Tree.{InstanceTree}
use Rattle.gg_flat_tree.specs.declared.tree.Instance.{Instance}
use Rattle.gg_flat_tree.specs.declared.tree.StopInstance.{StopInstance}
use Rattle.gg_part.specs.PartRun.{part_ratios, ratio_at}

pub some-ratios : (clocks : List (Option ℕ)) (ratios : List Ratio) → false ≡ (length ratios == 0) → part_ratios clocks ratios ≡ map (ratio_at ratios) clocks
some-ratios clocks [] some = absurd (true≢false (sym some))
some-ratios clocks (ratio ∷ ratios) some = refl

-- past the end there is no instance, and so none of its clocks
up-past : (tree : InstanceTree) (levels k : ℕ) → length tree.instances ≤ k → clocks_up tree levels k ≡ []
up-past tree zero k past = ap (λ (instance : Instance). instance.clocks) (get_or_past tree.instances k (record { parent = None; «module» = 0; first = 0; end = 0; ports = []; memories = []; clocks = [] }) past)
up-past tree (suc levels) k past = ap (λ (instance : Instance). through_parent (clocks_up tree levels) instance.parent instance.clocks) (get_or_past tree.instances k (record { parent = None; «module» = 0; first = 0; end = 0; ports = []; memories = []; clocks = [] }) past)

module _ (tree : InstanceTree) (tops : List (List (Option ℕ))) (count : length tops ≡ length tree.instances) (each : (k : ℕ) → k < length tree.instances → get_or tops k [] ≡ top_clocks tree k) where
  tops-at : (k : ℕ) → get_or tops k [] ≡ top_clocks tree k
  tops-at k = by (cases_lt k (length tree.instances))
    where
      by : (k < length tree.instances) ⊎ (length tree.instances ≤ k) → get_or tops k [] ≡ top_clocks tree k
      by (inl lt) = each k lt
      by (inr past) = get_or_past tops k [] (omega (arith, count, past)) ∙ sym (up-past tree (length tree.instances) k past)

  pub stops-at : (stops : List StopInstance) → map (λ stop. clock_at (get_or tops stop.instance []) stop.clock) stops ≡ map (λ stop. clock_at (top_clocks tree stop.instance) stop.clock) stops
  stops-at [] = refl
  stops-at (stop ∷ stops) = ap₂ (λ (c : Option ℕ) (cs : List (Option ℕ)). c ∷ cs) (ap (λ own. clock_at own stop.clock) (tops-at stop.instance)) (stops-at stops)
