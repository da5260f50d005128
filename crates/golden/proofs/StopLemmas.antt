-- Stops whose clocks have an edge in each cycle act as if there were no ratios.
use Rattle.std.proofs.Common.{◌≡◌, ℕ, zero, suc, List, [], ◌∷◌, Option, None, Some, map, refl, ap, ap₂, ◌∙◌}
use Rattle.std.specs.Prelude.{◌&&◌, ◌||◌, ◌==◌}
use Rattle.std.proofs.Math.Bool.{and-true}
use Rattle.gg_flat.specs.Clock.{Ratio, edge}
use Rattle.gg_order.specs.Design.{Ordered}
use Rattle.gg_partfile.specs.declared.request.Request.{Request}
use Rattle.gg_part.specs.PartRun.{part_ratios, ratio_at}
use Rattle.gg_cut_plan.specs.Clocks.{ratio_of, ratios_of, stop_clocks, stop_ratios}
use Rattle.gg_rows.specs.Printed.{plan_stops}
use Rattle.gg_trace.specs.Last.{acts, halts, row_count}
use Rattle.gg_trace.specs.Table.{row_of}
use Rattle.gg_trace.proofs.LastLaws.{rows-agree}
use Rattle.golden.proofs.TickLemmas.{edge-every}

abbrev each_tick : Ratio
each_tick = record { m = 1; d = 1 }

-- a stop acts by its condition alone
acts-always : (ratio : Option ℕ → Ratio) → ((clock : Option ℕ) → ratio clock ≡ each_tick) → (clocks : List (Option ℕ)) (t : ℕ) (conditions : List ℕ) → acts (map ratio clocks) t conditions ≡ acts [] t conditions
acts-always ratio are [] t conditions = refl
acts-always ratio are (clock ∷ clocks) t [] = refl
acts-always ratio are (clock ∷ clocks) t (condition ∷ conditions) =
    ap₂ (λ a b. a || b) (ap (λ (r : Ratio). (condition == 1) && edge r t) (are clock) ∙ ap (λ b. (condition == 1) && b) (edge-every t) ∙ and-true (condition == 1)) (acts-always ratio are clocks t conditions)

-- each clock of a circuit, and none, has an edge in each tick
ratio-always : (names : List (List ℕ)) (clock : Option ℕ) → ratio_at (map (λ name. each_tick) names) clock ≡ each_tick
ratio-always names None = refl
ratio-always [] (Some zero) = refl
ratio-always [] (Some (suc k)) = refl
ratio-always (name ∷ names) (Some zero) = refl
ratio-always (name ∷ names) (Some (suc k)) = ratio-always names (Some k)

parts-always : (names : List (List ℕ)) (clocks : List (Option ℕ)) (t : ℕ) (conditions : List ℕ) → acts (part_ratios clocks (map (λ name. each_tick) names)) t conditions ≡ acts [] t conditions
parts-always [] clocks t conditions = refl
parts-always (name ∷ names) clocks t conditions = acts-always (ratio_at (map (λ name. each_tick) (name ∷ names))) (ratio-always (name ∷ names)) clocks t conditions

module _ (design : Ordered) (request : Request) (none : request.clocks ≡ []) where
  -- a request that gives no clocks
  pub ratios-plain : ratios_of design.tree request ≡ map (λ name. record { m = 1; d = 1 }) design.tree.clocks
  ratios-plain = ap (λ clocks. map (ratio_of clocks) design.tree.clocks) none

  halts-plain : (stops : List (List ℕ)) (t : ℕ) → halts (plan_stops design request) stops t ≡ halts [] stops t
  halts-plain stops t =
      ap (λ (ratios : List Ratio). halts (stop_ratios design.tree ratios) stops t) ratios-plain
      ∙ parts-always design.tree.clocks (stop_clocks design.tree) t (row_of stops t)

  -- as many rows
  pub rows-plain : (stops : List (List ℕ)) (n : ℕ) → row_count (halts (plan_stops design request) stops) n ≡ row_count (halts [] stops) n
  rows-plain stops n = (rows-agree (halts (plan_stops design request) stops) (halts [] stops) n (λ t lt. halts-plain stops t)).1
