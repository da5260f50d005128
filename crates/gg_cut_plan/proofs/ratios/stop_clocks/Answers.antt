use Rattle.std.proofs.Common.{ℕ, List, [], Option, map, ◌∙◌, ap₂}
use Rattle.std.specs.Prelude.{slice_index_or}
use Rattle.gg_flat_tree.specs.Clocked.{clock_at}
use Rattle.gg_flat_tree.specs.declared.tree.StopInstance.{StopInstance}
use Rattle.gg_cut_plan.proofs.RatioLemmas.{stops-at}
use Rattle.gg_cut_plan.proofs.ratios.stop_clocks.Goals as goal

pub returns : goal.returns
returns c =
    (c.in_ok-clocks.ensures {u = tt})
    ∙ ap₂ (λ (tops : List (List (Option ℕ))) (stops : List StopInstance). map (λ stop. clock_at (slice_index_or tops stop.instance []) stop.clock) stops) c.deref.ensures.value c.stops.ensures
    ∙ stops-at c.args.tree.now c.in_ok-tops.tops.items c.in_ok-tops.ensures.count c.in_ok-tops.ensures.each c.args.tree.now.stops
