use Rattle.std.proofs.Common.{◌++◌, [], ◌∷◌, ◌∙◌, sym, ap₂}
use Rattle.std.specs.Prelude.{if◌then◌else◌}
use Rattle.gg_cut_plan.specs.Channels.{wire}
use Rattle.gg_cut_plan.specs.Plan.{wire_at}
use Rattle.gg_cut_routes.specs.inside.Share.{is_past_hub}
use Rattle.gg_cut_routes.proofs.ListTables.{map-filter-next}
use Rattle.gg_cut_routes.proofs.plan.past_hub.Goals as goal

pub loop-place-preserved : goal.loop-place-preserved
loop-place-preserved c =
    let w = wire_at c.args.wires.now c.loop-place.place in
    c.in_ok-push_if.ensures
    ∙ ap₂ (λ past chosen. past ++ (if chosen then w.signal ∷ [] else [])) c.loop-place.invariant c.is_past_hub.ensures
    ∙ sym (map-filter-next (λ v. v.signal) is_past_hub c.args.wires.now c.loop-place.place (wire 0 0 0) c.loop-place-test.true)
